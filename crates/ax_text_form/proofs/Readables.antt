-- The records of a specification without flaw can be read back, and their slots are named where its items are.
use Rattle.std.proofs.Common.{◌≡◌, ℕ, ◌==◌, nat_lt, Bool, true, false, ◌||◌, List, [], ◌∷◌, ◌++◌, length, map, bytes_eq, cond, Option, Some, None, is_some, refl, sym, ◌∙◌, ap, arith, subst, codes}
use Rattle.std.specs.List.{AllByRecursion, find}
use Rattle.std.proofs.lemmas.Slice.Eq.{bytes_eq-Decides}
use Rattle.ax_format.proofs.Bounds.{kind_bounds}
use Rattle.ax_format.specs.Characters.{IsName}
use Rattle.ax_format.specs.Flaws.{flaw_where, is_among, kind_flaws, slots_flaws, items_flaws, uap_flaws, NoFlaw}
use Rattle.ax_format.specs.Paths.{at, three_digits}
use Rattle.ax_format.specs.InBounds.{FixedInBounds, MembersInBounds, PartsInBounds, InBounds, SlotsInBounds}
use Rattle.ax_format.specs.Specification.{ItemTree, SpecTree, first_named, slot_of_item, uap_slot, record_slots}
use Rattle.ax_format.specs.Tree.{FixedTree, element, group, MembersTree, no_members, member_and, named, spare, KindTree, fixed, extended, counted, by_fx, explicit, compound, SlotTree, SlotsTree, no_slots, slot_and, spare_slot, subitem, slot_count, slots_of}
use Rattle.ax_format.specs.declared.flaw.FlawKind.{FlawKind}
use Rattle.ax_format.specs.declared.flaw.FlawKind.TheVariants.{DuplicateName, RepeatedInUap, UnknownInUap, Empty, TooManySlots, NotOctets, BodyNotOctets, DuplicateItem}
use Rattle.ax_format.specs.declared.kind.LastPart.{LastPart}
use Rattle.ax_format.specs.declared.spec.UapSlot.{UapSlot}
use Rattle.ax_format.specs.declared.spec.UapSlot.TheVariants as Uap
use Rattle.ax_text_form.specs.Names.{KindNamed, SlotsNamed, IsNamed}
use Rattle.ax_text_form.specs.Readable.{FixedReadable, MembersReadable, Lacks, SlotLacks, Readable, SlotReadable, SlotsReadable}

-- ---- lists of flaws

pub both_empty : {A : Type 0} (a b : List A) → a ++ b ≡ [] → (a ≡ []) × (b ≡ [])
both_empty [] b e = (refl, e)
both_empty (x ∷ a) b e = cc

pub three_empty : {A : Type 0} (a b c : List A) → a ++ b ++ c ≡ [] → (a ≡ []) × (b ≡ []) × (c ≡ [])
three_empty a b c e =
    let t = both_empty (a ++ b) c e in
    let u = both_empty a b t.0 in (u.0, u.1, t.1)

four_empty : {A : Type 0} (a b c d : List A) → a ++ b ++ c ++ d ≡ [] → (a ≡ []) × (b ≡ []) × (c ≡ []) × (d ≡ [])
four_empty a b c d e =
    let t = both_empty (a ++ b ++ c) d e in
    let u = three_empty a b c t.0 in (u.0, u.1, u.2, t.1)

pub holds_not : (b : Bool) (kind : FlawKind) (path : List ℕ) → flaw_where b kind path ≡ [] → b ≡ true → ⊥
holds_not true kind path e f = cc
holds_not false kind path e f = cc

-- ---- names that stand among others

either_true : (a b : Bool) → b ≡ true → (a || b) ≡ true
either_true true b e = refl
either_true false b e = e

first_true : (a b : Bool) → a ≡ true → (a || b) ≡ true
first_true true b e = refl
first_true false b e = cc

among_more : (name other : List ℕ) (names : List (List ℕ)) → is_among name names ≡ true → is_among name (other ∷ names) ≡ true
among_more name other names h = either_true (bytes_eq name other) (is_among name names) h

among_first : (name : List ℕ) (names : List (List ℕ)) → is_among name (name ∷ names) ≡ true
among_first name names = first_true (bytes_eq name name) (is_among name names) ((bytes_eq-Decides name name).1 refl)

-- ---- kinds

mutual
  fixed_readable : (f : FixedTree) → FixedInBounds f → FixedReadable f
  fixed_readable (element w c) h = h.1
  fixed_readable (group ms) h = members_readable ms h

  members_readable : (ms : MembersTree) → MembersInBounds ms → MembersReadable ms
  members_readable no_members h = tt
  members_readable (member_and (named name f) ms) h = (fixed_readable f h.0, members_readable ms h.1)
  members_readable (member_and (spare w) ms) h = (h.0.1, members_readable ms h.1)

parts_readable : (last : LastPart) (ps : List MembersTree) → PartsInBounds last ps → AllByRecursion MembersReadable ps
parts_readable last [] h = tt
parts_readable last (p ∷ ps) h = (members_readable p h.0.2, parts_readable last ps h.1)

-- a name that stood before is no later slot's
slots_lack : (path : List ℕ) (earlier : List (List ℕ)) (ss : SlotsTree) (name : List ℕ) → slots_flaws path earlier ss ≡ [] → is_among name earlier ≡ true → Lacks name ss
slots_lack path earlier no_slots name e h = tt
slots_lack path earlier (slot_and spare_slot ss) name e h = slots_lack path earlier ss name e h
slots_lack path earlier (slot_and (subitem other k) ss) name e h =
    let t = three_empty (flaw_where (is_among other earlier) DuplicateName (at path other)) (kind_flaws NotOctets (at path other) k) (slots_flaws path (other ∷ earlier) ss) e in
    (λ same. holds_not (is_among other earlier) DuplicateName (at path other) t.0 (ap (λ n. is_among n earlier) same ∙ h), slots_lack path (other ∷ earlier) ss name t.2 (among_more name other earlier h))

mutual
  pub kind_readable : (broken : FlawKind) (path : List ℕ) (k : KindTree) → kind_flaws broken path k ≡ [] → InBounds k → Readable k
  kind_readable broken path (fixed f) e b = fixed_readable f b.2
  kind_readable broken path (extended last ps) e b = (parts_readable last ps b.1, b.0)
  kind_readable broken path (counted size k) e b = kind_readable BodyNotOctets (at path (codes "body")) k e b
  kind_readable broken path (by_fx f) e b = fixed_readable f b.2
  kind_readable broken path explicit e b = tt
  kind_readable broken path (compound ss) e b =
      let t = three_empty (flaw_where (slot_count ss == 0) Empty path) (flaw_where (nat_lt 126 (slot_count ss)) TooManySlots path) (slots_flaws path [] ss) e in (omega (arith, b.1), slots_readable path [] ss t.2 b.2)

  slots_readable : (path : List ℕ) (earlier : List (List ℕ)) (ss : SlotsTree) → slots_flaws path earlier ss ≡ [] → SlotsInBounds ss → SlotsReadable ss
  slots_readable path earlier no_slots e b = tt
  slots_readable path earlier (slot_and spare_slot ss) e b = (tt, tt, slots_readable path earlier ss e b)
  slots_readable path earlier (slot_and (subitem name k) ss) e b =
      let t = three_empty (flaw_where (is_among name earlier) DuplicateName (at path name)) (kind_flaws NotOctets (at path name) k) (slots_flaws path (name ∷ earlier) ss) e in
      (slots_lack path (name ∷ earlier) ss name t.2 (among_first name earlier), kind_readable NotOctets (at path name) k t.1 b.0, slots_readable path (name ∷ earlier) ss t.2 b.1)

-- ---- items

-- what holds for the slot of each item
abbrev AllSlots : (SlotTree → Type 0) → List ItemTree → Type 0
AllSlots P items = AllByRecursion (λ item. P (slot_of_item (Some item))) items

items_readable : (path : List ℕ) (earlier : List (List ℕ)) (items : List ItemTree) → items_flaws path earlier items ≡ [] → AllSlots SlotReadable items
items_readable path earlier [] e = tt
items_readable path earlier (item ∷ items) e =
    let t = three_empty (flaw_where (is_among item.name earlier) DuplicateItem (at path item.name)) (kind_flaws NotOctets (at path item.name) item.kind) (items_flaws path (item.name ∷ earlier) items) e in
    (kind_readable NotOctets (at path item.name) item.kind t.1 (kind_bounds NotOctets (at path item.name) item.kind t.1), items_readable path (item.name ∷ earlier) items t.2)

found_here : (P : SlotTree → Type 0) (b : Bool) (item : ItemTree) (o : Option ItemTree) → P (slot_of_item (Some item)) → P (slot_of_item o) → P (slot_of_item (cond b (Some item) o))
found_here P true item o h t = h
found_here P false item o h t = t

-- what holds for a spare slot, and for that of each item, holds for that of the item that is found
pub found_slot : (P : SlotTree → Type 0) (test : ItemTree → Bool) (items : List ItemTree) → P spare_slot → AllSlots P items → P (slot_of_item (find test items))
found_slot P test [] s h = s
found_slot P test (item ∷ items) s h = found_here P (test item) item (find test items) h.0 (found_slot P test items s h.1)

-- ---- the slot of an item by its name

-- the slot is undefined, or has the name
abbrev pub HasName : List ℕ → SlotTree → Type 0
HasName name spare_slot = Unit {0}
HasName name (subitem other k) = other ≡ name

name_here : (b : Bool) (name : List ℕ) (item : ItemTree) (o : Option ItemTree) → bytes_eq item.name name ≡ b → HasName name (slot_of_item o) → HasName name (slot_of_item (cond b (Some item) o))
name_here true name item o e h = (bytes_eq-Decides item.name name).0 e
name_here false name item o e h = h

pub found_named : (name : List ℕ) (items : List ItemTree) → HasName name (slot_of_item (first_named name items))
found_named name [] = tt
found_named name (item ∷ items) = name_here (bytes_eq item.name name) name item (first_named name items) refl (found_named name items)

-- ---- slots of the UAP

abbrev is_subitem : SlotTree → Bool
is_subitem spare_slot = false
is_subitem (subitem name k) = true

is_known : (o : Option ItemTree) → is_subitem (slot_of_item o) ≡ true → is_some o ≡ true
is_known None e = cc
is_known (Some item) e = refl

chosen : {A : Type 0} (b : Bool) (x y : List A) → b ≡ true → cond b x y ≡ [] → x ≡ []
chosen true x y e f = f
chosen false x y e f = cc

and_lacks : (slot : SlotTree) (ss : SlotsTree) (other name : List ℕ) → HasName other slot → (is_subitem slot ≡ true → other ≡ name → ⊥) → Lacks name ss → Lacks name (slot_and slot ss)
and_lacks spare_slot ss other name has h l = l
and_lacks (subitem n k) ss other name has h l = (λ e. h refl (sym has ∙ e), l)

-- the slots of names that stood before aren't named again
uap_lacks : (path : List ℕ) (items : List ItemTree) (earlier : List (List ℕ)) (uap : List UapSlot) (name : List ℕ) → uap_flaws path items earlier uap ≡ [] → is_among name earlier ≡ true → Lacks name (slots_of (map (uap_slot items) uap))
uap_lacks path items earlier [] name e h = tt
uap_lacks path items earlier (Uap.Spare ∷ uap) name e h = uap_lacks path items earlier uap name e h
uap_lacks path items earlier (Uap.Item other ∷ uap) name e h =
    let found = first_named other items in
    let t = both_empty (cond (is_some found) (flaw_where (is_among other earlier) RepeatedInUap (at path other)) (flaw_where true UnknownInUap (at path other))) (uap_flaws path items (other ∷ earlier) uap) e in
    and_lacks (slot_of_item found) (slots_of (map (uap_slot items) uap)) other name (found_named other items)
    (λ known same. holds_not (is_among other earlier) RepeatedInUap (at path other) (chosen (is_some found) _ _ (is_known found known) t.0) (ap (λ n. is_among n earlier) same ∙ h))
    (uap_lacks path items (other ∷ earlier) uap name t.1 (among_more name other earlier h))

slot_lacks : (slot : SlotTree) (ss : SlotsTree) (name : List ℕ) → HasName name slot → Lacks name ss → SlotLacks slot ss
slot_lacks spare_slot ss name has l = tt
slot_lacks (subitem other k) ss name has l = subst (λ n. Lacks n ss) (sym has) l

uap_readable : (path : List ℕ) (items : List ItemTree) (earlier : List (List ℕ)) (uap : List UapSlot) → AllSlots SlotReadable items → uap_flaws path items earlier uap ≡ [] → SlotsReadable (slots_of (map (uap_slot items) uap))
uap_readable path items earlier [] r e = tt
uap_readable path items earlier (Uap.Spare ∷ uap) r e = (tt, tt, uap_readable path items earlier uap r e)
uap_readable path items earlier (Uap.Item name ∷ uap) r e =
    let found = first_named name items in
    let t = both_empty (cond (is_some found) (flaw_where (is_among name earlier) RepeatedInUap (at path name)) (flaw_where true UnknownInUap (at path name))) (uap_flaws path items (name ∷ earlier) uap) e in (
      slot_lacks (slot_of_item found) (slots_of (map (uap_slot items) uap)) name (found_named name items) (uap_lacks path items (name ∷ earlier) uap name t.1 (among_first name earlier)),
      found_slot SlotReadable (λ item. bytes_eq item.name name) items tt r,
      uap_readable path items (name ∷ earlier) uap r t.1,
    )

-- ---- names of the slots

-- the slot is spare, or its name and those below it are names
abbrev DeeplyNamed : SlotTree → Type 0
DeeplyNamed spare_slot = Unit {0}
DeeplyNamed (subitem name k) = IsName name × KindNamed k

and_named : (slot : SlotTree) (ss : SlotsTree) → DeeplyNamed slot → SlotsNamed ss → SlotsNamed (slot_and slot ss)
and_named spare_slot ss s n = n
and_named (subitem name k) ss s n = (s.0, s.1, n)

uap_named : (items : List ItemTree) (uap : List UapSlot) → AllSlots DeeplyNamed items → SlotsNamed (slots_of (map (uap_slot items) uap))
uap_named items [] n = tt
uap_named items (Uap.Spare ∷ uap) n = uap_named items uap n
uap_named items (Uap.Item name ∷ uap) n = and_named (slot_of_item (first_named name items)) (slots_of (map (uap_slot items) uap)) (found_slot DeeplyNamed (λ item. bytes_eq item.name name) items tt n) (uap_named items uap n)

-- ---- records

pub flaws_parts : (spec : SpecTree) → NoFlaw spec → (items_flaws (three_digits spec.category) [] spec.items ≡ []) × (uap_flaws (at (three_digits spec.category) (codes "uap")) spec.items [] spec.uap ≡ [])
flaws_parts spec h =
    let path = three_digits spec.category in
    let place = at path (codes "uap") in
    let t = four_empty (items_flaws path [] spec.items) (flaw_where (length spec.uap == 0) Empty place) (flaw_where (nat_lt 126 (length spec.uap)) TooManySlots place) (uap_flaws place spec.items [] spec.uap) h.none in (t.0, t.3)

pub record_readable : (spec : SpecTree) → NoFlaw spec → SlotsReadable (record_slots spec)
record_readable spec h =
    let t = flaws_parts spec h in
    uap_readable (at (three_digits spec.category) (codes "uap")) spec.items [] spec.uap (items_readable (three_digits spec.category) [] spec.items t.0) t.1

pub record_named : (spec : SpecTree) → IsNamed spec → SlotsNamed (record_slots spec)
record_named spec n = uap_named spec.items spec.uap n.items
