-- The subitems of a specification without flaw differ in name, and so do its items in the UAP.
use Rattle.std.proofs.Common.{◌≡◌, ℕ, ◌==◌, nat_lt, Bool, true, false, cond, List, [], ◌∷◌, ◌++◌, length, map, codes, bytes_eq, is_some, Some, refl, sym, ◌∙◌, ap, subst}
use Rattle.std.specs.List.{AllByRecursion}
use Rattle.ax_relation.proofs.SameKinds.{bytes_same}
use Rattle.ax_relation.proofs.Distinct.{Distinct, SlotsDistinct}
use Rattle.ax_format.specs.Flaws.{flaw_where, is_among, kind_flaws, slots_flaws, items_flaws, uap_flaws, NoFlaw}
use Rattle.ax_format.specs.Paths.{at, three_digits}
use Rattle.ax_format.specs.Specification.{ItemTree, SpecTree, first_named, slot_of_item, uap_slot, record_kind}
use Rattle.ax_format.specs.Tree.{KindTree, compound, SlotsTree, SlotTree, no_slots, slot_and, spare_slot, subitem, slot_count, slots_of}
use Rattle.ax_format.specs.declared.flaw.FlawKind.TheVariants.{DuplicateItem, DuplicateName, Empty, NotOctets, RepeatedInUap, TooManySlots, UnknownInUap}
use Rattle.ax_format.specs.declared.flaw.FlawKind.{FlawKind}
use Rattle.ax_format.specs.declared.spec.UapSlot.{UapSlot}
use Rattle.ax_format.specs.declared.spec.UapSlot.TheVariants as Uap

pub both_empty : {A : Type 0} (a b : List A) → a ++ b ≡ [] → (a ≡ []) × (b ≡ [])
both_empty [] b e = (refl, e)
both_empty (x ∷ a) b e = cc

three_empty : {A : Type 0} (a b c : List A) → a ++ b ++ c ≡ [] → (a ≡ []) × (b ≡ []) × (c ≡ [])
three_empty a b c e =
    let t = both_empty (a ++ b) c e in
    let u = both_empty a b t.0 in (u.0, u.1, t.1)

pub four_empty : {A : Type 0} (a b c d : List A) → a ++ b ++ c ++ d ≡ [] → (a ≡ []) × (b ≡ []) × (c ≡ []) × (d ≡ [])
four_empty a b c d e =
    let t = both_empty (a ++ b ++ c) d e in
    let u = three_empty a b c t.0 in (u.0, u.1, u.2, t.1)

holds_not : (b : Bool) (kind : FlawKind) (path : List ℕ) → flaw_where b kind path ≡ [] → b ≡ false
holds_not true kind path e = cc
holds_not false kind path e = refl

mutual
  pub kind_distinct : (broken : FlawKind) (path : List ℕ) (k : KindTree) → kind_flaws broken path k ≡ [] → Distinct k
  kind_distinct broken path (compound ss) e =
      slots_distinct path [] ss (three_empty (flaw_where (slot_count ss == 0) Empty path) (flaw_where (nat_lt 126 (slot_count ss)) TooManySlots path) (slots_flaws path [] ss) e).2
  kind_distinct broken path _ e = tt

  slots_distinct : (path : List ℕ) (earlier : List (List ℕ)) (ss : SlotsTree) → slots_flaws path earlier ss ≡ [] → SlotsDistinct earlier ss
  slots_distinct path earlier no_slots e = tt
  slots_distinct path earlier (slot_and spare_slot ss) e = slots_distinct path earlier ss e
  slots_distinct path earlier (slot_and (subitem name k) ss) e =
      let t = three_empty (flaw_where (is_among name earlier) DuplicateName (at path name)) (kind_flaws NotOctets (at path name) k) (slots_flaws path (name ∷ earlier) ss) e in (
        holds_not (is_among name earlier) DuplicateName (at path name) t.0,
        kind_distinct NotOctets (at path name) k t.1,
        slots_distinct path (name ∷ earlier) ss t.2,
      )

items_distinct : (path : List ℕ) (earlier : List (List ℕ)) (items : List ItemTree) → items_flaws path earlier items ≡ [] → AllByRecursion (λ item. Distinct item.kind) items
items_distinct path earlier [] e = tt
items_distinct path earlier (item ∷ items) e =
    let t = three_empty (flaw_where (is_among item.name earlier) DuplicateItem (at path item.name)) (kind_flaws NotOctets (at path item.name) item.kind) (items_flaws path (item.name ∷ earlier) items) e in
    (kind_distinct NotOctets (at path item.name) item.kind t.1, items_distinct path (item.name ∷ earlier) items t.2)

-- the item of a name has it, and its subitems differ
record Found (name : List ℕ) (items : List ItemTree) : Type 0 where
  pub item : ItemTree
  pub is : first_named name items ≡ Some item
  pub named : item.name ≡ name
  pub distinct : Distinct item.kind

found : (name : List ℕ) (items : List ItemTree) → AllByRecursion (λ item. Distinct item.kind) items → is_some (first_named name items) ≡ true → Found name items
found name [] d e = cc
found name (item ∷ items) d e = by (bytes_eq item.name name) refl (λ f. found name items d.1 f) e
  where
    by : (b : Bool) → bytes_eq item.name name ≡ b → (is_some (first_named name items) ≡ true → Found name items)
        → is_some (cond b (Some item) (first_named name items)) ≡ true → Found name (item ∷ items)
    by true q later e = record { item = item; is = ap (λ b. cond b (Some item) (first_named name items)) q; named = bytes_same item.name name q; distinct = d.0 }
    by false q later e =
        let f = later e in
        record { item = f.item; is = ap (λ b. cond b (Some item) (first_named name items)) q ∙ f.is; named = f.named; distinct = f.distinct }

uap_distinct : (path : List ℕ) (items : List ItemTree) (earlier : List (List ℕ)) (slots : List UapSlot) → AllByRecursion (λ item. Distinct item.kind) items
    → uap_flaws path items earlier slots ≡ [] → SlotsDistinct earlier (slots_of (map (uap_slot items) slots))
uap_distinct path items earlier [] d e = tt
uap_distinct path items earlier (Uap.Spare ∷ slots) d e = uap_distinct path items earlier slots d e
uap_distinct path items earlier (Uap.Item name ∷ slots) d e =
    let t = both_empty (cond (is_some (first_named name items)) (flaw_where (is_among name earlier) RepeatedInUap (at path name)) (flaw_where true UnknownInUap (at path name))) (uap_flaws path items (name ∷ earlier) slots) e in
    let known = is_known (is_some (first_named name items)) t.0 in
    let f = found name items d known.0 in
    let rest = uap_distinct path items (name ∷ earlier) slots d t.1 in
    let P : SlotTree → Type 0 = λ s. SlotsDistinct earlier (slot_and s (slots_of (map (uap_slot items) slots))) in
    let Q : List ℕ → Type 0 = λ n. (is_among n earlier ≡ false) × Distinct f.item.kind × SlotsDistinct (n ∷ earlier) (slots_of (map (uap_slot items) slots)) in
    subst P (sym (ap slot_of_item f.is)) (subst Q (sym f.named) (known.1, f.distinct, rest))
  where
    is_known : (b : Bool) → cond b (flaw_where (is_among name earlier) RepeatedInUap (at path name)) (flaw_where true UnknownInUap (at path name)) ≡ [] → (b ≡ true) × (is_among name earlier ≡ false)
    is_known true e = (refl, holds_not (is_among name earlier) RepeatedInUap (at path name) e)
    is_known false e = cc

pub record_distinct : (spec : SpecTree) → NoFlaw spec → Distinct (record_kind spec)
record_distinct spec h =
    let digits = three_digits spec.category in
    let place = at digits (codes "uap") in
    let t = four_empty (items_flaws digits [] spec.items) (flaw_where (length spec.uap == 0) Empty place) (flaw_where (nat_lt 126 (length spec.uap)) TooManySlots place) (uap_flaws place spec.items [] spec.uap) h.none in
    uap_distinct place spec.items [] spec.uap (items_distinct digits [] spec.items t.0) t.3
