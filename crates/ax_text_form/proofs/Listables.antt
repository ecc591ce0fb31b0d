-- The records of a specification without flaw can be listed.
use Rattle.std.proofs.Common.{◌≡◌, ℕ, ◌+◌, ◌<◌, ◌==◌, nat_lt, Bool, true, false, ◌||◌, List, [], ◌∷◌, ◌++◌, length, map, bytes_eq, codes, decimal, refl, arith}
use Rattle.std.specs.List.{AllByRecursion}
use Rattle.std.proofs.lemmas.Bool.{eqb-false, ltb-false}
use Rattle.ax_format.proofs.Bounds.{kind_bounds}
use Rattle.ax_format.specs.Flaws.{flaw_where, is_among, is_no_multiple, is_too_wide, is_bad_width, is_bad_element_width, is_bad_scale, is_bad_string_width, is_nothing, has_no_member, fixed_flaws, members_flaws, parts_flaws, names_with, kind_flaws, slots_flaws, items_flaws, NoFlaw}
use Rattle.ax_format.specs.InBounds.{FixedInBounds, MembersInBounds, PartsInBounds, InBounds, SlotsInBounds}
use Rattle.ax_format.specs.Paths.{at, three_digits}
use Rattle.ax_format.specs.Specification.{ItemTree, SpecTree, uap_slot, record_slots}
use Rattle.ax_format.specs.Tree.{FixedTree, element, group, MembersTree, no_members, member_and, named, spare, KindTree, fixed, extended, counted, by_fx, explicit, compound, SlotsTree, no_slots, slot_and, spare_slot, subitem, slot_count, slots_of}
use Rattle.ax_format.specs.Widths.{width, members_width, fx_width}
use Rattle.ax_format.specs.declared.content.Content.{Content}
use Rattle.ax_format.specs.declared.content.Content.TheVariants.{Quantity}
use Rattle.ax_format.specs.declared.flaw.FlawKind.{FlawKind}
use Rattle.ax_format.specs.declared.flaw.FlawKind.TheVariants.{BadWidth, BadScale, BadStringWidth, Empty, DuplicateName, PartNotOctets, TooWide, BodyNotOctets, TooManySlots, NotOctets, DuplicateItem}
use Rattle.ax_format.specs.declared.kind.LastPart.{LastPart}
use Rattle.ax_format.specs.declared.spec.UapSlot.{UapSlot}
use Rattle.ax_format.specs.declared.spec.UapSlot.TheVariants as Uap
use Rattle.ax_text_form.specs.Listable.{ContentListable, FixedListable, MembersListable, KindListable, SlotListable, SlotsListable}
use Rattle.ax_text_form.proofs.Readables.{both_empty, three_empty, holds_not, found_slot, flaws_parts}

-- ---- contents

neither : (a b : Bool) → ((a || b) ≡ true → ⊥) → (a ≡ false) × (b ≡ false)
neither true b h = absurd (h refl)
neither false true h = absurd (h refl)
neither false false h = (refl, refl)

some_of : (n : ℕ) → (n == 0) ≡ false → 0 < n
some_of n e = let no : n ≡ 0 → ⊥ = eqb-false n 0 e in positive n no
  where
    positive : (n : ℕ) → (n ≡ 0 → ⊥) → 0 < n
    positive ℕ.zero h = absurd (h refl)
    positive (ℕ.suc n) h = omega arith

content_listable : (path : List ℕ) (w : ℕ) (c : Content) → flaw_where (is_bad_element_width w c) BadWidth path ≡ [] → flaw_where (is_bad_scale c) BadScale path ≡ [] → ContentListable w c
content_listable path w (Quantity s) e f =
    let p = neither (is_bad_width w) (nat_lt 64 w) (holds_not (is_bad_element_width w (Quantity s)) BadWidth path e) in
    let q = neither (s.num == 0) (s.den == 0) (holds_not (is_bad_scale (Quantity s)) BadScale path f) in
    (ltb-false 64 w p.1, some_of s.den q.1)
content_listable path w _ e f = tt

-- ---- fixed kinds

mutual
  fixed_listable : (path : List ℕ) (f : FixedTree) → fixed_flaws path f ≡ [] → FixedInBounds f → FixedListable f
  fixed_listable path (element w c) e b =
      let t = three_empty (flaw_where (is_bad_element_width w c) BadWidth path) (flaw_where (is_bad_scale c) BadScale path) (flaw_where (is_bad_string_width w c) BadStringWidth path) e in (b, content_listable path w c t.0 t.1)
  fixed_listable path (group ms) e b = members_listable path [] ms (both_empty (flaw_where (has_no_member ms) Empty path) (members_flaws path [] ms) e).1 b

  members_listable : (path : List ℕ) (earlier : List (List ℕ)) (ms : MembersTree) → members_flaws path earlier ms ≡ [] → MembersInBounds ms → MembersListable ms
  members_listable path earlier no_members e b = tt
  members_listable path earlier (member_and (spare w) ms) e b =
      let t = both_empty (flaw_where (is_bad_width w) BadWidth (at path (codes "spare"))) (members_flaws path earlier ms) e in (tt, members_listable path earlier ms t.1 b.1)
  members_listable path earlier (member_and (named name f) ms) e b =
      let t = three_empty (flaw_where (is_among name earlier) DuplicateName (at path name)) (fixed_flaws (at path name) f) (members_flaws path (name ∷ earlier) ms) e in
      (fixed_listable (at path name) f t.1 b.0, members_listable path (name ∷ earlier) ms t.2 b.1)

-- ---- kinds

parts_listable : (last : LastPart) (path : List ℕ) (i : ℕ) (earlier : List (List ℕ)) (ps : List MembersTree) → parts_flaws last path i earlier ps ≡ [] → PartsInBounds last ps → AllByRecursion MembersListable ps
parts_listable last path i earlier [] e b = tt
parts_listable last path i earlier (p ∷ ps) e b =
    let here = at path (codes "part" ++ decimal i) in
    let fx = fx_width last (length ps) in
    let own = flaw_where (is_no_multiple 8 (members_width p + fx)) PartNotOctets here ++ flaw_where (is_too_wide (members_width p)) TooWide here ++ flaw_where (is_nothing fx p) Empty here in
    let t = three_empty own (members_flaws path earlier p) (parts_flaws last path (i + 1) (names_with earlier p) ps) e in
    (members_listable path earlier p t.1 b.0.2, parts_listable last path (i + 1) (names_with earlier p) ps t.2 b.1)

mutual
  kind_listable : (broken : FlawKind) (path : List ℕ) (k : KindTree) → kind_flaws broken path k ≡ [] → InBounds k → KindListable k
  kind_listable broken path (fixed f) e b =
      let t = three_empty (flaw_where (is_no_multiple 8 (width f)) broken path) (flaw_where (is_too_wide (width f)) TooWide path) (fixed_flaws path f) e in fixed_listable path f t.2 b.2
  kind_listable broken path (extended last ps) e b = let t = both_empty (flaw_where (length ps == 0) Empty path) (parts_flaws last path 0 [] ps) e in parts_listable last path 0 [] ps t.1 b.1
  kind_listable broken path (counted size k) e b = kind_listable BodyNotOctets (at path (codes "body")) k e b
  kind_listable broken path (by_fx f) e b =
      let body = at path (codes "body") in
      let t = three_empty (flaw_where (is_no_multiple 8 (width f + 1)) BodyNotOctets body) (flaw_where (is_too_wide (width f)) TooWide body) (fixed_flaws body f) e in fixed_listable body f t.2 b.2
  kind_listable broken path explicit e b = tt
  kind_listable broken path (compound ss) e b =
      let t = three_empty (flaw_where (slot_count ss == 0) Empty path) (flaw_where (nat_lt 126 (slot_count ss)) TooManySlots path) (slots_flaws path [] ss) e in slots_listable path [] ss t.2 b.2

  slots_listable : (path : List ℕ) (earlier : List (List ℕ)) (ss : SlotsTree) → slots_flaws path earlier ss ≡ [] → SlotsInBounds ss → SlotsListable ss
  slots_listable path earlier no_slots e b = tt
  slots_listable path earlier (slot_and spare_slot ss) e b = (tt, slots_listable path earlier ss e b)
  slots_listable path earlier (slot_and (subitem name k) ss) e b =
      let t = three_empty (flaw_where (is_among name earlier) DuplicateName (at path name)) (kind_flaws NotOctets (at path name) k) (slots_flaws path (name ∷ earlier) ss) e in
      (kind_listable NotOctets (at path name) k t.1 b.0, slots_listable path (name ∷ earlier) ss t.2 b.1)

-- ---- items and records

abbrev ItemListable : ItemTree → Type 0
ItemListable item = KindListable item.kind

items_listable : (path : List ℕ) (earlier : List (List ℕ)) (items : List ItemTree) → items_flaws path earlier items ≡ [] → AllByRecursion ItemListable items
items_listable path earlier [] e = tt
items_listable path earlier (item ∷ items) e =
    let t = three_empty (flaw_where (is_among item.name earlier) DuplicateItem (at path item.name)) (kind_flaws NotOctets (at path item.name) item.kind) (items_flaws path (item.name ∷ earlier) items) e in
    (kind_listable NotOctets (at path item.name) item.kind t.1 (kind_bounds NotOctets (at path item.name) item.kind t.1), items_listable path (item.name ∷ earlier) items t.2)

uap_listable : (items : List ItemTree) (uap : List UapSlot) → AllByRecursion ItemListable items → SlotsListable (slots_of (map (uap_slot items) uap))
uap_listable items [] h = tt
uap_listable items (Uap.Spare ∷ uap) h = (tt, uap_listable items uap h)
uap_listable items (Uap.Item name ∷ uap) h = (found_slot SlotListable (λ item. bytes_eq item.name name) items tt h, uap_listable items uap h)

pub record_listable : (spec : SpecTree) → NoFlaw spec → SlotsListable (record_slots spec)
record_listable spec h = uap_listable spec.items spec.uap (items_listable (three_digits spec.category) [] spec.items (flaws_parts spec h).0)
