-- The kinds of a specification without flaw are in bounds, and so they are sound and whole octets.
use Rattle.std.proofs.Common.{◌≡◌, ℕ, zero, suc, ◌+◌, ◌%◌, ◌<◌, ◌≤◌, ◌==◌, nat_lt, Bool, true, false, ◌||◌, not, List, [], ◌∷◌, ◌++◌, length, map, codes, decimal, bytes_eq, cond, Option, Some, inl, inr, refl, sym, ◌∙◌, ap, arith, subst}
use Rattle.std.specs.List.{AllByRecursion, find}
use Rattle.std.proofs.lemmas.List.{length-map}
use Rattle.std.proofs.lemmas.Bool.{eqb-true, eqb-false, ltb-false}
use Rattle.ax_format.specs.declared.spec.UapSlot.TheVariants as Uap
use Rattle.ax_format.specs.Flaws.{is_nothing, flaw_where, is_no_multiple, is_bad_width, is_bad_element_width, fixed_flaws, is_bad_scale, is_bad_string_width, has_no_member, members_flaws, is_among, parts_flaws, is_too_wide, names_with, kind_flaws, slots_flaws, items_flaws, NoFlaw, uap_flaws}
use Rattle.ax_format.specs.Paths.{at, three_digits}
use Rattle.ax_format.specs.InBounds.{IsWidth, FixedInBounds, MembersInBounds, PartsInBounds, InBounds, SlotsInBounds}
use Rattle.ax_format.specs.Sound.{Sound, SlotsSound}
use Rattle.ax_format.specs.Specification.{ItemTree, slot_of_item, uap_slot, SpecTree, record_slots, record_kind}
use Rattle.ax_format.specs.Standing.{Within, SlotsWithin, ItemsHold, StandsIn}
use Rattle.ax_format.specs.Tree.{FixedTree, element, group, MembersTree, no_members, member_and, spare, named, KindTree, fixed, extended, counted, by_fx, explicit, compound, slot_count, SlotsTree, no_slots, slot_and, spare_slot, subitem, SlotTree, slots_of}
use Rattle.ax_format.specs.Whole.{PartsWhole, Whole, SlotsWhole}
use Rattle.ax_format.specs.Widths.{fx_width, members_width, width}
use Rattle.ax_format.specs.declared.content.Content.{Content}
use Rattle.ax_format.specs.declared.content.Content.TheVariants.{Quantity}
use Rattle.ax_format.specs.declared.flaw.FlawKind.{FlawKind}
use Rattle.ax_format.specs.declared.flaw.FlawKind.TheVariants.{BadWidth, BadScale, BadStringWidth, Empty, DuplicateName, PartNotOctets, TooWide, BodyNotOctets, TooManySlots, NotOctets, DuplicateItem}
use Rattle.ax_format.specs.declared.spec.UapSlot.{UapSlot}
use Rattle.ax_format.specs.declared.kind.LastPart.{LastPart}

-- ---- empty lists of flaws

both_empty : {A : Type 0} (a b : List A) → a ++ b ≡ [] → (a ≡ []) × (b ≡ [])
both_empty [] b e = (refl, e)
both_empty (x ∷ a) b e = cc

holds_not : (b : Bool) (kind : FlawKind) (path : List ℕ) → flaw_where b kind path ≡ [] → b ≡ false
holds_not true kind path e = cc
holds_not false kind path e = refl

turned : (b : Bool) → not b ≡ false → b ≡ true
turned true e = refl
turned false e = cc

three_empty : {A : Type 0} (a b c : List A) → a ++ b ++ c ≡ [] → (a ≡ []) × (b ≡ []) × (c ≡ [])
three_empty a b c e =
    let t = both_empty (a ++ b) c e in
    let u = both_empty a b t.0 in (u.0, u.1, t.1)

four_empty : {A : Type 0} (a b c d : List A) → a ++ b ++ c ++ d ≡ [] → (a ≡ []) × (b ≡ []) × (c ≡ []) × (d ≡ [])
four_empty a b c d e =
    let t = both_empty (a ++ b ++ c) d e in
    let u = three_empty a b c t.0 in (u.0, u.1, u.2, t.1)

multiple : (n w : ℕ) → is_no_multiple n w ≡ false → w % n ≡ 0
multiple n w e = eqb-true (w % n) 0 (turned (w % n == 0) e)

neither : (a b : Bool) → (a || b) ≡ false → (a ≡ false) × (b ≡ false)
neither true b e = cc
neither false b e = (refl, e)

some_of : (n : ℕ) → (n == 0) ≡ false → 0 < n
some_of n e = let no_zero : n ≡ 0 → ⊥ = eqb-false n 0 e in positive n no_zero
  where
    positive : (n : ℕ) → (n ≡ 0 → ⊥) → 0 < n
    positive ℕ.zero h = absurd (h refl)
    positive (suc n) h = omega arith

at_most : (m n : ℕ) → nat_lt m n ≡ false → n ≤ m
at_most m n e = ltb-false m n e

good_width : (w : ℕ) → is_bad_width w ≡ false → IsWidth w
good_width w e = let t = neither (w == 0) (nat_lt 128 w) e in (some_of w t.0, at_most 128 w t.1)

good_element : (w : ℕ) (c : Content) → is_bad_element_width w c ≡ false → IsWidth w
good_element w (Quantity s) e = let t = neither (is_bad_width w) (nat_lt 64 w) e in good_width w t.0
good_element w _ e = good_width w e

-- ---- fixed kinds

mutual
  fixed_bounds : (path : List ℕ) (f : FixedTree) → fixed_flaws path f ≡ [] → FixedInBounds f
  fixed_bounds path (element w c) e =
      let t = three_empty (flaw_where (is_bad_element_width w c) BadWidth path) (flaw_where (is_bad_scale c) BadScale path) (flaw_where (is_bad_string_width w c) BadStringWidth path) e in
      good_element w c (holds_not (is_bad_element_width w c) BadWidth path t.0)
  fixed_bounds path (group ms) e = members_bounds path [] ms (both_empty (flaw_where (has_no_member ms) Empty path) (members_flaws path [] ms) e).1

  members_bounds : (path : List ℕ) (earlier : List (List ℕ)) (ms : MembersTree) → members_flaws path earlier ms ≡ [] → MembersInBounds ms
  members_bounds path earlier no_members e = tt
  members_bounds path earlier (member_and (spare w) ms) e =
      let t = both_empty (flaw_where (is_bad_width w) BadWidth (at path (codes "spare"))) (members_flaws path earlier ms) e in
      (good_width w (holds_not (is_bad_width w) BadWidth (at path (codes "spare")) t.0), members_bounds path earlier ms t.1)
  members_bounds path earlier (member_and (named name f) ms) e =
      let t = three_empty (flaw_where (is_among name earlier) DuplicateName (at path name)) (fixed_flaws (at path name) f) (members_flaws path (name ∷ earlier) ms) e in
      (fixed_bounds (at path name) f t.1, members_bounds path (name ∷ earlier) ms t.2)

-- ---- kinds

-- what has no flaw has a bit
mutual
  fixed_bits : (path : List ℕ) (f : FixedTree) → fixed_flaws path f ≡ [] → 0 < width f
  fixed_bits path (element w c) e = (fixed_bounds path (element w c) e).0
  fixed_bits path (group ms) e =
      let t = both_empty (flaw_where (has_no_member ms) Empty path) (members_flaws path [] ms) e in members_bits path [] ms (holds_not (has_no_member ms) Empty path t.0) t.1

  members_bits : (path : List ℕ) (earlier : List (List ℕ)) (ms : MembersTree) → has_no_member ms ≡ false → members_flaws path earlier ms ≡ [] → 0 < members_width ms
  members_bits path earlier no_members n e = cc
  members_bits path earlier (member_and (spare w) ms) n e = let b = (members_bounds path earlier (member_and (spare w) ms) e).0 in omega (arith, b.0)
  members_bits path earlier (member_and (named name f) ms) n e =
      let t = three_empty (flaw_where (is_among name earlier) DuplicateName (at path name)) (fixed_flaws (at path name) f) (members_flaws path (name ∷ earlier) ms) e in
      let some : 0 < width f = fixed_bits (at path name) f t.1 in omega arith

part_bits : (fx : ℕ) (path : List ℕ) (earlier : List (List ℕ)) (p : MembersTree) → is_nothing fx p ≡ false → members_flaws path earlier p ≡ [] → 0 < members_width p + fx
part_bits zero path earlier p n e = let some : 0 < members_width p = members_bits path earlier p n e in omega arith
part_bits (suc fx) path earlier p n e = omega arith

parts_bounds : (last : LastPart) (path : List ℕ) (i : ℕ) (earlier : List (List ℕ)) (ps : List MembersTree) → parts_flaws last path i earlier ps ≡ [] → PartsInBounds last ps
parts_bounds last path i earlier [] e = tt
parts_bounds last path i earlier (p ∷ ps) e =
    let here = at path (codes "part" ++ decimal i) in
    let fx = fx_width last (length ps) in
    let a = flaw_where (is_no_multiple 8 (members_width p + fx)) PartNotOctets here in
    let b = flaw_where (is_too_wide (members_width p)) TooWide here in
    let c = flaw_where (is_nothing fx p) Empty here in
    let t = both_empty (a ++ b ++ c ++ members_flaws path earlier p) (parts_flaws last path (i + 1) (names_with earlier p) ps) e in
    let u = four_empty a b c (members_flaws path earlier p) t.0 in (
      (
        multiple 8 (members_width p + fx) (holds_not (is_no_multiple 8 (members_width p + fx)) PartNotOctets here u.0),
        at_most 524256 (members_width p) (holds_not (is_too_wide (members_width p)) TooWide here u.1),
        members_bounds path earlier p u.3,
        part_bits fx path earlier p (holds_not (is_nothing fx p) Empty here u.2) u.3,
      ),
      parts_bounds last path (i + 1) (names_with earlier p) ps t.1,
    )

mutual
  pub kind_bounds : (broken : FlawKind) (path : List ℕ) (k : KindTree) → kind_flaws broken path k ≡ [] → InBounds k
  kind_bounds broken path (fixed f) e =
      let t = three_empty (flaw_where (is_no_multiple 8 (width f)) broken path) (flaw_where (is_too_wide (width f)) TooWide path) (fixed_flaws path f) e in (
        multiple 8 (width f) (holds_not (is_no_multiple 8 (width f)) broken path t.0),
        at_most 524256 (width f) (holds_not (is_too_wide (width f)) TooWide path t.1),
        fixed_bounds path f t.2,
      )
  kind_bounds broken path (extended last ps) e =
      let t = both_empty (flaw_where (length ps == 0) Empty path) (parts_flaws last path 0 [] ps) e in
      (some_of (length ps) (holds_not (length ps == 0) Empty path t.0), parts_bounds last path 0 [] ps t.1)
  kind_bounds broken path (counted size k) e = kind_bounds BodyNotOctets (at path (codes "body")) k e
  kind_bounds broken path (by_fx f) e =
      let body = at path (codes "body") in
      let t = three_empty (flaw_where (is_no_multiple 8 (width f + 1)) BodyNotOctets body) (flaw_where (is_too_wide (width f)) TooWide body) (fixed_flaws body f) e in (
        multiple 8 (width f + 1) (holds_not (is_no_multiple 8 (width f + 1)) BodyNotOctets body t.0),
        at_most 524256 (width f) (holds_not (is_too_wide (width f)) TooWide body t.1),
        fixed_bounds body f t.2,
      )
  kind_bounds broken path explicit e = tt
  kind_bounds broken path (compound ss) e =
      let t = three_empty (flaw_where (slot_count ss == 0) Empty path) (flaw_where (nat_lt 126 (slot_count ss)) TooManySlots path) (slots_flaws path [] ss) e in (
        some_of (slot_count ss) (holds_not (slot_count ss == 0) Empty path t.0),
        at_most 126 (slot_count ss) (holds_not (nat_lt 126 (slot_count ss)) TooManySlots path t.1),
        slots_bounds path [] ss t.2,
      )

  slots_bounds : (path : List ℕ) (earlier : List (List ℕ)) (ss : SlotsTree) → slots_flaws path earlier ss ≡ [] → SlotsInBounds ss
  slots_bounds path earlier no_slots e = tt
  slots_bounds path earlier (slot_and spare_slot ss) e = slots_bounds path earlier ss e
  slots_bounds path earlier (slot_and (subitem name k) ss) e =
      let t = three_empty (flaw_where (is_among name earlier) DuplicateName (at path name)) (kind_flaws NotOctets (at path name) k) (slots_flaws path (name ∷ earlier) ss) e in
      (kind_bounds NotOctets (at path name) k t.1, slots_bounds path (name ∷ earlier) ss t.2)

-- ---- what is in bounds is sound and whole octets

parts_in_octets : (last : LastPart) (ps : List MembersTree) → PartsInBounds last ps → PartsWhole last ps
parts_in_octets last [] h = tt
parts_in_octets last (p ∷ ps) h = (h.0.0, parts_in_octets last ps h.1)

mutual
  pub bounds_sound : (k : KindTree) → InBounds k → Sound k
  bounds_sound (fixed f) h = tt
  bounds_sound (extended last ps) h = h.0
  bounds_sound (counted size k) h = bounds_sound k h
  bounds_sound (by_fx f) h = tt
  bounds_sound explicit h = tt
  bounds_sound (compound ss) h = (h.0, slots_sound ss h.2)

  slots_sound : (ss : SlotsTree) → SlotsInBounds ss → SlotsSound ss
  slots_sound no_slots h = tt
  slots_sound (slot_and spare_slot ss) h = slots_sound ss h
  slots_sound (slot_and (subitem name k) ss) h = (bounds_sound k h.0, slots_sound ss h.1)

mutual
  pub bounds_whole : (k : KindTree) → InBounds k → Whole k
  bounds_whole (fixed f) h = h.0
  bounds_whole (extended last ps) h = parts_in_octets last ps h.1
  bounds_whole (counted size k) h = bounds_whole k h
  bounds_whole (by_fx f) h = h.0
  bounds_whole explicit h = tt
  bounds_whole (compound ss) h = slots_in_octets ss h.2

  slots_in_octets : (ss : SlotsTree) → SlotsInBounds ss → SlotsWhole ss
  slots_in_octets no_slots h = tt
  slots_in_octets (slot_and spare_slot ss) h = slots_in_octets ss h
  slots_in_octets (slot_and (subitem name k) ss) h = (bounds_whole k h.0, slots_in_octets ss h.1)

-- ---- items and records

abbrev pub ItemInBounds : ItemTree → Type 0
ItemInBounds item = InBounds item.kind

items_bounds : (path : List ℕ) (earlier : List (List ℕ)) (items : List ItemTree) → items_flaws path earlier items ≡ [] → AllByRecursion ItemInBounds items
items_bounds path earlier [] e = tt
items_bounds path earlier (item ∷ items) e =
    let t = three_empty (flaw_where (is_among item.name earlier) DuplicateItem (at path item.name)) (kind_flaws NotOctets (at path item.name) item.kind)
    (items_flaws path (item.name ∷ earlier) items) e in
    (kind_bounds NotOctets (at path item.name) item.kind t.1, items_bounds path (item.name ∷ earlier) items t.2)

-- the slot of what is looked up among the items
abbrev SlotInBounds : SlotTree → Type 0
SlotInBounds spare_slot = Unit {0}
SlotInBounds (subitem name k) = InBounds k

found_here : (b : Bool) (item : ItemTree) (o : Option ItemTree) → InBounds item.kind → SlotInBounds (slot_of_item o) → SlotInBounds (slot_of_item (cond b (Some item) o))
found_here true item o h t = h
found_here false item o h t = t

found_bounds : (test : ItemTree → Bool) (items : List ItemTree) → AllByRecursion ItemInBounds items → SlotInBounds (slot_of_item (find test items))
found_bounds test [] h = tt
found_bounds test (item ∷ items) h = found_here (test item) item (find test items) h.0 (found_bounds test items h.1)

slot_bounds : (items : List ItemTree) (slot : UapSlot) → AllByRecursion ItemInBounds items → SlotInBounds (uap_slot items slot)
slot_bounds items Uap.Spare h = tt
slot_bounds items (Uap.Item name) h = found_bounds (λ item. bytes_eq item.name name) items h

and_bounds : (slot : SlotTree) (ss : SlotsTree) → SlotInBounds slot → SlotsInBounds ss → SlotsInBounds (slot_and slot ss)
and_bounds spare_slot ss h t = t
and_bounds (subitem name k) ss h t = (h, t)

uap_bounds : (items : List ItemTree) (uap : List UapSlot) → AllByRecursion ItemInBounds items → SlotsInBounds (slots_of (map (uap_slot items) uap))
uap_bounds items [] h = tt
uap_bounds items (slot ∷ uap) h = and_bounds (uap_slot items slot) (slots_of (map (uap_slot items) uap)) (slot_bounds items slot h) (uap_bounds items uap h)

pub count_of_slots : (slots : List SlotTree) → slot_count (slots_of slots) ≡ length slots
count_of_slots [] = refl
count_of_slots (s ∷ ss) = ap suc (count_of_slots ss)

pub record_slot_count : (spec : SpecTree) → slot_count (record_slots spec) ≡ length spec.uap
record_slot_count spec = count_of_slots (map (uap_slot spec.items) spec.uap) ∙ length-map spec.uap (uap_slot spec.items)

parts_of : (spec : SpecTree) → NoFlaw spec → AllByRecursion ItemInBounds spec.items × (0 < length spec.uap) × (length spec.uap ≤ 126)
parts_of spec h =
    let path = three_digits spec.category in
    let place = at path (codes "uap") in
    let t = four_empty (items_flaws path [] spec.items) (flaw_where (length spec.uap == 0) Empty place) (flaw_where (nat_lt 126 (length spec.uap)) TooManySlots place)
    (uap_flaws place spec.items [] spec.uap) h.none in (
      items_bounds path [] spec.items t.0,
      some_of (length spec.uap) (holds_not (length spec.uap == 0) Empty place t.1),
      at_most 126 (length spec.uap) (holds_not (nat_lt 126 (length spec.uap)) TooManySlots place t.2),
    )

pub record_bounds : (spec : SpecTree) → NoFlaw spec → InBounds (record_kind spec)
record_bounds spec h =
    let t = parts_of spec h in
    (omega (arith, record_slot_count spec, t.1), omega (arith, record_slot_count spec, t.2), uap_bounds spec.items spec.uap t.0)

-- ---- kinds that stand in a specification

mutual
  pub within_bounds : (k inner : KindTree) → Within k inner → InBounds k → InBounds inner
  within_bounds (fixed f) inner e h = subst InBounds (sym e) h
  within_bounds (extended last ps) inner e h = subst InBounds (sym e) h
  within_bounds (counted size k) inner (inl e) h = subst InBounds (sym e) h
  within_bounds (counted size k) inner (inr w) h = within_bounds k inner w h
  within_bounds (by_fx f) inner e h = subst InBounds (sym e) h
  within_bounds explicit inner e h = subst InBounds (sym e) h
  within_bounds (compound ss) inner (inl e) h = subst InBounds (sym e) h
  within_bounds (compound ss) inner (inr w) h = slots_within_bounds ss inner w h.2

  slots_within_bounds : (ss : SlotsTree) (inner : KindTree) → SlotsWithin ss inner → SlotsInBounds ss → InBounds inner
  slots_within_bounds no_slots inner w h = absurd w
  slots_within_bounds (slot_and spare_slot ss) inner w h = slots_within_bounds ss inner w h
  slots_within_bounds (slot_and (subitem name k) ss) inner (inl w) h = within_bounds k inner w h.0
  slots_within_bounds (slot_and (subitem name k) ss) inner (inr w) h = slots_within_bounds ss inner w h.1

capped_bounds : (items : List ItemTree) (k : KindTree) → ItemsHold items k → AllByRecursion ItemInBounds items → InBounds k
capped_bounds [] k w h = absurd w
capped_bounds (item ∷ items) k (inl w) h = within_bounds item.kind k w h.0
capped_bounds (item ∷ items) k (inr w) h = capped_bounds items k w h.1

pub standing_bounds : (spec : SpecTree) (k : KindTree) → NoFlaw spec → StandsIn spec k → InBounds k
standing_bounds spec k h s = capped_bounds spec.items k s.items (parts_of spec h).0
