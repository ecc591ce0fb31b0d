-- The kinds of a specification without flaw have scales by which numbers can be converted.
use Rattle.std.proofs.Common.{◌≡◌, ℕ, ◌+◌, ◌≤◌, ◌==◌, nat_lt, Bool, true, false, ◌||◌, List, [], ◌∷◌, ◌++◌, length, codes, refl, arith}
use Rattle.std.specs.List.{AllByRecursion}
use Rattle.std.proofs.lemmas.Bool.{eqb-false, ltb-false}
use Rattle.ax_relation.proofs.DistinctNames.{both_empty, four_empty}
use Rattle.ax_format.specs.Flaws.{flaw_where, is_among, is_no_multiple, is_too_wide, is_bad_width, is_bad_element_width, is_bad_scale, is_bad_string_width, has_no_member, fixed_flaws, members_flaws, kind_flaws, slots_flaws, items_flaws, uap_flaws, NoFlaw}
use Rattle.ax_format.specs.Paths.{at, three_digits}
use Rattle.ax_format.specs.Specification.{ItemTree, SpecTree}
use Rattle.ax_format.specs.Tree.{FixedTree, element, group, MembersTree, no_members, member_and, named, spare, KindTree, fixed, extended, counted, by_fx, explicit, compound, SlotsTree, no_slots, slot_and, spare_slot, subitem, slot_count}
use Rattle.ax_format.specs.Widths.{width}
use Rattle.ax_format.specs.declared.content.Content.{Content}
use Rattle.ax_format.specs.declared.content.Content.TheVariants.{Quantity}
use Rattle.ax_format.specs.declared.flaw.FlawKind.{FlawKind}
use Rattle.ax_format.specs.declared.flaw.FlawKind.TheVariants.{BadWidth, BadScale, BadStringWidth, Empty, DuplicateName, TooWide, BodyNotOctets, TooManySlots, NotOctets, DuplicateItem}
use Rattle.ax_rescale.specs.Scales.{ContentScaled, FixedScaled, MembersScaled, Scaled, SlotsScaled}

three_empty : {A : Type 0} (a b c : List A) → a ++ b ++ c ≡ [] → (a ≡ []) × (b ≡ []) × (c ≡ [])
three_empty a b c e =
    let t = both_empty (a ++ b) c e in
    let u = both_empty a b t.0 in (u.0, u.1, t.1)

holds_not : (b : Bool) (kind : FlawKind) (path : List ℕ) → flaw_where b kind path ≡ [] → b ≡ false
holds_not true kind path e = cc
holds_not false kind path e = refl

pub neither : (a b : Bool) → (a || b) ≡ false → (a ≡ false) × (b ≡ false)
neither true b e = cc
neither false b e = (refl, e)

some_of : (n : ℕ) → (n == 0) ≡ false → 1 ≤ n
some_of n e = let no : n ≡ 0 → ⊥ = eqb-false n 0 e in positive n no
  where
    positive : (n : ℕ) → (n ≡ 0 → ⊥) → 1 ≤ n
    positive ℕ.zero h = absurd (h refl)
    positive (ℕ.suc n) h = omega arith

content_scaled : (path : List ℕ) (w : ℕ) (c : Content) → flaw_where (is_bad_element_width w c) BadWidth path ≡ [] → flaw_where (is_bad_scale c) BadScale path ≡ [] → ContentScaled w c
content_scaled path w (Quantity s) e f =
    let p = neither (is_bad_width w) (nat_lt 64 w) (holds_not (is_bad_element_width w (Quantity s)) BadWidth path e) in
    let r = neither (w == 0) (nat_lt 128 w) p.0 in
    let q = neither (s.num == 0) (s.den == 0) (holds_not (is_bad_scale (Quantity s)) BadScale path f) in
    (some_of w r.0, ltb-false 64 w p.1, some_of s.num q.0, some_of s.den q.1)
content_scaled path w _ e f = tt

mutual
  fixed_scaled : (path : List ℕ) (f : FixedTree) → fixed_flaws path f ≡ [] → FixedScaled f
  fixed_scaled path (element w c) e =
      let t = three_empty (flaw_where (is_bad_element_width w c) BadWidth path) (flaw_where (is_bad_scale c) BadScale path) (flaw_where (is_bad_string_width w c) BadStringWidth path) e in content_scaled path w c t.0 t.1
  fixed_scaled path (group ms) e = members_scaled path [] ms (both_empty (flaw_where (has_no_member ms) Empty path) (members_flaws path [] ms) e).1

  members_scaled : (path : List ℕ) (earlier : List (List ℕ)) (ms : MembersTree) → members_flaws path earlier ms ≡ [] → MembersScaled ms
  members_scaled path earlier no_members e = tt
  members_scaled path earlier (member_and (spare w) ms) e =
      let t = both_empty (flaw_where (is_bad_width w) BadWidth (at path (codes "spare"))) (members_flaws path earlier ms) e in (tt, members_scaled path earlier ms t.1)
  members_scaled path earlier (member_and (named name f) ms) e =
      let t = three_empty (flaw_where (is_among name earlier) DuplicateName (at path name)) (fixed_flaws (at path name) f) (members_flaws path (name ∷ earlier) ms) e in
      (fixed_scaled (at path name) f t.1, members_scaled path (name ∷ earlier) ms t.2)

mutual
  kind_scaled : (broken : FlawKind) (path : List ℕ) (k : KindTree) → kind_flaws broken path k ≡ [] → Scaled k
  kind_scaled broken path (fixed f) e =
      let t = three_empty (flaw_where (is_no_multiple 8 (width f)) broken path) (flaw_where (is_too_wide (width f)) TooWide path) (fixed_flaws path f) e in fixed_scaled path f t.2
  kind_scaled broken path (extended last ps) e = tt
  kind_scaled broken path (counted size k) e = kind_scaled BodyNotOctets (at path (codes "body")) k e
  kind_scaled broken path (by_fx f) e =
      let body = at path (codes "body") in
      let t = three_empty (flaw_where (is_no_multiple 8 (width f + 1)) BodyNotOctets body) (flaw_where (is_too_wide (width f)) TooWide body) (fixed_flaws body f) e in fixed_scaled body f t.2
  kind_scaled broken path explicit e = tt
  kind_scaled broken path (compound ss) e =
      let t = three_empty (flaw_where (slot_count ss == 0) Empty path) (flaw_where (nat_lt 126 (slot_count ss)) TooManySlots path) (slots_flaws path [] ss) e in slots_scaled path [] ss t.2

  slots_scaled : (path : List ℕ) (earlier : List (List ℕ)) (ss : SlotsTree) → slots_flaws path earlier ss ≡ [] → SlotsScaled ss
  slots_scaled path earlier no_slots e = tt
  slots_scaled path earlier (slot_and spare_slot ss) e = (tt, slots_scaled path earlier ss e)
  slots_scaled path earlier (slot_and (subitem name k) ss) e =
      let t = three_empty (flaw_where (is_among name earlier) DuplicateName (at path name)) (kind_flaws NotOctets (at path name) k) (slots_flaws path (name ∷ earlier) ss) e in
      (kind_scaled NotOctets (at path name) k t.1, slots_scaled path (name ∷ earlier) ss t.2)

items_scaled : (path : List ℕ) (earlier : List (List ℕ)) (items : List ItemTree) → items_flaws path earlier items ≡ [] → AllByRecursion (λ (item : ItemTree). Scaled item.kind) items
items_scaled path earlier [] e = tt
items_scaled path earlier (item ∷ items) e =
    let t = three_empty (flaw_where (is_among item.name earlier) DuplicateItem (at path item.name)) (kind_flaws NotOctets (at path item.name) item.kind) (items_flaws path (item.name ∷ earlier) items) e in
    (kind_scaled NotOctets (at path item.name) item.kind t.1, items_scaled path (item.name ∷ earlier) items t.2)

pub without_flaw_scaled : (spec : SpecTree) → NoFlaw spec → AllByRecursion (λ (item : ItemTree). Scaled item.kind) spec.items
without_flaw_scaled spec h =
    let path = three_digits spec.category in
    let place = at path (codes "uap") in
    let t = four_empty (items_flaws path [] spec.items) (flaw_where (length spec.uap == 0) Empty place) (flaw_where (nat_lt 126 (length spec.uap)) TooManySlots place) (uap_flaws place spec.items [] spec.uap) h.none in
    items_scaled path [] spec.items t.0
