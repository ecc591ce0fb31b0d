-- The place of a named path is where the path leads in the specification.
use Rattle.std.proofs.Common.{◌≡◌, ℕ, ◌+◌, ◌==◌, nat_lt, Bool, true, false, cond, bytes_eq, is_some, List, [], ◌∷◌, length, map, codes, Option, Some, None, option_map, option_and_then, refl, sym, ◌∙◌, ap}
use Rattle.ax_relation.proofs.DistinctNames.{both_empty, four_empty}
use Rattle.ax_relation.proofs.Lookups.{found_is}
use Rattle.ax_relation.proofs.NamedOnce.{own_name}
use Rattle.ax_relation.proofs.SameKinds.{bytes_same}
use Rattle.ax_format.specs.Flaws.{flaw_where, is_among, items_flaws, uap_flaws, NoFlaw}
use Rattle.ax_format.specs.Paths.{at, three_digits}
use Rattle.ax_format.specs.Naming.{found_or, slot_named, kind_named, frn_of}
use Rattle.ax_check.specs.Places.{kind_steps, place_at, place_of}
use Rattle.ax_format.specs.Placed.{steps_at, place_from, named_place}
use Rattle.ax_format.specs.Specification.{ItemTree, SpecTree, first_named, slot_of_item, uap_slot, record_slots}
use Rattle.ax_format.specs.Tree.{KindTree, compound, slots_of}
use Rattle.ax_format.specs.declared.flaw.FlawKind.TheVariants.{Empty, RepeatedInUap, TooManySlots, UnknownInUap}
use Rattle.ax_format.specs.declared.place.Place.{Place}
use Rattle.ax_format.specs.declared.spec.UapSlot.{UapSlot}
use Rattle.ax_format.specs.declared.spec.UapSlot.TheVariants as Uap

-- ---- the steps are those of the path

steps_lead : (names : List (List ℕ)) (k : KindTree) (steps : List ℕ) → steps_at names k ≡ Some steps → kind_steps names k ≡ Some steps
steps_lead [] k steps e = e
steps_lead (name ∷ names) (compound ss) steps e = by (λ k s f. steps_lead names k s f) (slot_named 1 name ss) e
  where
    by_steps : (n : ℕ) (k : KindTree) (o : Option (List ℕ)) → steps_at names k ≡ o → ((s : List ℕ) → steps_at names k ≡ Some s → kind_steps names k ≡ Some s) → option_map (λ s. n ∷ s) o ≡ Some steps → option_map (λ s. n ∷ s) (kind_steps names k) ≡ Some steps
    by_steps n k None e below f = cc
    by_steps n k (Some s) e below f = ap (option_map (λ s. n ∷ s)) (below s e) ∙ f

    by : ((k : KindTree) (s : List ℕ) → steps_at names k ≡ Some s → kind_steps names k ≡ Some s) → (o : Option (ℕ × KindTree))
        → option_and_then (λ s. option_map (λ steps. s.0 ∷ steps) (steps_at names s.1)) o ≡ Some steps → option_and_then (λ s. option_map (λ steps. s.0 ∷ steps) (kind_steps names s.1)) o ≡ Some steps
    by below None e = cc
    by below (Some s) e = by_steps s.0 s.1 (steps_at names s.1) refl (below s.1) e
steps_lead (name ∷ names) _ steps e = cc

-- ---- the first name is that of an item in the UAP

record Stood (name : List ℕ) (items : List ItemTree) (slots : List UapSlot) (n t : ℕ) (k : KindTree) : Type 0 where
  item : ItemTree
  frn : frn_of n name slots ≡ Some t
  found : first_named name items ≡ Some item
  kind : item.kind ≡ k

-- what is found by a name has it
found_name : (name : List ℕ) (items : List ItemTree) (item : ItemTree) → first_named name items ≡ Some item → item.name ≡ name
found_name name [] item e = cc
found_name name (one ∷ items) item e = by (bytes_eq one.name name) refl (λ f. found_name name items item f) e
  where
    by : (b : Bool) → bytes_eq one.name name ≡ b → (first_named name items ≡ Some item → item.name ≡ name) → cond b (Some one) (first_named name items) ≡ Some item → item.name ≡ name
    by true q later e = let same : one ≡ item = cc in ap (λ i. i.name) (sym same) ∙ bytes_same one.name name q
    by false q later e = later e

stood : (path : List ℕ) (items : List ItemTree) (earlier : List (List ℕ)) (slots : List UapSlot) (n t : ℕ) (name : List ℕ) (k : KindTree) → uap_flaws path items earlier slots ≡ []
    → slot_named n name (slots_of (map (uap_slot items) slots)) ≡ Some (t, k) → Stood name items slots n t k
stood path items earlier [] n t name k f e = cc
stood path items earlier (Uap.Spare ∷ slots) n t name k f e =
    let s = stood path items earlier slots (n + 1) t name k f e in record { item = s.item; frn = s.frn; found = s.found; kind = s.kind }
stood path items earlier (Uap.Item own ∷ slots) n t name k f e =
    let flaws = both_empty (cond (is_some (first_named own items)) (flaw_where (is_among own earlier) RepeatedInUap (at path own)) (flaw_where true UnknownInUap (at path own))) (uap_flaws path items (own ∷ earlier) slots) f in
    by (first_named own items) refl flaws.0 (λ g. stood path items (own ∷ earlier) slots (n + 1) t name k flaws.1 g) e
  where
    by_name : (item : ItemTree) (b : Bool) → first_named own items ≡ Some item → bytes_eq item.name name ≡ b → (slot_named (n + 1) name (slots_of (map (uap_slot items) slots)) ≡ Some (t, k) → Stood name items slots (n + 1) t k)
        → found_or (cond b (Some item.kind) None) n (slot_named (n + 1) name (slots_of (map (uap_slot items) slots))) ≡ Some (t, k) → Stood name items (Uap.Item own ∷ slots) n t k
    by_name item true is q later e =
        let found = found_is (n, item.kind) (t, k) e in
        let same : own ≡ name = sym (found_name own items item is) ∙ bytes_same item.name name q in
        let test : bytes_eq own name ≡ true = ap (bytes_eq own) (sym same) ∙ own_name own in
        record { item = item; frn = ap (λ b. cond b (Some n) (frn_of (n + 1) name slots)) test ∙ ap Some found.0; found = ap (λ x. first_named x items) (sym same) ∙ is; kind = found.1 }
    by_name item false is q later e =
        let s = later e in
        let test : bytes_eq own name ≡ false = ap (λ x. bytes_eq x name) (sym (found_name own items item is)) ∙ q in
        record { item = s.item; frn = ap (λ b. cond b (Some n) (frn_of (n + 1) name slots)) test ∙ s.frn; found = s.found; kind = s.kind }

    by : (o : Option ItemTree) → first_named own items ≡ o → cond (is_some o) (flaw_where (is_among own earlier) RepeatedInUap (at path own)) (flaw_where true UnknownInUap (at path own)) ≡ []
        → (slot_named (n + 1) name (slots_of (map (uap_slot items) slots)) ≡ Some (t, k) → Stood name items slots (n + 1) t k)
        → found_or (kind_named name (slot_of_item o)) n (slot_named (n + 1) name (slots_of (map (uap_slot items) slots))) ≡ Some (t, k) → Stood name items (Uap.Item own ∷ slots) n t k
    by None is known later e = cc
    by (Some item) is known later e = by_name item (bytes_eq item.name name) is refl later e

-- ---- paths

one_place : (spec : SpecTree) (names : List (List ℕ)) (name : List ℕ) (place : Place) (s : ℕ × KindTree) (o : Option (List ℕ)) → Stood name spec.items spec.uap 1 s.0 s.1 → steps_at names s.1 ≡ o
    → option_map place_from (option_map (λ steps. s.0 ∷ steps) o) ≡ Some place → place_of spec (name ∷ names) ≡ Some place
one_place spec names name place s None h e f = cc
one_place spec names name place s (Some steps) h e f =
    ap (option_and_then (λ frn. option_and_then (λ item. option_map (place_at frn) (kind_steps names item.kind)) (first_named name spec.items))) h.frn
    ∙ ap (option_and_then (λ item. option_map (place_at s.0) (kind_steps names item.kind))) h.found ∙ ap (λ k. option_map (place_at s.0) (kind_steps names k)) h.kind
    ∙ ap (option_map (place_at s.0)) (steps_lead names s.1 steps e) ∙ f

pub named_place_leads : (spec : SpecTree) (name : List ℕ) (names : List (List ℕ)) (place : Place) → NoFlaw spec → named_place spec (name ∷ names) ≡ Some place → place_of spec (name ∷ names) ≡ Some place
named_place_leads spec name names place h e = by (slot_named 1 name (record_slots spec)) refl e
  where
    uap_path : List ℕ
    uap_path = at (three_digits spec.category) (codes "uap")

    uap_sound : uap_flaws uap_path spec.items [] spec.uap ≡ []
    uap_sound = (four_empty (items_flaws (three_digits spec.category) [] spec.items) (flaw_where (length spec.uap == 0) Empty uap_path) (flaw_where (nat_lt 126 (length spec.uap)) TooManySlots uap_path) (uap_flaws uap_path spec.items [] spec.uap) h.none).3

    by : (o : Option (ℕ × KindTree)) → slot_named 1 name (record_slots spec) ≡ o → option_map place_from (option_and_then (λ s. option_map (λ steps. s.0 ∷ steps) (steps_at names s.1)) o) ≡ Some place → place_of spec (name ∷ names) ≡ Some place
    by None found e = cc
    by (Some s) found e = one_place spec names name place s (steps_at names s.1) (stood uap_path spec.items [] spec.uap 1 s.0 name s.1 uap_sound found) refl e
