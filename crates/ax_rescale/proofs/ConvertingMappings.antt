-- Whether one of some mappings converts, and from which slots, one mapping at a time.
use Rattle.std.proofs.Common.{◌≡◌, ℕ, ◌+◌, ◌<◌, ◌≤◌, Bool, true, false, cond, ◌||◌, List, [], ◌∷◌, ◌++◌, length, map, drop, get_or, refl, sym, ◌∙◌, ap, append_assoc, append-nil}
use Rattle.std.proofs.lemmas.List.{drop_all}
use Rattle.ax_format.proofs.Namings.{from_place}
use Rattle.ax_rescale.specs.Converts.{converting_of, old_slot, some_converts, mapping_converts}
use Rattle.ax_rescale.specs.PlainMappings.{mapping_tree, mappings_tree}
use Rattle.ax_rescale.specs.Mappings.{MappingTree}
use Rattle.ax_rescale.specs.declared.mappings.SlotMapping.{SlotMapping}

module _ (i : ℕ) (mappings : List SlotMapping) where
  module _ (w : SlotMapping) (within : i < length mappings) (is : w ≡ get_or mappings i w) where
    opened : some_converts (mappings_tree (drop i mappings)) ≡ (mapping_converts (mapping_tree w) || some_converts (mappings_tree (drop (i + 1) mappings)))
    opened = ap (λ x. some_converts (mappings_tree x)) (from_place mappings i w within is)

    pub test_here : some_converts (mappings_tree (drop i mappings)) ≡ some_converts (mappings_tree mappings) → mapping_converts (mapping_tree w) ≡ true → true ≡ some_converts (mappings_tree mappings)
    test_here h e = sym (ap (λ b. b || some_converts (mappings_tree (drop (i + 1) mappings))) e) ∙ sym opened ∙ h

    pub test_later : some_converts (mappings_tree (drop i mappings)) ≡ some_converts (mappings_tree mappings) → mapping_converts (mapping_tree w) ≡ false → some_converts (mappings_tree (drop (i + 1) mappings)) ≡ some_converts (mappings_tree mappings)
    test_later h e = sym (ap (λ b. b || some_converts (mappings_tree (drop (i + 1) mappings))) e) ∙ sym opened ∙ h

  pub test_none : length mappings ≤ i → some_converts (mappings_tree (drop i mappings)) ≡ some_converts (mappings_tree mappings) → false ≡ some_converts (mappings_tree mappings)
  test_none past h = sym (ap (λ x. some_converts (mappings_tree x)) (drop_all i mappings past)) ∙ h

pub ruleset tests = (test_here, test_later, test_none)

-- ---- slots

first_slot : (w : MappingTree) (ws : List MappingTree) → converting_of (w ∷ ws) ≡ converting_of (w ∷ []) ++ converting_of ws
first_slot w ws = by (mapping_converts w)
  where
    by : (b : Bool) → cond b (old_slot w ∷ converting_of ws) (converting_of ws) ≡ cond b (old_slot w ∷ []) [] ++ converting_of ws
    by true = refl
    by false = refl

module _ (i : ℕ) (mappings : List SlotMapping) (slots new all : List ℕ) where
  pub slots_step : (w : SlotMapping) → i < length mappings → w ≡ get_or mappings i w → new ≡ slots ++ converting_of (mapping_tree w ∷ []) → slots ++ converting_of (map mapping_tree (drop i mappings)) ≡ all → new ++ converting_of (map mapping_tree (drop (i + 1) mappings)) ≡ all
  slots_step w within is e h =
      let later = converting_of (map mapping_tree (drop (i + 1) mappings)) in
      ap (λ x. x ++ later) e ∙ append_assoc slots (converting_of (mapping_tree w ∷ [])) later
      ∙ ap (λ x. slots ++ x) (sym (ap (λ x. converting_of (map mapping_tree x)) (from_place mappings i w within is) ∙ first_slot (mapping_tree w) (map mapping_tree (drop (i + 1) mappings)))) ∙ h

pub slots_end : (i : ℕ) (mappings : List SlotMapping) (slots all : List ℕ) → length mappings ≤ i → slots ++ converting_of (map mapping_tree (drop i mappings)) ≡ all → slots ≡ all
slots_end i mappings slots all past h = sym (append-nil slots) ∙ ap (λ x. slots ++ converting_of (map mapping_tree x)) (sym (drop_all i mappings past)) ∙ h

pub ruleset slots = (slots_step, slots_end)
