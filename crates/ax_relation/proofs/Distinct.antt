-- Kinds whose subitems differ in name, at every depth of compounds in compounds. A specification without flaw has such kinds.
use Rattle.std.specs.Prelude.{◌≡◌, ℕ, false, List, [], ◌∷◌}
use Rattle.ax_format.specs.Flaws.{is_among}
use Rattle.ax_format.specs.Tree.{KindTree, compound, SlotsTree, no_slots, slot_and, spare_slot, subitem}

abbrev mutual
  pub Distinct : KindTree → Type 0
  Distinct (compound ss) = SlotsDistinct [] ss
  Distinct _ = Unit {0}

  -- of slots that stand after others of these names
  pub SlotsDistinct : List (List ℕ) → SlotsTree → Type 0
  SlotsDistinct earlier no_slots = Unit {0}
  SlotsDistinct earlier (slot_and spare_slot ss) = SlotsDistinct earlier ss
  SlotsDistinct earlier (slot_and (subitem name k) ss) = (is_among name earlier ≡ false) × Distinct k × SlotsDistinct (name ∷ earlier) ss
