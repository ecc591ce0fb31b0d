-- What may be converted between two editions: the slots of the old one from which it comes, and the records in which it stands.
use Rattle.std.specs.Prelude.{ℕ, Bool, false, ◌||◌, is_some, if◌then◌else◌, List, [], ◌∷◌}
use Rattle.ax_format.specs.At.{slot_value}
use Rattle.ax_format.specs.Specification.{SpecTree}
use Rattle.ax_format.specs.Tree.{EntriesTree}
use Rattle.ax_rescale.specs.Mappings.{MappingTree, mapping_from, MappingsTree, no_mappings, mapping_and, record_mappings}

-- ---- mappings

abbrev mutual
  -- something is converted by the mapping, or by one below it
  pub mapping_converts : MappingTree → Bool
  mapping_converts (mapping_from s t p c below) = is_some p || some_converts below

  -- by one of these mappings
  pub some_converts : MappingsTree → Bool
  some_converts no_mappings = false
  some_converts (mapping_and w ws) = mapping_converts w || some_converts ws

abbrev pub old_slot : MappingTree → ℕ
old_slot (mapping_from s t p c below) = s

-- the old slots of those by which something is converted, in their order
abbrev pub converting_of : List MappingTree → List ℕ
converting_of [] = []
converting_of (w ∷ ws) = if mapping_converts w then old_slot w ∷ converting_of ws else converting_of ws

-- the slots of the old edition from which something is converted to the new one; none where no path of both is converted
abbrev pub converting_slots : SpecTree → SpecTree → List ℕ
converting_slots old new = converting_of (record_mappings old new)

-- ---- records

-- a value stands in one of the slots
abbrev pub stands_in : List ℕ → EntriesTree → Bool
stands_in [] es = false
stands_in (s ∷ ss) es = is_some (slot_value s es) || stands_in ss es

-- so it is in one of the records
abbrev pub some_stands : List ℕ → List EntriesTree → Bool
some_stands ss [] = false
some_stands ss (r ∷ rs) = stands_in ss r || some_stands ss rs
