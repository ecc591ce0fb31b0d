use Rattle.ax_laws.proofs.PlacedNames.{each_has_its_place}
use Rattle.ax_relation.proofs.PlacedPaths.{placed_slot_names}
use Rattle.ax_format.specs.Specification.{record_slots}
use Rattle.ax_laws.proofs.editions.placed_paths_are_the_named_paths.Goals as goal

pub returns-clause-names : goal.returns-clause-names
returns-clause-names c = λ spec. placed_slot_names 1 (record_slots spec)

pub returns-clause-places : goal.returns-clause-places
returns-clause-places c = each_has_its_place
