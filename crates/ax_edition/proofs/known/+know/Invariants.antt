use Rattle.std.proofs.Common.{take}
use Rattle.ax_edition.specs.Known.{kind_found, known_slots}
use Rattle.ax_relation.specs.Known.{Says}
use Rattle.ax_format.specs.Plain.{slots_tree}
use Rattle.ax_edition.proofs.known.+know.Given as goal

abbrev pub invariant-know_slots-loop-slot : goal.invariant-know_slots-loop-slot
invariant-know_slots-loop-slot l = Says (known_slots l.names (slots_tree (take l.slot-index l.slots)) (kind_found l.index)) l.fn.known l.known
