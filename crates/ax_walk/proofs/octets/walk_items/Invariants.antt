use Rattle.std.proofs.Common.{length, IsTrue}
use Rattle.ax_fspec.specs.Marks.{slots_of}
use Rattle.ax_codec.specs.Meaning.{meanings, linked_slots}
use Rattle.ax_walk.proofs.MarkedSteps.{MarksLead}
use Rattle.ax_walk.proofs.octets.walk_items.Given as goal

abbrev pub invariant-loop-slot : goal.invariant-loop-slot
invariant-loop-slot l = record {
  marked : MarksLead (linked_slots (meanings l.slots.table.nodes.now) l.slots.links.now) l.fn.marked l.left l.start.body.now l.start.at l.here l.notes.least;
  falls : IsTrue l.notes.least → IsTrue l.fn.notes.least;
}

abbrev pub decreases-loop-slot : goal.decreases-loop-slot
decreases-loop-slot l = length (slots_of l.left)
