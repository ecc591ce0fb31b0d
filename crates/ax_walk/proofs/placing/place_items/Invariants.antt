use Rattle.std.proofs.Common.{◌≡◌, false, length}
use Rattle.ax_fspec.specs.Marks.{slots_of}
use Rattle.ax_codec.specs.Meaning.{meanings, linked_slots}
use Rattle.ax_walk.proofs.MarkedSteps.{MarksLead}
use Rattle.ax_walk.proofs.PlacingSteps.{PlacedSoFar}
use Rattle.ax_walk.proofs.placing.place_items.Given as goal

abbrev pub invariant-loop-slot : goal.invariant-loop-slot
invariant-loop-slot l = record {
  marked : MarksLead (linked_slots (meanings l.slots.table.nodes.now) l.slots.links.now) l.fn.places.marked l.left l.start.body.now l.start.at l.here false;
  kept : l.places.marked ≡ l.fn.places.marked;
  placed : PlacedSoFar l.slots.table.nodes.now l.slots.links.now l.fn.places.marked l.left l.start.body.now l.start.at l.here l.places.windows;
}

abbrev pub decreases-loop-slot : goal.decreases-loop-slot
decreases-loop-slot l = length (slots_of l.left)
