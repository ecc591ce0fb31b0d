use Rattle.std.proofs.Common.{◌-◌}
use Rattle.ax_codec.specs.Meaning.{meanings, linked_slots}
use Rattle.ax_walk.proofs.EarlyItems.{cleared, early_marks}
use Rattle.ax_walk.proofs.Found.{Left}
use Rattle.ax_walk.proofs.Placed.{Passed}
use Rattle.ax_walk.proofs.finding.find_after.Given as goal

abbrev pub invariant-loop-next : goal.invariant-loop-next
invariant-loop-next l = record {
  left : Left (linked_slots (meanings l.codec.nodes) l.slots) (early_marks l.body l.at) (cleared (l.next - 1) (early_marks l.body l.at)) l.body l.at l.here l.slot;
  passed : Passed l.codec.nodes l.slots (early_marks l.body l.at) (cleared (l.next - 1) (early_marks l.body l.at)) l.body l.at l.here l.slot;
}
