use Rattle.std.proofs.Common.{◌≤◌, length}
use Rattle.ax_bits.specs.Bits.{AreBits}
use Rattle.ax_fspec.specs.Marks.{slots_of}
use Rattle.ax_format.specs.Presence.{NoneUndefined}
use Rattle.ax_format.specs.Tree as Tree
use Rattle.ax_fspec.specs.Reading.{entries_at}
use Rattle.ax_codec.specs.Meaning.{meanings, linked_slots}
use Rattle.ax_walk.proofs.Found.{Left}
use Rattle.ax_walk.proofs.Placed.{Passed}
use Rattle.ax_walk.specs.Values.{IsGot}
use Rattle.ax_walk.proofs.finding.find_marked.Given as goal

abbrev pub invariant-loop-next : goal.invariant-loop-next
invariant-loop-next l = record {
  within : l.here ≤ length l.start.body.now;
  clear : NoneUndefined (Tree.defined_slots (Tree.slots_of (linked_slots (meanings l.codec.nodes) l.slots))) l.left;
  are_bits : AreBits l.left;
  left : IsGot (entries_at (Tree.slots_of (linked_slots (meanings l.codec.nodes) l.slots)) l.fn.marked l.start.body.now l.start.at) → Left (linked_slots (meanings l.codec.nodes) l.slots) l.fn.marked l.left l.start.body.now l.start.at l.here l.slot;
  passed : IsGot (entries_at (Tree.slots_of (linked_slots (meanings l.codec.nodes) l.slots)) l.fn.marked l.start.body.now l.start.at) → Passed l.codec.nodes l.slots l.fn.marked l.left l.start.body.now l.start.at l.here l.slot;
}

abbrev pub decreases-loop-next : goal.decreases-loop-next
decreases-loop-next l = length (slots_of l.left)
