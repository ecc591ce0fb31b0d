use Rattle.std.proofs.Common.{◌≡◌, ◌<◌, length}
use Rattle.ax_codec.specs.Meaning.{meanings, linked_parts}
use Rattle.ax_codec.specs.Table.{LinksWithin}
use Rattle.ax_walk.proofs.UnitSteps.{PartsLead}
use Rattle.ax_walk.proofs.units.walk_parts.Given as goal

abbrev pub invariant-loop-part : goal.invariant-loop-part
invariant-loop-part l = record {
  some : 0 < length l.left;
  links : LinksWithin (length l.nodes) l.left;
  parts : PartsLead l.last (linked_parts (meanings l.nodes) l.parts) (linked_parts (meanings l.nodes) l.left) l.start.body.now l.start.at l.here;
  least : l.notes.least ≡ l.fn.notes.least;
}

abbrev pub decreases-loop-part : goal.decreases-loop-part
decreases-loop-part l = length l.left
