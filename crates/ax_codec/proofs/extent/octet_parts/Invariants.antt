use Rattle.std.proofs.Common.{◌≡◌, ◌+◌, ◌≤◌, length}
use Rattle.ax_codec.specs.Extents.{leading_octets}
use Rattle.ax_codec.specs.Meaning.{linked_parts, meanings}
use Rattle.ax_codec.specs.Table.{LinksWithin}
use Rattle.ax_codec.proofs.extent.octet_parts.Given as goal

abbrev pub invariant-loop-part : goal.invariant-loop-part
invariant-loop-part l = record {
  within : LinksWithin (length l.nodes) l.left;
  same : leading_octets l.last (linked_parts (meanings l.nodes) l.fn.parts) ≡ l.count + leading_octets l.last (linked_parts (meanings l.nodes) l.left);
  few : l.count + length l.left ≤ length l.fn.parts;
}

abbrev pub decreases-loop-part : goal.decreases-loop-part
decreases-loop-part l = length l.left
