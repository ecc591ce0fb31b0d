use Rattle.std.proofs.Common.{◌≡◌, ◌-◌, length, drop, map}
use Rattle.ax_format.specs.Plain.{part_tree}
use Rattle.ax_fspec.proofs.AtOctets.{parts_at}
use Rattle.ax_values.proofs.PartsRead.{PartsSoFar}
use Rattle.ax_values.proofs.units.decode_parts.Given as goal

abbrev pub invariant-loop-made : goal.invariant-loop-made
invariant-loop-made l = record {
  body : l.left.body.now ≡ l.body;
  parts : PartsSoFar (parts_at l.fn.last (map part_tree l.parts) l.body l.at) l.left.last l.left.more (map part_tree (drop l.left.index l.left.parts.now)) l.left.body.now l.at l.left.at l.made;
}

abbrev pub decreases-loop-made : goal.decreases-loop-made
decreases-loop-made l = length l.left.body.now - l.left.at
