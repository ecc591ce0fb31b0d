use Rattle.std.proofs.Common.{◌≡◌, ◌-◌, length, drop, map}
use Rattle.ax_held_kinds.specs.Held.{held_part}
use Rattle.ax_listing.proofs.UnitLines.{PartsShown}
use Rattle.ax_listing.proofs.units.show_parts.Given as goal

abbrev pub invariant-loop-part : goal.invariant-loop-part
invariant-loop-part l = record {
  body : l.left.body.now ≡ l.from.body.now;
  parts : PartsShown l.fn.last (map held_part l.parts) l.left.last l.left.more (map held_part (drop l.left.index l.left.parts.now)) l.path l.from.body.now l.from.at l.left.at l.fn.lister.out.octets l.lister.out.octets l.count;
}

abbrev pub decreases-loop-part : goal.decreases-loop-part
decreases-loop-part l = length l.left.body.now - l.left.at
