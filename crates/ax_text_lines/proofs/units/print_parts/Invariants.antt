use Rattle.std.proofs.Common.{◌≡◌, ◌-◌, length, drop, map}
use Rattle.ax_text_lines.specs.HeldText.{text_part}
use Rattle.ax_text_lines.proofs.Repeated.{PartsLead}
use Rattle.ax_text_lines.proofs.units.print_parts.Given as goal

abbrev pub invariant-loop-part : goal.invariant-loop-part
invariant-loop-part l = record {
  body : l.left.body.now ≡ l.body;
  parts : PartsLead l.fn.last (map text_part l.parts) l.left.last l.left.more (map text_part (drop l.left.index l.left.parts.now)) l.body l.at l.left.at l.fn.line.octets l.line.octets;
}

abbrev pub decreases-loop-part : goal.decreases-loop-part
decreases-loop-part l = length l.left.body.now - l.left.at
