use Rattle.std.proofs.Common.{◌≡◌, length}
use Rattle.ax_held_kinds.specs.Lines.{line_ends}
use Rattle.ax_held_kinds.proofs.lines.LineMaker.lines.Given as goal

abbrev pub invariant-loop-number : goal.invariant-loop-number
invariant-loop-number l = (length l.lines ≡ l.number) × (l.lines ≡ line_ends l.name l.width l.content l.number)
