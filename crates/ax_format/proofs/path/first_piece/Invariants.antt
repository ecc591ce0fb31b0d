use Rattle.std.proofs.Common.{◌≡◌, take, drop}
use Rattle.ax_format.specs.Paths.{onto, pieces}
use Rattle.ax_format.proofs.path.first_piece.Given as goal

abbrev pub invariant-loop-at : goal.invariant-loop-at
invariant-loop-at l = pieces l.text ≡ onto (take l.at l.text) (pieces (drop l.at l.text))
