use Rattle.std.proofs.Common.{arith}
use Rattle.ax_lines.proofs.LinedOnce.{lined_once}
use Rattle.ax_laws.proofs.lines.lines_once.Goals as goal

pub returns : goal.returns
returns c = λ line_limit limit input lines others end other h k. lined_once line_limit limit 0 input lines others end other (omega arith) h k
