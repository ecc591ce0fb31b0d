use Rattle.ax_laws.proofs.LinedThere.{lined_there}
use Rattle.ax_laws.proofs.lines.lines_there.Goals as goal

pub returns : goal.returns
returns c = λ line_limit limit input. lined_there line_limit limit input
