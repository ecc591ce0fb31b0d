use Rattle.ax_lines.proofs.AnswersOnce.{answers_once}
use Rattle.ax_laws.proofs.line_stream.one_answer.Goals as goal

pub returns : goal.returns
returns g c = λ line_limit limit input lines others answers replies end other once h k. answers_once _ once line_limit limit input lines others answers replies end other h k
