use Rattle.ax_laws.proofs.LineAnswersThere.{lines_there}
use Rattle.ax_laws.proofs.line_stream.some_answer.Goals as goal

pub returns : goal.returns
returns g c = λ line_limit limit input total. lines_there _ line_limit limit input total
