use Rattle.ax_laws.proofs.SomeAnswer.{some_answer}
use Rattle.ax_laws.proofs.answers.some_answer.Goals as goal

pub returns : goal.returns
returns c = some_answer
