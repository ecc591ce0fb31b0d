use Rattle.ax_laws.proofs.OneAnswer.{one_answer}
use Rattle.ax_laws.proofs.answers.one_answer.Goals as goal

pub returns : goal.returns
returns c = one_answer
