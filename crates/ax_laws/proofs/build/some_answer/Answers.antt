use Rattle.ax_laws.proofs.BuiltThere.{line_answered}
use Rattle.ax_laws.proofs.build.some_answer.Goals as goal

pub returns : goal.returns
returns c = line_answered
