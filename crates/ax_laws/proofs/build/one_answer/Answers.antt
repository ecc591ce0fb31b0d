use Rattle.ax_build_work.proofs.Once.{build_once}
use Rattle.ax_laws.proofs.build.one_answer.Goals as goal

pub returns : goal.returns
returns c = λ catalogue good. build_once catalogue good
