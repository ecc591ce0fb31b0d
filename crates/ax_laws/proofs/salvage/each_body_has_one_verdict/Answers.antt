use Rattle.ax_laws.proofs.BlockVerdicts.{some_verdict, only_verdict}
use Rattle.ax_laws.proofs.salvage.each_body_has_one_verdict.Goals as goal

pub returns-clause-some : goal.returns-clause-some
returns-clause-some c = some_verdict

pub returns-clause-one : goal.returns-clause-one
returns-clause-one c = only_verdict
