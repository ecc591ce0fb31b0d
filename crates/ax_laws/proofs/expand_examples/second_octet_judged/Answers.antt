use Rattle.ax_laws.proofs.ExpansionExamples.{second_missing, second_undefined}
use Rattle.ax_laws.proofs.expand_examples.second_octet_judged.Goals as goal

pub returns-clause-missing : goal.returns-clause-missing
returns-clause-missing c = second_missing

pub returns-clause-undefined : goal.returns-clause-undefined
returns-clause-undefined c = second_undefined
