use Rattle.ax_laws.proofs.ExpansionExamples.{longer_spelled, third_announced, octet_behind_none}
use Rattle.ax_laws.proofs.expand_examples.fx_contents_judged.Goals as goal

pub returns-clause-longer : goal.returns-clause-longer
returns-clause-longer c = longer_spelled

pub returns-clause-too_long : goal.returns-clause-too_long
returns-clause-too_long c = third_announced

pub returns-clause-trailing : goal.returns-clause-trailing
returns-clause-trailing c = octet_behind_none
