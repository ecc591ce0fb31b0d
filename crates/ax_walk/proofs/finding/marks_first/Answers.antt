use Rattle.std.proofs.Common.{arith}
use Rattle.ax_walk.proofs.FirstItems.{first_some, first_set, first_unset}
use Rattle.ax_walk.proofs.finding.marks_first.Goals as goal

pub returns-clause-some : goal.returns-clause-some
returns-clause-some c sure = first_some c.args.octet c.args.slot (omega arith) sure

pub returns-clause-marked : goal.returns-clause-marked
returns-clause-marked c sure = first_set c.args.octet c.args.slot (omega arith) c.requires sure

pub returns-clause-none : goal.returns-clause-none
returns-clause-none c sure = first_unset c.args.octet c.args.slot c.requires sure
