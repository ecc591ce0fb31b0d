use Rattle.ax_walk.proofs.EarlyItems.{early_set, early_unset}
use Rattle.ax_walk.proofs.finding.marks_slot.Goals as goal

pub returns-clause-marked : goal.returns-clause-marked
returns-clause-marked c sure = early_set c.args.octet c.args.slot c.requires.0 c.requires.1 sure

pub returns-clause-unmarked : goal.returns-clause-unmarked
returns-clause-unmarked c not = early_unset c.args.octet c.args.slot c.requires.0 c.requires.1 not
