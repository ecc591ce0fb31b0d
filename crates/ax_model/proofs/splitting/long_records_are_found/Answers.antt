use Rattle.ax_format.proofs.SplitLists.{none_long, one_long}
use Rattle.ax_model.proofs.splitting.long_records_are_found.Goals as goal

pub returns-clause-none : goal.returns-clause-none
returns-clause-none c = none_long

pub returns-clause-some : goal.returns-clause-some
returns-clause-some c = one_long
