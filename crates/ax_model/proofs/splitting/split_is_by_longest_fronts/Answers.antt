use Rattle.ax_format.proofs.SplitLists.{longest_fronts, one_way, joined_records, all_fit}
use Rattle.ax_model.proofs.splitting.split_is_by_longest_fronts.Goals as goal

pub returns-clause-fronts : goal.returns-clause-fronts
returns-clause-fronts c = longest_fronts

pub returns-clause-one : goal.returns-clause-one
returns-clause-one c = one_way

pub returns-clause-joined : goal.returns-clause-joined
returns-clause-joined c = joined_records

pub returns-clause-fit : goal.returns-clause-fit
returns-clause-fit c = all_fit
