use Rattle.ax_format.proofs.SplitFronts.{longest_front, fit_within_records, none_fits}
use Rattle.ax_model.proofs.splitting.fit_is_the_longest_front.Goals as goal

pub returns-clause-front : goal.returns-clause-front
returns-clause-front c = longest_front

pub returns-clause-within : goal.returns-clause-within
returns-clause-within c = fit_within_records

pub returns-clause-none : goal.returns-clause-none
returns-clause-none c = none_fits
