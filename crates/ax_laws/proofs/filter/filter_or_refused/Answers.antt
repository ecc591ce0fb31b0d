use Rattle.ax_laws.proofs.FiltersRead.{filter_or_refused}
use Rattle.ax_laws.proofs.filter.filter_or_refused.Goals as goal

pub returns : goal.returns
returns c = filter_or_refused
