use Rattle.ax_expressions.proofs.TextStops.{filter_once, refused_once, filter_not_refused}
use Rattle.ax_laws.proofs.filter.text_once.Goals as goal

pub returns : goal.returns
returns c = record { filter = filter_once; fault = refused_once; never_both = filter_not_refused }
