use Rattle.ax_format.proofs.SplitLists.{by_fit}
use Rattle.ax_model.proofs.splitting.split_by_fit.Goals as goal

pub returns : goal.returns
returns c = by_fit
