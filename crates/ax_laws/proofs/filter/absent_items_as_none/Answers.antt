use Rattle.ax_laws.proofs.AbsentItems.{absent_same}
use Rattle.ax_laws.proofs.filter.absent_items_as_none.Goals as goal

pub returns : goal.returns
returns c = absent_same
