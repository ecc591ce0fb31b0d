use Rattle.ax_laws.proofs.LoadsTaken.{too_many_by_itself}
use Rattle.ax_laws.proofs.load.too_large_by_its_own_load.Goals as goal

pub returns : goal.returns
returns c = too_many_by_itself
