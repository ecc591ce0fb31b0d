use Rattle.ax_laws.proofs.FilesThere.{give_or_end}
use Rattle.ax_laws.proofs.load.files_give_or_end.Goals as goal

pub returns : goal.returns
returns c = give_or_end
