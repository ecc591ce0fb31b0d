use Rattle.ax_salvage.proofs.OneSalvage.{one_salvage}
use Rattle.ax_laws.proofs.salvage.each_input_has_one_salvage.Goals as goal

pub returns : goal.returns
returns c = one_salvage
