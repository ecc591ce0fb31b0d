use Rattle.ax_format.proofs.Stays.{told_spells_none}
use Rattle.ax_model.proofs.laws.told_spells_none.Goals as goal

pub returns : goal.returns
returns c = told_spells_none
