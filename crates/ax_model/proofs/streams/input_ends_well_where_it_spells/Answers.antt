use Rattle.ax_format.proofs.InputSteps.{ends_well}
use Rattle.ax_model.proofs.streams.input_ends_well_where_it_spells.Goals as goal

pub returns : goal.returns
returns c = ends_well
