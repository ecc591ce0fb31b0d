use Rattle.ax_fspec.proofs.Sets.{no_marks_in}
use Rattle.ax_fspec.proofs.set.Presence.empty.Goals as goal

pub returns : goal.returns
returns c = no_marks_in
