use Rattle.ax_expand.proofs.ExpansionBounds.{tree_sound, tree_marks}
use Rattle.ax_laws.proofs.expand.unflawed_is_sound.Goals as goal

pub returns-clause-sound : goal.returns-clause-sound
returns-clause-sound c = tree_sound

pub returns-clause-marks : goal.returns-clause-marks
returns-clause-marks c = tree_marks
