use Rattle.ax_text_form.proofs.SixBits.{character_at}
use Rattle.ax_text_form.proofs.characters.icao.Goals as goal

pub returns : goal.returns
returns c = character_at c.args.piece c.requires
