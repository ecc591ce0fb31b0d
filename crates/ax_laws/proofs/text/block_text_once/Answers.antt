use Rattle.ax_text_form.proofs.BlocksOnce.{same_block}
use Rattle.ax_laws.proofs.text.block_text_once.Goals as goal

pub returns : goal.returns
returns c = same_block
