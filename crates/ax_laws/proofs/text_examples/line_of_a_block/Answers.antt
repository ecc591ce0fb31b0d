use Rattle.std.proofs.Common.{refl}
use Rattle.std.specs.Fmt.{digits}
use Rattle.ax_laws.proofs.text_examples.line_of_a_block.Goals as goal

pub returns : goal.returns
unfolding digits
returns c = refl
