use Rattle.std.proofs.Common.{refl}
use Rattle.std.specs.Fmt.{digits}
use Rattle.ax_laws.proofs.text_examples.remarks_of_contents.Goals as goal

pub returns-clause-signed : goal.returns-clause-signed
unfolding digits
returns-clause-signed c = refl

pub returns-clause-zero : goal.returns-clause-zero
unfolding digits
returns-clause-zero c = refl

pub returns-clause-negative : goal.returns-clause-negative
unfolding digits
returns-clause-negative c = refl

pub returns-clause-reduced : goal.returns-clause-reduced
unfolding digits
returns-clause-reduced c = refl
