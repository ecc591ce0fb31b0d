use Rattle.std.proofs.Common.{refl}
use Rattle.std.specs.Fmt.{digits}
use Rattle.ax_laws.proofs.rescale_examples.lines_of_misses.Goals as goal

pub returns-clause-unconverted : goal.returns-clause-unconverted
unfolding digits
returns-clause-unconverted c = refl

pub returns-clause-lost : goal.returns-clause-lost
unfolding digits
returns-clause-lost c = refl
