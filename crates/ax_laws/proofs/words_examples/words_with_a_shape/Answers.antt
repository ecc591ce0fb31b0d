use Rattle.std.proofs.Common.{refl, arith}
use Rattle.std.specs.Fmt.{digits}
use Rattle.ax_laws.proofs.words_examples.words_with_a_shape.Goals as goal

pub returns : goal.returns
unfolding digits
returns c = record {
  check = record { words_are = refl; in_bounds = tt; plain = (refl, tt); few = omega arith };
  canon = record { words_are = refl; in_bounds = omega arith; plain = (refl, (tt, tt)); few = omega arith };
  filter = record { words_are = refl; in_bounds = (omega arith, omega arith); plain = (refl, (refl, tt)); few = omega arith };
  trial = record { words_are = refl; in_bounds = (omega arith, omega arith); plain = (refl, (refl, (refl, tt))); few = omega arith };
  expand = record { words_are = refl; in_bounds = tt; plain = (refl, (refl, tt)); few = omega arith };
  convert = record { words_are = refl; in_bounds = tt; plain = (refl, (refl, tt)); few = omega arith };
  help = record { words_are = refl; in_bounds = tt; plain = tt; few = omega arith };
}
