use Rattle.std.proofs.Common.{rules, arith}
use Rattle.std.proofs.lemmas.Nat.{trailing_le}
use Rattle.ax_text_form.proofs.Twos.{few_twos, twos_of_first, twos_of_second}
use Rattle.ax_text_form.proofs.fractions.shared_twos.Goals as goal

pub overflow_cast-most : goal.overflow_cast-most
overflow_cast-most c = let most = trailing_le 64 c.args.denominator in search (rules, most)

pub overflow_shr-denominator : goal.overflow_shr-denominator
overflow_shr-denominator c = few_twos c.args.denominator c.requires (search rules)

pub returns-then-twos-most : goal.returns-then-twos-most
returns-then-twos-most c =
    let few = few_twos c.args.denominator c.requires (search rules) in
    (omega (arith, few, c.if-twos-most.true), twos_of_first c.args.numerator c.args.denominator c.requires (search rules) c.if-twos-most.true)

pub returns-else-twos-most : goal.returns-else-twos-most
returns-else-twos-most c =
    (few_twos c.args.denominator c.requires (search rules), twos_of_second c.args.numerator c.args.denominator c.requires (search rules) (search rules))
