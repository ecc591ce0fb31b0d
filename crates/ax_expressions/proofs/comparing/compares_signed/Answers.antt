use Rattle.std.proofs.Common.{◌≤◌, ◌^◌, ◌-◌, ◌*◌, ◌%◌, arith, rules}
use Rattle.ax_expressions.proofs.Signs.{wide, above, not_within}
use Rattle.ax_expressions.proofs.comparing.compares_signed.Goals as goal

pub returns-then-width-gt128 : goal.returns-then-width-gt128
returns-then-width-gt128 c = wide c.args.op c.args.width c.args.value c.args.other _ (omega arith) (omega arith) (search rules)

pub returns : goal.returns
returns c =
    let le : 2 ^ c.args.width ≤ c.args.value = not_within _ _ c.is_within.result (search rules) c.is_within.ensures in
    above c.args.op c.args.width c.args.value (c.args.value - 1 * 2 ^ c.args.width % 2 ^ 128) c.args.other _ le (omega (arith, le)) (search rules)
