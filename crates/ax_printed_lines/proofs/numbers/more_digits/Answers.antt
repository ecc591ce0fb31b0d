use Rattle.std.proofs.Common.{◌<◌, ◌+◌, ◌-◌, ◌*◌, ◌^◌, arith}
use Rattle.ax_printed_lines.proofs.Digits.{digit_more, next_small}
use Rattle.ax_printed_lines.proofs.numbers.more_digits.Goals as goal

pub overflow_mul-number : goal.overflow_mul-number
overflow_mul-number c =
    let small : 10 * c.loop-count.number + 9 < 2 ^ 64 = next_small c.args.octets.now c.loop-count.count c.loop-count.number 9 c.loop-count.invariant.digits (omega arith) (omega arith) in
    omega (arith, small)

pub overflow_add-number : goal.overflow_add-number
overflow_add-number c =
    let small : 10 * c.loop-count.number + 9 < 2 ^ 64 = next_small c.args.octets.now c.loop-count.count c.loop-count.number 9 c.loop-count.invariant.digits (omega arith) (omega arith) in
    omega (arith, small)

pub loop-count-preserved : goal.loop-count-preserved
loop-count-preserved c = record {
  digits = digit_more c.args.octets.now c.loop-count.count c.loop-count.number (c.from.result - 48) c.loop-count.invariant.digits (omega arith) (omega arith) (omega arith) (omega arith) (omega arith);
  few = omega arith;
}
