use Rattle.std.proofs.Common.{arith, take}
use Rattle.ax_bits.specs.Bits.{bits}
use Rattle.ax_text_lines.proofs.Digits.{three_bits}
use Rattle.ax_text_lines.proofs.StepsPrinted.{digits_put}
use Rattle.ax_text_lines.proofs.step_texts.put_bits.Goals as goal

pub returns-then-width-gt56-clause-front : goal.returns-then-width-gt56-clause-front
returns-then-width-gt56-clause-front c =
    digits_put (bits c.args.body.now) c.args.at c.args.width c.bits_at.result (take c.args.place c.args.room.now) (take c.put_longest.result c.put_longest.new.room) c.bits_at.ensures.below c.bits_at.ensures.number c.put_longest.ensures.front

pub put_one-requires : goal.put_one-requires
put_one-requires c = (omega (arith, c.requires.room), three_bits c.args.width c.short_bits_at-number.result c.short_bits_at-number.ensures.below c.if-width-le-ONE_DIGIT.true)

pub returns-then-width-le-ONE_DIGIT-clause-front : goal.returns-then-width-le-ONE_DIGIT-clause-front
returns-then-width-le-ONE_DIGIT-clause-front c =
    digits_put (bits c.args.body.now) c.args.at c.args.width c.short_bits_at-number.result (take c.args.place c.args.room.now) (take c.put_one.result c.put_one.new.room) c.short_bits_at-number.ensures.below c.short_bits_at-number.ensures.number
    c.put_one.ensures.front

pub returns-clause-front : goal.returns-clause-front
returns-clause-front c =
    digits_put (bits c.args.body.now) c.args.at c.args.width c.short_bits_at-number.result (take c.args.place c.args.room.now) (take c.put_decimal.result c.put_decimal.new.room) c.short_bits_at-number.ensures.below c.short_bits_at-number.ensures.number
    c.put_decimal.ensures.front
