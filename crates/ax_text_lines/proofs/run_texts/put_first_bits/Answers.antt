use Rattle.std.proofs.Common.{◌∙◌, ◌++◌, ◌-◌, ◌/◌, ◌^◌, ◌<◌, sym, ap, arith, take, decimal}
use Rattle.ax_text_lines.proofs.Digits.{three_bits}
use Rattle.ax_text_lines.proofs.RunsPrinted.{front_below, number_in_front}
use Rattle.ax_text_lines.proofs.run_texts.put_first_bits.Goals as goal

pub put_one-requires : goal.put_one-requires
put_one-requires c =
    let w = c.args.width in
    let run = c.args.run in
    let most : run < 2 ^ 64 = omega (arith, c.ranges.run.fits) in
    (omega (arith, c.requires.room), three_bits w (run / 2 ^ (64 - w)) (front_below w run (omega (arith, c.requires.width)) most) c.if-width-le-ONE_DIGIT.true)

pub returns-then-width-le-ONE_DIGIT-clause-front : goal.returns-then-width-le-ONE_DIGIT-clause-front
returns-then-width-le-ONE_DIGIT-clause-front c =
    let w = c.args.width in
    let run = c.args.run in
    let most : run < 2 ^ 64 = omega (arith, c.ranges.run.fits) in
    c.put_one.ensures.front ∙ ap (λ n. take c.args.place c.args.room.now ++ decimal n) (sym (number_in_front w run (omega (arith, c.requires.width)) most))

pub returns-clause-front : goal.returns-clause-front
returns-clause-front c =
    let w = c.args.width in
    let run = c.args.run in
    let most : run < 2 ^ 64 = omega (arith, c.ranges.run.fits) in
    c.put_decimal.ensures.front ∙ ap (λ n. take c.args.place c.args.room.now ++ decimal n) (sym (number_in_front w run (omega (arith, c.requires.width)) most))

pub overflow_cast-number-then-width-le-ONE_DIGIT : goal.overflow_cast-number-then-width-le-ONE_DIGIT
overflow_cast-number-then-width-le-ONE_DIGIT c =
    let w = c.args.width in
    let run = c.args.run in
    let most : run < 2 ^ 64 = omega (arith, c.ranges.run.fits) in
    let few = three_bits w (run / 2 ^ (64 - w)) (front_below w run (omega (arith, c.requires.width)) most) c.if-width-le-ONE_DIGIT.true in
    omega (arith, few)
