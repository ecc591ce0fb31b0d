use Rattle.std.proofs.Common.{◌≡◌, ◌∙◌, ◌++◌, ◌+◌, ◌-◌, ◌*◌, refl, ap, arith, length, length-drop, take, drop}
use Rattle.std.proofs.lemmas.List.{take-take}
use Rattle.ax_text_lines.proofs.Digits.{last_digits_at}
use Rattle.ax_text_lines.specs.declared.three_digits.TheConstants.{THREE_DIGITS}
use Rattle.ax_text_lines.proofs.room.put_short.Goals as goal

pub put_some-requires-clause-count : goal.put_some-requires-clause-count
put_some-requires-clause-count c =
    let count = c.digit_count-count.result in
    let long : length THREE_DIGITS ≡ 3003 = refl in
    let left = length-drop (3 * c.args.number + 3 - count) THREE_DIGITS in
    (omega (arith, c.requires, c.digit_count-count.ensures.few, long, left), omega (arith, c.digit_count-count.ensures.few))

pub returns-clause-front : goal.returns-clause-front
returns-clause-front c =
    let n = c.args.number in
    let count = c.digit_count-count.result in
    let first = 3 * n + 3 - count in
    let few = c.digit_count-count.ensures.few in
    let part : take count (take (3003 - first) (drop first THREE_DIGITS)) ≡ take count (drop first THREE_DIGITS) = take-take count (3003 - first) (drop first THREE_DIGITS) (omega (arith, c.requires, few)) in
    c.put_some.ensures.front ∙ ap (λ xs. take c.args.at c.args.room.now ++ xs) (part ∙ last_digits_at n count c.requires.1 few.0 few.1 ∙ c.digit_count-count.ensures.last)
