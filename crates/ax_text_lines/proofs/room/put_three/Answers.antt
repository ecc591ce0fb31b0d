use Rattle.std.proofs.Common.{◌≡◌, ◌∙◌, ◌++◌, ◌-◌, ◌*◌, ap, arith, take, drop}
use Rattle.std.proofs.lemmas.List.{take-take}
use Rattle.ax_text_lines.proofs.Digits.{digits_at}
use Rattle.ax_text_lines.specs.declared.three_digits.TheConstants.{THREE_DIGITS}
use Rattle.ax_text_lines.proofs.room.put_three.Goals as goal

pub returns-clause-front : goal.returns-clause-front
returns-clause-front c =
    let n = c.args.number in
    let part : take 3 (take (3003 - 3 * n) (drop (3 * n) THREE_DIGITS)) ≡ take 3 (drop (3 * n) THREE_DIGITS) = take-take 3 (3003 - 3 * n) (drop (3 * n) THREE_DIGITS) (omega (arith, c.requires)) in
    c.put_some.ensures.front ∙ ap (λ xs. take c.args.at c.args.room.now ++ xs) (part ∙ digits_at n c.requires.1)
