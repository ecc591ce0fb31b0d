use Rattle.std.proofs.Common.{◌≡◌, ◌+◌, ◌∙◌, sym, ap, arith, length, take}
use Rattle.std.proofs.lemmas.List.{take-take, length-take-le}
use Rattle.ax_text_lines.proofs.Digits.{put_front}
use Rattle.ax_text_lines.proofs.room.put_some.Goals as goal

pub returns-clause-front : goal.returns-clause-front
returns-clause-front g c =
    let most = g.row.N in
    let at = c.args.at in
    let n = c.args.count in
    let all = c.args.octets.now in
    let text = take n all in
    let counted : length text ≡ n = length-take-le n all (omega (arith, c.requires.count)) in
    let whole : length (take most all) ≡ most = length-take-le most all c.requires.count.0 in
    let front : take (length text) (take most all) ≡ text = ap (λ k. take k (take most all)) counted ∙ take-take n most all c.requires.count.1 in
    ap (λ k. take (at + k) c.put_first.new.room) (sym counted)
    ∙ put_front c.args.room.now c.put_first.new.room (take most all) text at (omega (arith, c.requires.room)) (ap (λ k. take (at + k) c.put_first.new.room) whole ∙ c.put_first.ensures.front) front (omega (arith, counted, whole, c.requires.count))
