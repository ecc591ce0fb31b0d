use Rattle.std.proofs.Common.{◌+◌, ◌≤◌, ◌∷◌, [], ◌≡◌, ◌++◌, ◌∙◌, ap, arith, length, take, take_all}
use Rattle.ax_text_lines.proofs.Digits.{put_front, put_twice}
use Rattle.ax_text_lines.proofs.room.put_name.Goals as goal

pub returns-clause-front : goal.returns-clause-front
returns-clause-front c =
    let at = c.args.at in
    let name = c.args.name.now in
    let mid = c.put_octet.new.room in
    let last = c.put_first.new.room in
    let room : at + 1 ≤ length mid = omega (arith, c.requires, c.put_octet.ensures.whole) in
    let fits : length name ≤ length c.padded.result.now = omega (arith, c.padded.ensures.fits, c.padded.ensures.whole) in
    let padded = c.padded.result.now in
    let all : take (at + 1 + length padded) last ≡ take (at + 1) mid ++ padded =
    ap (λ k. take (at + 1 + k) last) c.padded.ensures.whole ∙ c.put_first.ensures.front ∙ ap (λ xs. take (at + 1) mid ++ xs) (take_all 16 padded (omega (arith, c.padded.ensures.whole))) in
    ap (λ xs. take (at + 1 + length xs) last) c.octets.ensures.octets
    ∙ put_twice c.args.room.now mid last (0x20 ∷ []) name at (at + 1) (at + 1 + length name) c.put_octet.ensures.front
    (put_front mid last c.padded.result.now name (at + 1) room all c.padded.ensures.front fits)
