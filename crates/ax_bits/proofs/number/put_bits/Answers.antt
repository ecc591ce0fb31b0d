-- Each step writes the bits that are left in one octet, or fewer at the end.
use Rattle.std.proofs.Common.{◌≡◌, ◌+◌, ◌-◌, ◌/◌, ◌%◌, ◌^◌, ◌≤◌, length, get_or, set, arith, ap, ◌∙◌, sym}
use Rattle.ax_bits.specs.Bits.{word, bits}
use Rattle.ax_bits.proofs.Words.{length-bits}
use Rattle.ax_bits.proofs.Steps.{put_more, overwritten, patched}
use Rattle.ax_bits.proofs.number.put_bits.Goals as goal

pub loop-left-preserved : goal.loop-left-preserved
loop-left-preserved c =
    let all = bits c.args.octets.now in
    let now = c.loop-left.octets in
    let at = c.args.at in
    let value = c.args.value in
    let count = c.min-count.result in
    let n = c.args.width - c.loop-left.left in
    let left = c.loop-left.left - count in
    let rest = 8 - (at + n) % 8 - count in
    let before : c.loop-left.left ≡ left + count = omega arith in
    let after : c.args.width - left ≡ n + count = omega arith in
    let written : bits now ≡ overwritten all at (word n (value / 2 ^ (left + count))) n
    = c.loop-left.invariant.written ∙ ap (λ k. overwritten all at (word n (value / 2 ^ k)) n) before in
    let within : at ≤ length all = omega (arith, length-bits c.args.octets.now) in
    let octet : c.with_piece.result ≡ patched (get_or now ((at + n) / 8) 0) rest count (value / 2 ^ left % 2 ^ count)
    = c.with_piece.ensures ∙ ap (patched (get_or now ((at + n) / 8) 0) rest count) c.piece_of-piece.ensures.value in
    record {
      within = omega arith;
      written =
          ap (λ k. bits (set now ((at + n) / 8) k)) octet
          ∙ put_more all now at n count left rest value (omega arith) (omega arith) within written
          ∙ ap (λ k. overwritten all at (word k (value / 2 ^ left)) k) (sym after);
    }
