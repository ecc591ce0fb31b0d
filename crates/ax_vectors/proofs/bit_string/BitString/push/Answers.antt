use Rattle.std.proofs.Common.{◌≡◌, ◌+◌, ◌-◌, ◌*◌, ◌/◌, ◌++◌, length, take, drop, ap, sym, ◌∙◌, arith, rules}
use Rattle.std.proofs.lemmas.List.{with_items_is}
use Rattle.ax_bits.specs.Bits.{word, bits}
use Rattle.ax_vectors.proofs.Pushing.{pushed}
use Rattle.ax_vectors.proofs.bit_string.BitString.push.Goals as goal

pub returns : goal.returns
returns c =
    let s = c.self.inside in
    let begun = (s.free + 7) / 8 in
    let more = (c.args.width + 7 - s.free) / 8 in
    let old = s.octets.items in
    let new = c.put_after.new.octets in
    let count = 8 * length old - s.free in
    let i = c.self.invariant in
    let w = c.requires.width in
    let grown = c.grow.new.octets.items in
    let size : length grown ≡ length old + more = c.in_ok-grow.ensures.length in
    let value : c.deref_mut.result.now ≡ grown = c.deref_mut.ensures.value in
    let long : length new ≡ length old + more = c.put_after.auto.octets ∙ ap length value ∙ size in
    let filled : length new ≡ c.grow.new.octets.len = long ∙ sym size ∙ sym c.grow.new.octets.ok.0 in
    let e : bits new ≡ take (8 * (length old - begun) + (8 * begun - s.free)) (bits grown) ++ (word c.args.width c.args.value ++ drop (8 * (length old - begun) + (8 * begun - s.free) + c.args.width) (bits grown)) = search rules in
    let p = pushed old grown new count (length old - begun) (8 * begun - s.free) c.args.width c.args.value more c.in_ok-grow.ensures.front size (omega arith) (omega (arith, i)) e in
    ap (λ xs. take (8 * length xs - (s.free + 8 * more - c.args.width)) (bits xs)) (with_items_is c.grow.new.octets new filled)
    ∙ ap (λ n. take n (bits new)) (omega (arith, long, i, w)) ∙ p ∙ ap (λ xs. xs ++ word c.args.width c.args.value) c.self.view_is
