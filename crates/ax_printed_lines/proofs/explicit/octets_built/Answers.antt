use Rattle.std.proofs.Common.{◌≡◌, ◌∷◌, subst}
use Rattle.ax_bits.specs.Bits.{word}
use Rattle.ax_printed_lines.specs.Laid.{Lays}
use Rattle.ax_printed_lines.proofs.ExplicitBuilt.{digits_first, digits_next}
use Rattle.ax_printed_lines.proofs.explicit.octets_built.Goals as goal

pub loop-high-init : goal.loop-high-init
loop-high-init c = digits_first c.args.digits.now c.args.out.now

pub loop-high-preserved : goal.loop-high-preserved
loop-high-preserved c =
    let first : c.loop-high.left.now ≡ c.in-Some.high.now ∷ c.in-Some.following.now = c.in-Some.ensures.cases.0 in
    let second : c.in-Some.following.now ≡ c.in_ok-low.low.now ∷ c.in_ok-low.later.now = c.in_ok-low.ensures.cases.0 in
    let laid : Lays c.loop-high.out c.push.new.self (word 8 c.in_ok-octet.octet) = subst (λ n. Lays c.loop-high.out c.push.new.self (word 8 n)) c.from.ensures c.in_ok-push.ensures in
    digits_next c.args.digits.now c.loop-high.left.now c.in_ok-low.later.now c.in-Some.high.now c.in_ok-low.low.now c.in_ok-octet.octet c.in-Some.following.now c.args.out.now c.loop-high.out c.push.new.self c.loop-high.invariant first second c.in_ok-octet.ensures.0 c.in_ok-octet.ensures.1 laid
