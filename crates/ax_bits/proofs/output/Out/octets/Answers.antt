use Rattle.std.proofs.Common.{◌≡◌, ◌*◌, ◌/◌, sym, ◌∙◌, ap, arith, length, take}
use Rattle.ax_bits.specs.Bits.{bits}
use Rattle.ax_bits.specs.Out.{written}
use Rattle.ax_bits.proofs.Outputs.{length-written}
use Rattle.ax_bits.proofs.Pieces.{take-bits}
use Rattle.ax_bits.proofs.Words.{length-bits}
use Rattle.ax_bits.proofs.output.Out.octets.Goals as goal

pub returns : goal.returns
returns c =
    let out = c.args.self.now in
    let whole : 8 * (out.count / 8) ≡ out.count = omega (arith, length-written out) in
    let octets = take (out.count / 8) out.buffer.now in
    let same : bits octets ≡ written out = sym (take-bits (out.count / 8) out.buffer.now) ∙ ap (λ k. take k (bits out.buffer.now)) whole in
    record { bits = same; count = sym (length-bits octets) ∙ ap length same }
