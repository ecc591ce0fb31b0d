use Rattle.std.proofs.Common.{◌≡◌, ◌*◌, ◌/◌, refl, ap, ◌∙◌, arith, length}
use Rattle.ax_bits.specs.Bits.{bits}
use Rattle.ax_bits.proofs.Words.{length-bits}
use Rattle.ax_bits.proofs.Outputs.{appends, bits-copied}
use Rattle.ax_bits.proofs.Steps.{overwritten}
use Rattle.ax_bits.proofs.output.Out.push_octets.Goals as goal

pub returns-then-self-eq0 : goal.returns-then-self-eq0
returns-then-self-eq0 c =
    let out = c.args.self.now in
    let all = out.buffer.now in
    let octets = c.args.octets.now in
    let whole : 8 * (out.count / 8) ≡ out.count = omega arith in
    appends out _ (bits octets) (8 * length octets) refl (length-bits octets) c.requires refl c.copy_at.auto.buffer
    (bits-copied all c.copy_at.new.buffer octets (out.count / 8) c.copy_at.ensures ∙ ap (λ k. overwritten (bits all) k (bits octets) (8 * length octets)) whole)
