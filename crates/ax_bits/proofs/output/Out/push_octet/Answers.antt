use Rattle.std.proofs.Common.{◌≡◌, ◌*◌, ◌/◌, refl, ap, ◌∙◌, arith, length-set}
use Rattle.ax_bits.specs.Bits.{word, bits}
use Rattle.ax_bits.proofs.Outputs.{appends, bits-octet_set}
use Rattle.ax_bits.proofs.Steps.{overwritten}
use Rattle.ax_bits.proofs.output.Out.push_octet.Goals as goal

pub returns-then-self-eq0 : goal.returns-then-self-eq0
returns-then-self-eq0 c =
    let out = c.args.self.now in
    let all = out.buffer.now in
    let octet = c.args.octet in
    let whole : 8 * (out.count / 8) ≡ out.count = omega arith in
    appends out _ (word 8 octet) 8 refl refl c.requires refl (length-set all (out.count / 8) octet)
    (bits-octet_set all (out.count / 8) octet (omega arith) ∙ ap (λ k. overwritten (bits all) k (word 8 octet) 8) whole)
