use Rattle.std.proofs.Common.{◌≡◌, ℕ, take, length, sym, ap, subst, arith}
use Rattle.std.proofs.lemmas.Bool.{eqb-true}
use Rattle.ax_bits.proofs.Pieces.{AreOctets-items}
use Rattle.ax_printed_lines.proofs.Fronts.{same_front}
use Rattle.ax_printed_lines.proofs.names.begins_with.Goals as goal

pub returns : goal.returns
returns c =
    let octets = c.args.octets.now in
    let padded = c.padded.result.now in
    let name = c.args.name.now in
    let n : ℕ = length c.octets-wanted.result.now in
    let same : n ≡ length name = ap length c.octets-wanted.ensures.octets in
    λ e. subst (λ k. take k octets ≡ name) same
    (same_front n octets padded name c.short_bits_at.result c.short_bits_at-2.result (AreOctets-items octets (λ i. (let fits = c.type_inv.octets i in omega (arith, fits)))) c.octets-wanted.ensures.name c.short_bits_at.ensures.number c.short_bits_at-2.ensures.number
    (eqb-true c.short_bits_at.result c.short_bits_at-2.result e) (subst (λ k. take k padded ≡ name) (sym same) c.padded.ensures.front))
