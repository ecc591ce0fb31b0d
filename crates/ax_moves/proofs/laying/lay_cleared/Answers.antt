use Rattle.std.proofs.Common.{rules, ◌≡◌, ◌*◌, ◌/◌, [], ◌∷◌, ◌++◌, ◌∙◌, ap, sym}
use Rattle.ax_bits.specs.Bits.{bits}
use Rattle.ax_moves.proofs.FrontParts.{cleared_octets}
use Rattle.ax_moves.proofs.LaidBits.{lays_more}
use Rattle.ax_moves.proofs.ToldLines.{gathered_bits}
use Rattle.ax_moves.specs.Fronts.{cleared}
use Rattle.ax_moves.proofs.laying.lay_cleared.Goals as goal

pub returns-clause-laid : goal.returns-clause-laid
returns-clause-laid c =
    let last = c.in-Some.last.now in
    let before = c.in-Some.before.now in
    let split : c.args.octets.now ≡ before ++ last ∷ [] = search rules in
    lays_more _ _ (cleared (bits c.args.octets.now)) c.args.at c.lay_octets-end.result c.lay_octets.result c.args.output.now c.lay_octets-end.new.output c.lay_octets.new.output
    (ap (λ xs. cleared (bits xs)) split ∙ sym (cleared_octets before last))
    (gathered_bits before c.args.at c.lay_octets-end.result c.args.output.now c.lay_octets-end.new.output c.lay_octets-end.ensures.laid)
    (gathered_bits (last / 2 * 2 ∷ []) c.lay_octets-end.result c.lay_octets.result c.lay_octets-end.new.output c.lay_octets.new.output c.lay_octets.ensures.laid)
