use Rattle.std.proofs.Common.{subst, sym}
use Rattle.ax_moves.proofs.ToldLines.{gathered_bits}
use Rattle.ax_moves.specs.Fronts.{kept_bits}
use Rattle.ax_moves.specs.Laying.{Lays}
use Rattle.ax_moves.proofs.laying.lay_front.Goals as goal

pub returns-in-None-clause-laid : goal.returns-in-None-clause-laid
returns-in-None-clause-laid c =
    subst (λ o. Lays (kept_bits o c.args.octets.now) c.args.at c.lay_octets.result c.args.output.now c.lay_octets.new.output) (sym c.in-None.is)
    (gathered_bits c.args.octets.now c.args.at c.lay_octets.result c.args.output.now c.lay_octets.new.output c.lay_octets.ensures.laid)
