use Rattle.ax_moves.proofs.ToldLines.{gathered_bits}
use Rattle.ax_moves.proofs.in_order.lay_run.Goals as goal

pub returns-clause-laid : goal.returns-clause-laid
returns-clause-laid c = gathered_bits _ c.args.at c.lay_octets.result c.args.output.now c.lay_octets.new.output c.lay_octets.ensures.laid
