use Rattle.std.proofs.Common.{arith}
use Rattle.ax_printed_lines.proofs.Laying.{stored_after, shifted_twice}
use Rattle.ax_printed_lines.proofs.laid.lay_octets.Goals as goal

pub returns-clause-laid : goal.returns-clause-laid
returns-clause-laid c = stored_after c.args.buffer.now c.store_eight.new.buffer c.args.from c.args.width c.args.number _ (omega arith) (omega arith) (shifted_twice c.args.number c.args.width (omega arith)) c.store_eight.ensures.stored
