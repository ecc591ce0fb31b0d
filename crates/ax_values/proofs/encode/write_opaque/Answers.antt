use Rattle.std.proofs.Common.{arith}
use Rattle.ax_values.proofs.WrittenBlocks.{opaque_written}
use Rattle.ax_values.proofs.encode.write_opaque.Goals as goal

pub returns-clause-written : goal.returns-clause-written
returns-clause-written c = opaque_written c.args.out.now c.write_front.new.out c.write_octets.new.out c.args.category _ c.args.octets.now (omega (arith, c.requires.few)) c.write_front.ensures.written c.write_octets.ensures.written
