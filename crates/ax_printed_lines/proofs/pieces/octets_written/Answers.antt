use Rattle.std.proofs.Common.{◌≡◌, ◌%◌, length, arith}
use Rattle.ax_bits.proofs.Outputs.{length-written}
use Rattle.ax_bits.specs.Out.{written, room}
use Rattle.ax_bits.specs.declared.output.Out.{Out}
use Rattle.ax_printed_lines.proofs.pieces.octets_written.Goals as goal

whole : (out : Out) → room out % 8 ≡ 0 → length (written out) % 8 ≡ 0
whole out e = omega (arith, length-written out, e)

pub octets-requires : goal.octets-requires
octets-requires c = whole c.args.out.now (omega (arith, c.room.ensures))
