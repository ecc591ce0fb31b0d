use Rattle.std.proofs.Common.{◌-◌, ◌/◌, ◌%◌, ◌^◌, ◌++◌, take, arith, refl}
use Rattle.std.proofs.lemmas.List.{length-set}
use Rattle.ax_bits.specs.Bits.{word, bits}
use Rattle.ax_printed_lines.proofs.Laying.{one_octet}
use Rattle.ax_printed_lines.proofs.laid.lay_each.Goals as goal

pub loop-left-preserved : goal.loop-left-preserved
loop-left-preserved c =
    let left = c.loop-left.left - 8 in
    let x = c.args.number / 2 ^ left % 256 in
    record {
      laid = one_octet c.loop-left.buffer (bits (take c.args.from c.args.buffer.now) ++ word c.args.width c.args.number) c.loop-left.count c.loop-left.left left c.args.number x (omega arith) (omega arith) refl c.loop-left.invariant.laid;
      within = omega (arith, length-set c.loop-left.buffer c.loop-left.count x, c.loop-left.invariant.within);
      few = omega (arith, c.loop-left.invariant.few);
    }
