use Rattle.ax_bits.specs.Bits.{bits}
use Rattle.ax_bits.specs.Out.{loan}
use Rattle.ax_format.specs.OfCode.{block_octets}
use Rattle.std.proofs.Common.{◌≡◌, rules, length}
use Rattle.ax_values.proofs.WrittenBlocks.{filled}
use Rattle.ax_values.proofs.encode.write_over.Goals as goal

pub returns-clause-bits : goal.returns-clause-bits
returns-clause-bits c =
    let f : bits c.write_block.new.out.buffer.now ≡ bits (block_octets c.args.items.now.spec.now c.args.block.now) =
    filled c.over-out.result c.write_block.new.out (length c.args.buffer.now) (block_octets c.args.items.now.spec.now c.args.block.now) c.over-out.ensures.written c.over-out.ensures.room c.requires.length c.write_block.ensures.written in
    let l : loan c.write_block.new.out ≡ loan c.over-out.result = c.write_block.ensures.written.loan in search rules
