use Rattle.std.proofs.Common.{◌++◌, take}
use Rattle.ax_bits.specs.Bits.{word, bits}
use Rattle.ax_printed_lines.proofs.Laying.{low_held}
use Rattle.ax_printed_lines.proofs.laid.LaidBits.settle.Goals as goal

pub returns-clause-same : goal.returns-clause-same
returns-clause-same c = low_held _ (bits (take c.args.self.now.count c.args.self.now.buffer.now) ++ word c.args.self.now.width c.args.self.now.held) _ _ c.args.self.now.held c.lowest-self.ensures.value c.in_ok-count.ensures.laid
