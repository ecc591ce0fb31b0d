use Rattle.std.proofs.Common.{arith}
use Rattle.ax_bits.specs.Bits.{word}
use Rattle.ax_printed_lines.proofs.Room.{room_filled}
use Rattle.ax_printed_lines.proofs.laid.LaidBits.fill_settled.Goals as goal

pub returns : goal.returns
returns c =
    room_filled c.args.self.now.buffer.now c.replaced.new.buffer c.moved_up-self.new.buffer c.args.octets.now (word c.args.self.now.width c.args.self.now.held) c.args.at c.args.room c.args.self.now.count c.moved_up-self.result (omega arith) (omega arith) (omega arith) c.replaced.ensures c.moved_up-self.ensures.moved
