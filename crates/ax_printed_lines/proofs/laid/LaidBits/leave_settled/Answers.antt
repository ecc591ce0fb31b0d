use Rattle.std.proofs.Common.{arith}
use Rattle.ax_bits.specs.Bits.{word}
use Rattle.ax_printed_lines.proofs.Room.{room_left}
use Rattle.ax_printed_lines.proofs.laid.LaidBits.leave_settled.Goals as goal

pub returns : goal.returns
returns c =
    let l = room_left c.args.self.now.buffer.now (word c.args.self.now.width c.args.self.now.held) c.args.self.now.count c.args.room (omega arith) (search) in
    record { there = l.0; lays = l.1; size = l.2; before = l.3 }
