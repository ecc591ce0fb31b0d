use Rattle.std.proofs.lemmas.Option.{IfSome_then}
use Rattle.ax_bits.specs.Bits.{bits}
use Rattle.ax_printed_lines.proofs.Room.{fills_after}
use Rattle.ax_printed_lines.proofs.laid.LaidBits.fill.Goals as goal

pub returns : goal.returns
returns c = IfSome_then c.fill_settled.result c.fill_settled.ensures (λ done. fills_after c.args.self.now c.settle.new.self c.fill_settled.new.self c.args.at c.args.room (bits c.args.octets.now) c.in_ok-settle.ensures.same)
