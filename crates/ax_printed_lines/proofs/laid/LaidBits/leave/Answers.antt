use Rattle.std.proofs.lemmas.Option.{IfSome_then}
use Rattle.ax_printed_lines.proofs.Room.{leaves_after}
use Rattle.ax_printed_lines.proofs.laid.LaidBits.leave.Goals as goal

pub returns : goal.returns
returns c = IfSome_then c.leave_settled.result c.leave_settled.ensures (λ at. leaves_after c.args.self.now c.settle.new.self c.leave_settled.new.self at c.args.room c.in_ok-settle.ensures.same)
