use Rattle.ax_filter.proofs.Marked.{marks_of, never_fails}
use Rattle.ax_filter.proofs.marks.marked_slots.Goals as goal

pub returns-in-Ok : goal.returns-in-Ok
returns-in-Ok c same = marks_of c.args.one.now c.args.codec.now c.octets.result.now c.octets.ensures.body same _ c.read_presence.new.into c.in-Ok.ensures.ok

pub returns-in-Err : goal.returns-in-Err
returns-in-Err c same = absurd (never_fails c.args.one.now c.args.codec.now c.octets.result.now c.octets.ensures.body same _ c.in-Err.ensures.err)
