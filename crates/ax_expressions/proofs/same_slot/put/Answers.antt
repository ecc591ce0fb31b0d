use Rattle.ax_expressions.proofs.SameSlots.{put_by}
use Rattle.ax_expressions.proofs.same_slot.put.Goals as goal

pub returns-in_ok-push : goal.returns-in_ok-push
returns-in_ok-push c = put_by c.args.all c.args.rows.now.made.items c.args.rows.now.row c.push-else-rows-gt0.new.self.items c.args.plan c.in_ok-push.ensures.items
