use Rattle.std.proofs.Common.{rules}
use Rattle.ax_expressions.proofs.Levels.{closed_none}
use Rattle.ax_expressions.proofs.same_slot.close_row.Goals as goal

pub returns-clause-alike : goal.returns-clause-alike
returns-clause-alike c = closed_none c.args.all c.args.rows.now.made.items c.args.rows.now.row c.push.new.self.items c.replace-full.new.dest c.several.result c.in_ok-push.ensures.items (search rules) (search rules)
