use Rattle.ax_expand_work.proofs.Appended.{four_appended}
use Rattle.ax_expand_work.proofs.lines.push_unread.Goals as goal

pub returns : goal.returns
returns c = four_appended _ _ _ _ _ _ _ _ _ c.in_ok-push_numbered.ensures c.in_ok-push_numbered-2.ensures c.in_ok-push_numbered-3.ensures c.in_ok-push_cause.ensures
