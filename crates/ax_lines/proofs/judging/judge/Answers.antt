use Rattle.ax_lines.proofs.Judged.{line_passed, limit_passed}
use Rattle.ax_lines.proofs.judging.judge.Goals as goal

pub returns-then-line_limit-room-clause-shows : goal.returns-then-line_limit-room-clause-shows
returns-then-line_limit-room-clause-shows c = line_passed _ _ _ _ _ c.line_cut-cut.ensures c.else-cut-line_limit.either c.if-line_limit-room.true

pub returns-else-line_limit-room-clause-shows : goal.returns-else-line_limit-room-clause-shows
returns-else-line_limit-room-clause-shows c = limit_passed _ _ _ _ _ c.line_cut-cut.ensures c.else-cut-line_limit.either c.if-line_limit-room.false
