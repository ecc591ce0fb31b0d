use Rattle.std.proofs.Common.{arith}
use Rattle.ax_lines.proofs.NextLines.{line_buffered, none_buffered, refusal_buffered, limit_buffered}
use Rattle.ax_lines.proofs.next_line.next_line.Goals as goal

pub returns-in-Ok-Some-clause-line : goal.returns-in-Ok-Some-clause-line
returns-in-Ok-Some-clause-line g c = line_buffered _ _ _ c.requires.in_limit _ _ _ _ _ (omega (arith, c.min.ensures)) (omega (arith, c.requires.length, c.hold_line.ensures.length, c.min.ensures)) c.in-Ok.ensures.line _ (rw c.in-Ok-Some.field-0-is at c.in-Ok-Some.ensures.shows)

pub returns-in-Ok-None-clause-end : goal.returns-in-Ok-None-clause-end
returns-in-Ok-None-clause-end g c = none_buffered _ _ _ c.requires.in_limit _ _ _ _ _ (omega (arith, c.min.ensures)) (omega (arith, c.requires.length, c.hold_line.ensures.length, c.min.ensures)) c.in-Ok.ensures.line (rw c.in-Ok-None.field-0-is at c.in-Ok-None.ensures.shows)

pub returns-in-Err-clause-past_limit : goal.returns-in-Err-clause-past_limit
returns-in-Err-clause-past_limit g c = limit_buffered _ _ _ c.requires.in_limit _ _ _ _ _ (omega (arith, c.min.ensures)) (omega (arith, c.requires.length, c.hold_line.ensures.length, c.min.ensures)) c.in-Ok.ensures.line _ c.in-Err.ensures.shows

pub returns-in-Err-clause-end : goal.returns-in-Err-clause-end
returns-in-Err-clause-end g c = refusal_buffered _ _ _ c.requires.in_limit _ _ _ _ _ (omega (arith, c.min.ensures)) (omega (arith, c.requires.length, c.hold_line.ensures.length, c.min.ensures)) c.in-Ok.ensures.line _ c.in-Err.ensures.shows
