use Rattle.std.proofs.Common.{◌-◌}
use Rattle.ax_lines.proofs.Running.{Running}
use Rattle.ax_endpoints.specs.Changes.{source_change, sink_change}
use Rattle.ax_lines.proofs.driving.drive_lines.Given as goal

abbrev pub invariant-lines : goal.invariant-lines
invariant-lines g l =
    Running (g.W.LineWork.command l.fn.work) l.fn.reader.line_limit l.fn.reader.limit (source_change g.S.Source l.fn.source l.source) (sink_change g.K.Sink l.fn.out l.out) (g.W.LineWork.command l.work) l.reader l.lines l.results (g.W.LineWork.sound l.work)

abbrev pub decreases-lines : goal.decreases-lines
decreases-lines g l = l.reader.limit - l.reader.given
