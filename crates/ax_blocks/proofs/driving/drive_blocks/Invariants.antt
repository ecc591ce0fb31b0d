use Rattle.std.proofs.Common.{◌-◌, []}
use Rattle.ax_endpoints.specs.Changes.{source_change, sink_change}
use Rattle.ax_blocks.proofs.Runs.{Running}
use Rattle.ax_blocks.proofs.driving.drive_blocks.Given as goal

abbrev pub invariant-stream : goal.invariant-stream
invariant-stream g l =
    Running (g.W.BlockWork.command l.fn.work) l.fn.reader.limit (λ raws. g.W.BlockWork.remembers l.fn.work l.fn.work [] → g.W.BlockWork.remembers l.fn.work l.work raws)
    (source_change g.S.Source l.fn.source l.source) (sink_change g.K.Sink l.fn.out l.out) (sink_change g.R.Sink l.fn.report l.report)
    (g.W.BlockWork.command l.work) l.reader l.blocks (g.W.BlockWork.sound l.work)

abbrev pub decreases-stream : goal.decreases-stream
decreases-stream g l = l.reader.limit - l.reader.given
