use Rattle.ax_convert_work.proofs.WrittenLists.{WrittenTo}
use Rattle.ax_rescale.specs.Missed.{missed_line}
use Rattle.ax_convert_work.proofs.writing.write_misses.Given as goal

abbrev pub invariant-loop-one : goal.invariant-loop-one
invariant-loop-one g l = WrittenTo (missed_line l.number) l.misses (g.R.Sink.held l.fn.report) (g.R.Sink.held l.report) (g.R.Sink.faults l.fn.report) (g.R.Sink.faults l.report) l.one-index
