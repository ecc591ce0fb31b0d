use Rattle.ax_convert_work.proofs.WrittenLists.{WrittenTo}
use Rattle.ax_convert_work.specs.Making.{octets_in}
use Rattle.ax_convert_work.proofs.writing.write_blocks.Given as goal

abbrev pub invariant-loop-one : goal.invariant-loop-one
invariant-loop-one g l = WrittenTo octets_in l.blocks (g.K.Sink.held l.fn.out) (g.K.Sink.held l.out) (g.K.Sink.faults l.fn.out) (g.K.Sink.faults l.out) l.one-index
