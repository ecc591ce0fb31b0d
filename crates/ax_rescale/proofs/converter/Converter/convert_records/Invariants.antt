use Rattle.ax_rescale.proofs.ConvertedLists.{Going}
use Rattle.ax_rescale.proofs.converter.Converter.convert_records.Given as goal

abbrev pub invariant-loop-one : goal.invariant-loop-one
invariant-loop-one l = Going l.self.old.now l.self.new.now l.self.relation.now.paths l.records l.fn.misses l.misses l.made l.number l.one-index
