use Rattle.ax_canon.specs.CategoryRows.{AreRowsTo}
use Rattle.ax_canon.proofs.each_category.rows_of.Given as goal

abbrev pub invariant-loop-category : goal.invariant-loop-category
invariant-loop-category l = AreRowsTo l.codecs.codecs l.category l.rows.items
