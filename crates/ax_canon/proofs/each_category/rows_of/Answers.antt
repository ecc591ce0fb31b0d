use Rattle.ax_canon.proofs.EachCategory.{rows_more}
use Rattle.ax_canon.proofs.each_category.rows_of.Goals as goal

pub loop-category-preserved : goal.loop-category-preserved
loop-category-preserved c = rows_more c.args.codecs.now.codecs c.loop-category.category c.loop-category.rows.items c.push.new.self.items c.rows_for.result c.loop-category.invariant c.in_ok-push.ensures.items c.rows_for.ensures.codec c.rows_for.ensures.rows
