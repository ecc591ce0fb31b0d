use Rattle.ax_run_tests.proofs.CategoryBlocks.{category_written, category_cut}
use Rattle.ax_run_tests.proofs.categories.CategoryWorkBlockWork.take.Goals as goal

-- src/categories.rt:48:5
pub returns-in-Ok-clause-takes : goal.returns-in-Ok-clause-takes
returns-in-Ok-clause-takes g c = category_written c.args.self.now.mark.now _ c.args._number _ _ tt _ c.args.raw.now.within_block c.args.raw.now.nonempty c.if-raw.false c.in-Ok.ensures c.write_piece.ensures

-- src/categories.rt:48:5
pub returns-in-Err-clause-takes : goal.returns-in-Err-clause-takes
returns-in-Err-clause-takes g c = category_cut c.args.self.now.mark.now _ c.args._number _ _ _ c.in-Err.field-0 c.args.raw.now.within_block c.args.raw.now.nonempty c.if-raw.false c.in-Err.ensures
