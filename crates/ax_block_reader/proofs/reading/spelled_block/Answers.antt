use Rattle.std.proofs.Common.{arith}
use Rattle.ax_format.specs.Plain.{catalogue_tree, block_tree}
use Rattle.ax_block_reader.proofs.Whole.{trails, stopped, spells, count_is}
use Rattle.ax_block_reader.proofs.reading.spelled_block.Goals as goal

pub returns-then-left-gt0-clause-bad : goal.returns-then-left-gt0-clause-bad
returns-then-left-gt0-clause-bad c =
    count_is (catalogue_tree c.args.items.now) _ _ _ _ c.count.ensures.count c.count-left.ensures
    (trails (catalogue_tree c.args.items.now) c.args.tokens.now _ _ (block_tree c.in-Ok.found) c.new-reader.ensures c.in-Ok.ensures (omega (arith, c.if-left-gt0.true, c.count-left.ensures)))

pub returns-else-left-gt0-clause-spells : goal.returns-else-left-gt0-clause-spells
returns-else-left-gt0-clause-spells c = spells (catalogue_tree c.args.items.now) c.args.tokens.now _ _ (block_tree c.in-Ok.found) c.new-reader.ensures c.in-Ok.ensures (omega (arith, c.if-left-gt0.false, c.count-left.ensures))

pub returns-in-Err-Bad-clause-bad : goal.returns-in-Err-Bad-clause-bad
returns-in-Err-Bad-clause-bad c =
    count_is (catalogue_tree c.args.items.now) _ _ _ _ c.count-in-Err-Bad.ensures.count c.count-in-Err-Bad-2.ensures
    (stopped (catalogue_tree c.args.items.now) c.args.tokens.now _ _ c.new-reader.ensures (rw c.in-Err-Bad.field-0-is at c.in-Err-Bad.ensures))
