use Rattle.std.proofs.Common.{arith}
use Rattle.ax_expressions.specs.Tree.{expr_tree}
use Rattle.ax_expressions.proofs.Whole.{trails, stopped, spells, count_is}
use Rattle.ax_expressions.proofs.syntax.read_expr.Goals as goal

pub returns-then-count-gt0-clause-bad : goal.returns-then-count-gt0-clause-bad
returns-then-count-gt0-clause-bad c =
    count_is _ _ _ _ c.count-then-count-gt0.ensures.count c.count-then-count-gt0-2.ensures
    (trails c.args.tokens.now _ _ (expr_tree c.in-Ok.e) c.new-reader.ensures c.in-Ok.ensures.gives (omega (arith, c.if-count-gt0.true, c.count.ensures)))

pub returns-else-count-gt0-clause-spells : goal.returns-else-count-gt0-clause-spells
returns-else-count-gt0-clause-spells c = spells c.args.tokens.now _ _ (expr_tree c.in-Ok.e) c.new-reader.ensures c.in-Ok.ensures.gives (omega (arith, c.if-count-gt0.false, c.count.ensures))

pub returns-in-Err-Bad-clause-bad : goal.returns-in-Err-Bad-clause-bad
returns-in-Err-Bad-clause-bad c =
    count_is _ _ _ _ c.count-in-Err-Bad.ensures.count c.count-in-Err-Bad-2.ensures
    (stopped c.args.tokens.now _ _ c.new-reader.ensures (rw c.in-Err-Bad.field-0-is at c.in-Err-Bad.ensures.gives))
