use Rattle.std.proofs.Common.{◌≤◌, ◌+◌, ◌*◌, length}
use Rattle.ax_expressions.proofs.Ways.{ReadSoFar}
use Rattle.ax_expressions.proofs.expressions.+read_expr.Given as goal

abbrev pub invariant-exprs-loop-made : goal.invariant-exprs-loop-made
invariant-exprs-loop-made l = record {
  read : ReadSoFar l.initial.reader l.reader l.made;
  few : length l.made + length l.reader ≤ length l.initial.reader;
}

abbrev pub decreases-exprs-loop-made : goal.decreases-exprs-loop-made
decreases-exprs-loop-made l = length l.reader

abbrev pub decreases-expr : goal.decreases-expr
decreases-expr l = 3 * length l.reader.now

abbrev pub decreases-exprs : goal.decreases-exprs
decreases-exprs l = 3 * length l.reader.now + 1

abbrev pub decreases-braced : goal.decreases-braced
decreases-braced l = 3 * length l.reader.now + 2

abbrev pub decreases-closed : goal.decreases-closed
decreases-closed l = 3 * length l.reader.now + 1

abbrev pub decreases-negated : goal.decreases-negated
decreases-negated l = 3 * length l.reader.now + 2
