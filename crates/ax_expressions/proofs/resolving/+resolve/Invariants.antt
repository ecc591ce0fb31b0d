use Rattle.std.proofs.Common.{◌≡◌, length, map, take}
use Rattle.ax_format.specs.Plain.{catalogue_tree}
use Rattle.ax_expressions.specs.Tests.{test_tree, resolved}
use Rattle.ax_expressions.specs.Tree.{expr_tree}
use Rattle.ax_expressions.proofs.resolving.+resolve.Given as goal

abbrev pub invariant-resolve_each-loop-expr : goal.invariant-resolve_each-loop-expr
invariant-resolve_each-loop-expr l =
    (length l.made ≡ l.expr-index) × (map test_tree l.made ≡ map (λ e. resolved (catalogue_tree l.catalogue) (expr_tree e)) (take l.expr-index l.exprs))
