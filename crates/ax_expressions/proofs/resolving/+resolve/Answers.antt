use Rattle.ax_expressions.proofs.Resolved.{one_more}
use Rattle.ax_expressions.proofs.Trees.{all_made, any_made, not_made, present_made}
use Rattle.std.proofs.Common.{length, ap, arith, rules}
use Rattle.std.proofs.lemmas.List.{length_push}
use Rattle.ax_expressions.proofs.resolving.+resolve.Goals as goal

pub resolve-returns-in_ok-resolve_each-in-All : goal.resolve-returns-in_ok-resolve_each-in-All
resolve-returns-in_ok-resolve_each-in-All t c = all_made _ _ _ _ c.in-All.is c.in_ok-resolve_each-in-All.ensures

pub resolve-returns-in_ok-resolve_each-in-Any : goal.resolve-returns-in_ok-resolve_each-in-Any
resolve-returns-in_ok-resolve_each-in-Any t c = any_made _ _ _ _ c.in-Any.is c.in_ok-resolve_each-in-Any.ensures

pub resolve-returns-in_ok-new-in-Not : goal.resolve-returns-in_ok-new-in-Not
resolve-returns-in_ok-new-in-Not t c = not_made _ _ _ _ _ c.in-Not.is c.in_ok-new-in-Not.ensures.ok (search rules)

pub resolve-returns-in_ok-place_of-in-Present : goal.resolve-returns-in_ok-place_of-in-Present
resolve-returns-in_ok-place_of-in-Present t c = present_made _ _ _ _ c.in-Present.is c.in_ok-place_of-in-Present.ensures

pub resolve_each-loop-expr-preserved : goal.resolve_each-loop-expr-preserved
resolve_each-loop-expr-preserved t c =
    let pushed = c.in_ok-push.ensures.ok in (
      omega (arith, ap length pushed, length_push c.loop-expr.made c.in_ok-resolve.field-0, c.loop-expr.invariant.0),
      one_more _ _ _ _ _ _ _ (search rules) (search rules) pushed c.in_ok-resolve.ensures c.loop-expr.invariant.1,
    )
