use Rattle.std.proofs.Common.{◌≡◌, ◌++◌, ◌∷◌, [], length, ap, arith, rules, refl}
use Rattle.std.proofs.lemmas.List.{length_push}
use Rattle.std.proofs.lemmas.Result.{err_from_is_err_and}
use Rattle.ax_expressions.proofs.Arms.{all_stops, any_stops, not_stops, present_stops, is_stops}
use Rattle.ax_expressions.proofs.Ways.{one_more, list_cut_short, list_stops, list_ends, open_lacks, braced_gives, inner_lacks, close_lacks, closed_split, brace_lacks, negated_gives, no_word, arm_read}
use Rattle.ax_expressions.proofs.Trees.{all_tree, any_tree, not_tree, present_tree}
use Rattle.ax_expressions.proofs.expressions.+read_expr.Goals as goal

pub expr-returns-in_ok-inner-in-All-clause-gives : goal.expr-returns-in_ok-inner-in-All-clause-gives
expr-returns-in_ok-inner-in-All-clause-gives t c = arm_read _ _ _ _ _ _ _ (all_tree c.in_ok-inner-in-All.inner) c.in_ok-inner-in-All.ensures.gives.0 refl (search rules) c.in_ok-inner-in-All.ensures.gives.1

pub expr-returns-in_ok-inner-in-Any-clause-gives : goal.expr-returns-in_ok-inner-in-Any-clause-gives
expr-returns-in_ok-inner-in-Any-clause-gives t c = arm_read _ _ _ _ _ _ _ (any_tree c.in_ok-inner-in-Any.inner) c.in_ok-inner-in-Any.ensures.gives.0 refl (search rules) c.in_ok-inner-in-Any.ensures.gives.1

pub expr-returns-in_ok-inner-in-Not-2-clause-gives : goal.expr-returns-in_ok-inner-in-Not-2-clause-gives
expr-returns-in_ok-inner-in-Not-2-clause-gives t c =
    arm_read _ _ _ _ _ _ _ (not_tree c.in_ok-inner-in-Not-2.inner c.in_ok-inner-in-Not.inner c.in_ok-inner-in-Not-2.ensures.ok) c.in_ok-inner-in-Not.ensures.gives.0 refl (search rules) c.in_ok-inner-in-Not.ensures.gives.1

pub exprs-loop-made-preserved : goal.exprs-loop-made-preserved
exprs-loop-made-preserved t c =
    let pushed : c.push.new.self ≡ c.loop-made.made ++ c.in_ok-one.one ∷ [] = c.in_ok-push.ensures.ok in
    let kept : c.takes.new.self ≡ c.loop-made.reader = search rules in
    record {
      read = one_more _ _ _ _ _ _ _ c.loop-made.invariant.read kept c.in_ok-one.ensures.gives pushed;
      few = omega (arith, ap length pushed, length_push c.loop-made.made c.in_ok-one.one, c.loop-made.invariant.few, c.in_ok-one.ensures.moves, ap length kept);
    }

pub exprs-returns-clause-gives : goal.exprs-returns-clause-gives
exprs-returns-clause-gives t c = list_ends _ _ _ _ c.loop-made.invariant.read (search rules)

pub exprs-returns-in_err-takes-clause-gives : goal.exprs-returns-in_err-takes-clause-gives
exprs-returns-in_err-takes-clause-gives t c =
    let p = err_from_is_err_and c.from_residual.result c.from_residual.ensures.1 in rw (p.1, p.2) (list_cut_short _ _ _ _ _ c.loop-made.invariant.read c.in_err-takes.ensures.end)

pub exprs-returns-in_err-one-clause-gives : goal.exprs-returns-in_err-one-clause-gives
exprs-returns-in_err-one-clause-gives t c =
    let p = err_from_is_err_and c.from_residual-in_err-one.result c.from_residual-in_err-one.ensures.1 in rw (p.1, p.2) (list_stops _ _ _ _ _ _ c.loop-made.invariant.read (search rules) (search rules) c.in_err-one.ensures.gives)

pub braced-returns-in_err-expect-clause-gives : goal.braced-returns-in_err-expect-clause-gives
braced-returns-in_err-expect-clause-gives t c =
    let p = err_from_is_err_and c.from_residual.result c.from_residual.ensures.1 in rw (p.1, p.2) (open_lacks _ _ _ c.in_err-expect.ensures.reads)

pub braced-returns-clause-gives : goal.braced-returns-clause-gives
braced-returns-clause-gives t c = braced_gives _ _ _ _ c.in_ok-expect.ensures.reads.1 c.exprs.ensures.gives

pub closed-returns-in_err-inner-clause-gives : goal.closed-returns-in_err-inner-clause-gives
closed-returns-in_err-inner-clause-gives t c =
    let p = err_from_is_err_and c.from_residual.result c.from_residual.ensures.1 in rw (p.1, p.2) (inner_lacks _ _ _ c.in_err-inner.ensures.gives)

pub closed-returns-in_err-expect-clause-gives : goal.closed-returns-in_err-expect-clause-gives
closed-returns-in_err-expect-clause-gives t c =
    let p = err_from_is_err_and c.from_residual-in_err-expect.result c.from_residual-in_err-expect.ensures.1 in rw (p.1, p.2) (close_lacks _ _ _ _ _ c.in_ok-inner.ensures.gives.0 c.in_ok-inner.ensures.gives.1 c.in_err-expect.ensures.reads)

pub closed-returns-clause-gives : goal.closed-returns-clause-gives
closed-returns-clause-gives t c = (c.in_ok-inner.ensures.gives.0, closed_split _ _ _ _ c.in_ok-inner.ensures.gives.1 c.in_ok-expect.ensures.reads.1)

pub negated-returns-in_err-expect-clause-gives : goal.negated-returns-in_err-expect-clause-gives
negated-returns-in_err-expect-clause-gives t c =
    let p = err_from_is_err_and c.from_residual.result c.from_residual.ensures.1 in rw (p.1, p.2) (brace_lacks _ _ _ c.in_err-expect.ensures.reads)

pub negated-returns-clause-gives : goal.negated-returns-clause-gives
negated-returns-clause-gives t c = negated_gives _ _ _ _ c.in_ok-expect.ensures.reads.1 c.closed.ensures.gives

pub expr-returns-in_err-first_word-clause-gives : goal.expr-returns-in_err-first_word-clause-gives
expr-returns-in_err-first_word-clause-gives t c =
    let p = err_from_is_err_and c.from_residual.result c.from_residual.ensures.1 in rw (p.1, p.2) (no_word _ _ c.in_err-first_word.ensures.none)

pub expr-returns-in_err-inner-in-All-clause-gives : goal.expr-returns-in_err-inner-in-All-clause-gives
expr-returns-in_err-inner-in-All-clause-gives t c =
    let p = err_from_is_err_and c.from_residual-in_err-inner-in-All.result c.from_residual-in_err-inner-in-All.ensures.1 in rw (p.1, p.2) (all_stops _ c.args.reader.now _ _ (search rules) c.in_err-inner-in-All.ensures.gives)

pub expr-returns-in_err-inner-in-Any-clause-gives : goal.expr-returns-in_err-inner-in-Any-clause-gives
expr-returns-in_err-inner-in-Any-clause-gives t c =
    let p = err_from_is_err_and c.from_residual-in_err-inner-in-Any.result c.from_residual-in_err-inner-in-Any.ensures.1 in rw (p.1, p.2) (any_stops _ c.args.reader.now _ _ (search rules) c.in_err-inner-in-Any.ensures.gives)

pub expr-returns-in_err-inner-in-Not-clause-gives : goal.expr-returns-in_err-inner-in-Not-clause-gives
expr-returns-in_err-inner-in-Not-clause-gives t c =
    let p = err_from_is_err_and c.from_residual-in_err-inner-in-Not.result c.from_residual-in_err-inner-in-Not.ensures.1 in rw (p.1, p.2) (not_stops _ c.args.reader.now _ _ (search rules) c.in_err-inner-in-Not.ensures.gives)

pub expr-returns-in_err-path-in-Present-clause-gives : goal.expr-returns-in_err-path-in-Present-clause-gives
expr-returns-in_err-path-in-Present-clause-gives t c =
    let p = err_from_is_err_and c.from_residual-in_err-path-in-Present.result c.from_residual-in_err-path-in-Present.ensures.1 in rw (p.1, p.2) (present_stops _ c.args.reader.now _ _ (search rules) c.in_err-path-in-Present.ensures.gives)

pub expr-returns-in_err-path-in-Is-clause-gives : goal.expr-returns-in_err-path-in-Is-clause-gives
expr-returns-in_err-path-in-Is-clause-gives t c =
    let p = err_from_is_err_and c.from_residual-in_err-path-in-Is.result c.from_residual-in_err-path-in-Is.ensures.1 in rw (p.1, p.2) (is_stops _ c.args.reader.now _ _ (search rules) c.in_err-path-in-Is.ensures.gives)

pub expr-returns-in_ok-path-in-Present-clause-gives : goal.expr-returns-in_ok-path-in-Present-clause-gives
expr-returns-in_ok-path-in-Present-clause-gives t c = arm_read _ _ _ _ _ _ _ (present_tree c.in_ok-path-in-Present.path) c.in_ok-path-in-Present.ensures.gives.0 refl (search rules) c.in_ok-path-in-Present.ensures.gives.1
