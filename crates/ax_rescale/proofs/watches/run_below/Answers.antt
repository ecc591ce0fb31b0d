use Rattle.std.proofs.Common.{◌≡◌, true, arith, rules, take, subst, sym, ◌∙◌}
use Rattle.std.specs.List.{AllByRecursion}
use Rattle.ax_relation.specs.declared.relation.RelationPath.{RelationPath}
use Rattle.ax_rescale.proofs.WatchLists.{all_first}
use Rattle.ax_rescale.specs.Watching.{begins}
use Rattle.ax_rescale.proofs.watches.run_below.Goals as goal

pub loop-one-init : goal.loop-one-init
loop-one-init c = search rules

pub returns-then-not-begins-clause-few : goal.returns-then-not-begins-clause-few
returns-then-not-begins-clause-few c = omega (arith, c.loop-one.invariant.0)

pub returns-then-not-begins-clause-below : goal.returns-then-not-begins-clause-below
returns-then-not-begins-clause-below c =
    subst (λ n. AllByRecursion (λ (q : RelationPath). begins c.args.place.now q.old ≡ true) (take n c.args.later.now)) (sym c.loop-one.invariant.0) c.loop-one.invariant.1

pub overflow_add-count : goal.overflow_add-count
overflow_add-count c = omega (arith, c.loop-one.invariant.0)

pub loop-one-preserved : goal.loop-one-preserved
loop-one-preserved c = (
  omega (arith, c.loop-one.invariant.0),
  all_first (λ (q : RelationPath). begins c.args.place.now q.old ≡ true) c.loop-one.one-index c.args.later.now c.one-item.result (search rules) (search rules) (sym c.begins.ensures ∙ c.if-not-begins.false) c.loop-one.invariant.1,
)

pub returns-clause-few : goal.returns-clause-few
returns-clause-few c = omega (arith, c.loop-one.invariant.0)

pub returns-clause-below : goal.returns-clause-below
returns-clause-below c =
    subst (λ n. AllByRecursion (λ (q : RelationPath). begins c.args.place.now q.old ≡ true) (take n c.args.later.now)) (sym c.loop-one.invariant.0) c.loop-one.invariant.1
