use Rattle.std.proofs.Common.{◌≡◌, ◌≤◌, true, List, length, take, arith, rules, refl, ap, subst}
use Rattle.std.specs.List.{AllByRecursion}
use Rattle.ax_relation.specs.declared.relation.RelationPath.{RelationPath}
use Rattle.ax_rescale.proofs.WatchLists.{none_watched, watched_push, more_counted}
use Rattle.ax_rescale.specs.Watching.{AreWatched, begins}
use Rattle.ax_rescale.specs.declared.watches.Watch.{Watch}
use Rattle.ax_rescale.proofs.watches.watch_all.Goals as goal

pub loop-at-init : goal.loop-at-init
loop-at-init c = (ap (λ (l : List Watch). length l) c.in_ok-made.ensures, λ olds news o f. none_watched olds news c.in_ok-made.made c.as_slice-paths.result.now c.in_ok-made.ensures)

pub push-requires : goal.push-requires
push-requires c = record {
  room =
      let counted = c.loop-at.invariant.0 in
      let bound = c.as_slice-paths.ensures.bound in
      let same = ap (λ (l : List RelationPath). length l) c.as_slice-paths.ensures.members in omega (arith, counted, bound, same);
}

pub loop-at-preserved : goal.loop-at-preserved
loop-at-preserved c = (
  more_counted c.loop-at.made c.push.new.self _ c.loop-at.at c.in_ok-push.ensures.ok c.loop-at.invariant.0,
  λ olds news o f. watched_push olds news c.loop-at.made c.push.new.self c.as_slice-paths.result.now c.loop-at.at _ c.index-paths-at.result c.in_ok-push.ensures.ok c.loop-at.invariant.0 (search rules) (search rules) (c.loop-at.invariant.1 olds news o f)
      refl (c.in_ok-target.ensures olds news o f)
      (subst (λ (l : List RelationPath). c.run_below-skip.result ≤ length l) c.split_at.ensures.back c.run_below-skip.ensures.few)
      (subst (λ (l : List RelationPath). AllByRecursion (λ (q : RelationPath). begins c.index-paths-at.result.old q.old ≡ true) (take c.run_below-skip.result l)) c.split_at.ensures.back c.run_below-skip.ensures.below),
)

pub returns-clause-watched : goal.returns-clause-watched
returns-clause-watched c = λ olds news o f. subst (λ (ps : List RelationPath). AreWatched olds news c.loop-at.made ps) c.as_slice-paths.ensures.members (c.loop-at.invariant.1 olds news o f)

pub returns-clause-all : goal.returns-clause-all
returns-clause-all c =
    let counted = c.loop-at.invariant.0 in
    let same = ap (λ (l : List RelationPath). length l) c.as_slice-paths.ensures.members in omega (arith, counted, same)
