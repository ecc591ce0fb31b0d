use Rattle.std.proofs.Common.{◌≡◌, length, List, refl, sym, ◌∙◌, ap, arith, rules, subst}
use Rattle.ax_format.specs.Plain.{entries_tree, spec_tree, value_tree}
use Rattle.ax_rescale.proofs.WatchLists.{watched_at, few_left}
use Rattle.ax_rescale.proofs.WatchSteps.{missed_step, kept_step, absent_step, all_found}
use Rattle.ax_rescale.specs.Watching.{AreWatched}
use Rattle.ax_rescale.specs.declared.watches.Watch.{Watch}
use Rattle.ax_rescale.proofs.missing.miss_record.Goals as goal

pub loop-at-init : goal.loop-at-init
loop-at-init c = (omega arith, refl)

pub loop-at-preserved-in-Continue-1 : goal.loop-at-preserved-in-Continue-1
loop-at-preserved-in-Continue-1 c =
    let watched = subst (λ (ws : List Watch). AreWatched (spec_tree c.args.converter.now.old.now) (spec_tree c.args.converter.now.new.now) ws c.args.converter.now.relation.now.paths) (sym c.as_slice-watches.ensures.members) c.requires.watched in
    let a = watched_at _ _ c.as_slice-watches.result.now c.args.converter.now.relation.now.paths c.loop-at.at c.index-watches-at.result (search rules) (search rules) watched in (
      omega arith,
      missed_step _ _ c.args.one.number (entries_tree c.args.one.entries.now) (entries_tree c.args.one.made.now) c.index-watches-at.result c.args.converter.now.relation.now.paths c.loop-at.at c.loop-at.misses _ a c.loop-at.invariant.1
          (value_tree c.in-Some.value.now) c.is_missed.result c.push_miss.new.misses (sym c.in-Some.ensures) c.is_missed.ensures c.if-is_missed.true c.in_ok-push_miss-in-Some.ensures,
    )

pub loop-at-preserved-else-is_missed : goal.loop-at-preserved-else-is_missed
loop-at-preserved-else-is_missed c =
    let watched = subst (λ (ws : List Watch). AreWatched (spec_tree c.args.converter.now.old.now) (spec_tree c.args.converter.now.new.now) ws c.args.converter.now.relation.now.paths) (sym c.as_slice-watches.ensures.members) c.requires.watched in
    let a = watched_at _ _ c.as_slice-watches.result.now c.args.converter.now.relation.now.paths c.loop-at.at c.index-watches-at.result (search rules) (search rules) watched in (
      omega arith,
      kept_step _ _ c.args.one.number (entries_tree c.args.one.entries.now) (entries_tree c.args.one.made.now) c.index-watches-at.result c.args.converter.now.relation.now.paths c.loop-at.at c.loop-at.misses _ a c.loop-at.invariant.1
          (value_tree c.in-Some.value.now) c.is_missed.result (sym c.in-Some.ensures) c.is_missed.ensures c.if-is_missed.false,
    )

pub loop-at-preserved : goal.loop-at-preserved
loop-at-preserved c =
    let watched = subst (λ (ws : List Watch). AreWatched (spec_tree c.args.converter.now.old.now) (spec_tree c.args.converter.now.new.now) ws c.args.converter.now.relation.now.paths) (sym c.as_slice-watches.ensures.members) c.requires.watched in
    let a = watched_at _ _ c.as_slice-watches.result.now c.args.converter.now.relation.now.paths c.loop-at.at c.index-watches-at.result (search rules) (search rules) watched in
    let few = few_left _ _ c.index-watches-at.result c.args.converter.now.relation.now.paths c.loop-at.at a in
    let same : length c.as_slice-watches.result.now ≡ length c.args.converter.now.relation.now.paths = ap (λ (ws : List Watch). length ws) c.as_slice-watches.ensures.members ∙ c.requires.all in (
      omega (arith, few, same),
      absent_step _ _ c.args.one.number (entries_tree c.args.one.entries.now) (entries_tree c.args.one.made.now) c.index-watches-at.result c.args.converter.now.relation.now.paths c.loop-at.at c.loop-at.misses _ a c.loop-at.invariant.1
          (sym c.in-None.ensures),
    )

pub returns : goal.returns
returns c =
    let same : length c.as_slice-watches.result.now ≡ length c.args.converter.now.relation.now.paths = ap (λ (ws : List Watch). length ws) c.as_slice-watches.ensures.members ∙ c.requires.all in
    all_found (spec_tree c.args.converter.now.old.now) (spec_tree c.args.converter.now.new.now) c.args.one.number (entries_tree c.args.one.entries.now) (entries_tree c.args.one.made.now) c.args.converter.now.relation.now.paths c.loop-at.at c.loop-at.misses _ (omega (arith, same)) c.loop-at.invariant.1
