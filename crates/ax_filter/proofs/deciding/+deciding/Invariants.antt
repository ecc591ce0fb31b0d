use Rattle.std.proofs.Common.{◌≡◌, drop}
use Rattle.ax_filter.specs.Memos.{Recalls}
use Rattle.ax_expressions.specs.Plans.{finds, level_says}
use Rattle.ax_filter.proofs.deciding.+deciding.Given as goal

abbrev pub invariant-many_say-loop-plan : goal.invariant-many_say-loop-plan
invariant-many_say-loop-plan g l =
    let found = finds l.one.questions.now (g.R.HasPlaces.entries l.one.record.now) in
    record {
      recalls : Recalls found l.one.number l.answers;
      said : level_says l.all (drop l.plan-index l.plans) l.one.marked found ≡ level_says l.all l.plans l.one.marked found;
    }
