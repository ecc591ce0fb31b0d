use Rattle.std.proofs.Common.{◌∙◌, ap, arith, drop, length, sym, take}
use Rattle.ax_migrate_views.proofs.RangeRecords.{skip_begins, skip_within, skip_more, skip_never, skip_ends}
use Rattle.ax_migrate_views.proofs.ranges.skip_records.Goals as goal
use Rattle.ax_migrate_views.specs.Ranges.{shown_octets}
use Rattle.ax_walk.specs.Left.{record_shown, records_left}

pub loop-count-init : goal.loop-count-init
loop-count-init c = skip_begins (records_left c.args.later.now) c.args.number

pub returns-in_default-clause-left : goal.returns-in_default-clause-left
returns-in_default-clause-left c = absurd (skip_never _ _ _ _ _ c.loop-count.invariant c.in_default.ensures.steps.0 c.loop-count-test.true c.requires.there)

pub returns-in_default-clause-octets : goal.returns-in_default-clause-octets
returns-in_default-clause-octets c = absurd (skip_never _ _ _ _ _ c.loop-count.invariant c.in_default.ensures.steps.0 c.loop-count-test.true c.requires.there)

pub overflow_add-octets : goal.overflow_add-octets
overflow_add-octets c = omega (arith, ap length c.octets.ensures.body, skip_within _ _ _ (record_shown c.in-Some.record) _ _ _ c.loop-count.invariant c.in-Some.ensures.steps c.requires.few)

pub loop-count-preserved : goal.loop-count-preserved
loop-count-preserved c = skip_more _ _ _ (record_shown c.in-Some.record) _ _ _ c.loop-count.invariant c.in-Some.ensures.steps (length c.octets.result.now) (ap length c.octets.ensures.body) c.loop-count-test.true

pub returns-clause-left : goal.returns-clause-left
returns-clause-left c = c.loop-count.invariant.left ∙ ap (λ n. drop n (records_left c.args.later.now)) (skip_ends _ _ _ _ _ c.loop-count.invariant c.loop-count-test.false)

pub returns-clause-octets : goal.returns-clause-octets
returns-clause-octets c = c.loop-count.invariant.counted ∙ ap (λ n. length (shown_octets (take n (records_left c.args.later.now)))) (skip_ends _ _ _ _ _ c.loop-count.invariant c.loop-count-test.false)
