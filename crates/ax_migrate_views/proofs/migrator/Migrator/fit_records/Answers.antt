use Rattle.std.proofs.Common.{◌≡◌, ◌≤◌, arith, refl, length, subst, sym}
use Rattle.ax_migrate_views.proofs.Fits.{at_next, fit_begins, fit_more, fit_stops, fit_ends, next_spelled, next_size, own_some}
use Rattle.ax_migrate_views.proofs.LossSteps.{records_few}
use Rattle.ax_migrate_views.proofs.migrator.Migrator.fit_records.Goals as goal
use Rattle.ax_migrate_views.specs.Blocks.{LaysMigrated}
use Rattle.ax_migrate_views.specs.Ranges.{SpellsOld}
use Rattle.ax_walk.specs.Left.{record_shown, records_left}

pub loop-record-init : goal.loop-record-init
loop-record-init c = (fit_begins c.args.self.now (records_left c.args.later.now) c.requires.records, omega arith, omega arith)

pub lay_spelled-own-requires-clause-spelled : goal.lay_spelled-own-requires-clause-spelled
lay_spelled-own-requires-clause-spelled c =
    let m = c.args.self.now in
    let t = at_next m _ _ _ (record_shown c.in-Some.record) _ _ c.loop-record.invariant.0 c.in-Some.ensures.steps in
    subst (SpellsOld m) (sym c.octets.ensures.body) (next_spelled m c.args.self.now.editions _ _ t.records)

pub lay_spelled-own-requires-clause-size : goal.lay_spelled-own-requires-clause-size
lay_spelled-own-requires-clause-size c =
    let m = c.args.self.now in
    let t = at_next m _ _ _ (record_shown c.in-Some.record) _ _ c.loop-record.invariant.0 c.in-Some.ensures.steps in
    subst (λ octets. (1 ≤ length octets) × (length octets ≤ 65532)) (sym c.octets.ensures.body) (next_size m c.args.self.now.editions _ _ t.records)

pub overflow_sub-own : goal.overflow_sub-own
overflow_sub-own c =
    let m = c.args.self.now in
    let t = at_next m _ _ _ (record_shown c.in-Some.record) _ _ c.loop-record.invariant.0 c.in-Some.ensures.steps in
    let laid = subst (λ octets. LaysMigrated m octets c.lay_spelled-own.result c.lay_spelled-own.new.output) c.octets.ensures.body c.lay_spelled-own.ensures.laid in
    own_some m c.args.self.now.editions (record_shown c.in-Some.record) _ _ _ laid _ _ _ t

pub returns-then-count-eq0 : goal.returns-then-count-eq0
returns-then-count-eq0 c =
    let m = c.args.self.now in
    let t = at_next m _ _ _ (record_shown c.in-Some.record) _ _ c.loop-record.invariant.0 c.in-Some.ensures.steps in
    let laid = subst (λ octets. LaysMigrated m octets c.lay_spelled-own.result c.lay_spelled-own.new.output) c.octets.ensures.body c.lay_spelled-own.ensures.laid in
    let some = own_some m c.args.self.now.editions (record_shown c.in-Some.record) _ _ _ laid _ _ _ t in
    fit_stops m c.args.self.now.editions (record_shown c.in-Some.record) _ _ _ laid _ _ _ some c.lay_spelled-own.type_inv t.few c.saturating_add-more.ensures _ _ t c.if-more-gt-LONGEST.true (λ e. refl) (λ lt. absurd (omega (arith, c.if-count-eq0.true, lt)))

pub returns-else-count-eq0 : goal.returns-else-count-eq0
returns-else-count-eq0 c =
    let m = c.args.self.now in
    let t = at_next m _ _ _ (record_shown c.in-Some.record) _ _ c.loop-record.invariant.0 c.in-Some.ensures.steps in
    let laid = subst (λ octets. LaysMigrated m octets c.lay_spelled-own.result c.lay_spelled-own.new.output) c.octets.ensures.body c.lay_spelled-own.ensures.laid in
    let some = own_some m c.args.self.now.editions (record_shown c.in-Some.record) _ _ _ laid _ _ _ t in
    fit_stops m c.args.self.now.editions (record_shown c.in-Some.record) _ _ _ laid _ _ _ some c.lay_spelled-own.type_inv t.few c.saturating_add-more.ensures _ _ t c.if-more-gt-LONGEST.true (λ e. absurd (c.if-count-eq0.false e)) (λ lt. refl)

pub overflow_add-count : goal.overflow_add-count
overflow_add-count c =
    let t = at_next c.args.self.now _ _ _ (record_shown c.in-Some.record) _ _ c.loop-record.invariant.0 c.in-Some.ensures.steps in
    omega (arith, t.counts, records_few c.args.later.now)

pub loop-record-preserved : goal.loop-record-preserved
loop-record-preserved c =
    let m = c.args.self.now in
    let t = at_next m _ _ _ (record_shown c.in-Some.record) _ _ c.loop-record.invariant.0 c.in-Some.ensures.steps in
    let laid = subst (λ octets. LaysMigrated m octets c.lay_spelled-own.result c.lay_spelled-own.new.output) c.octets.ensures.body c.lay_spelled-own.ensures.laid in
    let some = own_some m c.args.self.now.editions (record_shown c.in-Some.record) _ _ _ laid _ _ _ t in (
      fit_more m c.args.self.now.editions (record_shown c.in-Some.record) _ _ _ laid _ _ _ some c.lay_spelled-own.type_inv t.few c.saturating_add-more.ensures _ t c.if-more-gt-LONGEST.false,
      c.lay_spelled-own.ensures.room,
      c.lay_spelled-own.ensures.lines_room,
    )

pub returns : goal.returns
returns c = fit_ends c.args.self.now _ _ _ _ c.loop-record.invariant.0 c.in_default.ensures.steps.0 c.requires.some
