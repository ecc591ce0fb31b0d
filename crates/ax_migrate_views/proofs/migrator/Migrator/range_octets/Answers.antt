use Rattle.std.proofs.Common.{◌+◌, arith, ap, false, length, subst}
use Rattle.ax_migrate_views.proofs.ViewRanges.{there_in, shown_few, later_few, later_there, range_within, range_spelled}
use Rattle.ax_codec.specs.Table.{record_kind_at}
use Rattle.ax_walk.specs.Left.{records_left}
use Rattle.ax_walk.specs.Pieces.{ArePieces}
use Rattle.ax_walk.specs.Views.{SpellEach}
use Rattle.ax_migrate_views.proofs.migrator.Migrator.range_octets.Goals as goal

pub skip_records-start-requires-clause-there : goal.skip_records-start-requires-clause-there
skip_records-start-requires-clause-there c =
    let m = c.args.self.now in
    let view = c.args.view.now in
    let pieces = subst (λ codec. ArePieces false (record_kind_at codec.nodes codec.slots) view.count view.body.now) c.requires.view view.records in
    let shown = records_left c.records-later.result in
    let each = subst (λ codec. SpellEach codec view.body.now shown) c.requires.view c.records-later.ensures in
    omega (arith, there_in m c.args.self.now.editions view.body.now view.size.1 view.size.0 view.count pieces shown each (c.args.from + c.args.count) c.requires.there)

pub skip_records-start-requires-clause-few : goal.skip_records-start-requires-clause-few
skip_records-start-requires-clause-few c =
    let m = c.args.self.now in
    let view = c.args.view.now in
    let pieces = subst (λ codec. ArePieces false (record_kind_at codec.nodes codec.slots) view.count view.body.now) c.requires.view view.records in
    let shown = records_left c.records-later.result in
    let each = subst (λ codec. SpellEach codec view.body.now shown) c.requires.view c.records-later.ensures in
    shown_few m c.args.self.now.editions view.body.now view.size.1 view.size.0 view.count pieces shown each

pub skip_records-size-requires-clause-there : goal.skip_records-size-requires-clause-there
skip_records-size-requires-clause-there c =
    let m = c.args.self.now in
    let view = c.args.view.now in
    let pieces = subst (λ codec. ArePieces false (record_kind_at codec.nodes codec.slots) view.count view.body.now) c.requires.view view.records in
    let shown = records_left c.records-later.result in
    let each = subst (λ codec. SpellEach codec view.body.now shown) c.requires.view c.records-later.ensures in
    later_there m c.args.self.now.editions view.body.now view.size.1 view.size.0 view.count pieces shown each c.args.from c.args.count (records_left c.skip_records-start.new.later) c.skip_records-start.ensures.left c.requires.there

pub skip_records-size-requires-clause-few : goal.skip_records-size-requires-clause-few
skip_records-size-requires-clause-few c =
    let m = c.args.self.now in
    let view = c.args.view.now in
    let pieces = subst (λ codec. ArePieces false (record_kind_at codec.nodes codec.slots) view.count view.body.now) c.requires.view view.records in
    let shown = records_left c.records-later.result in
    let each = subst (λ codec. SpellEach codec view.body.now shown) c.requires.view c.records-later.ensures in
    later_few m c.args.self.now.editions view.body.now view.size.1 view.size.0 view.count pieces shown each c.args.from (records_left c.skip_records-start.new.later) c.skip_records-start.ensures.left

pub overflow_add-result : goal.overflow_add-result
overflow_add-result c =
    let m = c.args.self.now in
    let view = c.args.view.now in
    let pieces = subst (λ codec. ArePieces false (record_kind_at codec.nodes codec.slots) view.count view.body.now) c.requires.view view.records in
    let shown = records_left c.records-later.result in
    let each = subst (λ codec. SpellEach codec view.body.now shown) c.requires.view c.records-later.ensures in
    omega (arith, range_within m c.args.self.now.editions view.body.now view.size.1 view.size.0 view.count pieces shown each c.args.from c.args.count c.skip_records-start.result c.skip_records-size.result (records_left c.skip_records-start.new.later) c.skip_records-start.ensures.left c.skip_records-start.ensures.octets c.skip_records-size.ensures.octets, view.size.1)

pub slice_bounds-result-end : goal.slice_bounds-result-end
slice_bounds-result-end c =
    let m = c.args.self.now in
    let view = c.args.view.now in
    let pieces = subst (λ codec. ArePieces false (record_kind_at codec.nodes codec.slots) view.count view.body.now) c.requires.view view.records in
    let shown = records_left c.records-later.result in
    let each = subst (λ codec. SpellEach codec view.body.now shown) c.requires.view c.records-later.ensures in
    omega (arith, range_within m c.args.self.now.editions view.body.now view.size.1 view.size.0 view.count pieces shown each c.args.from c.args.count c.skip_records-start.result c.skip_records-size.result (records_left c.skip_records-start.new.later) c.skip_records-start.ensures.left c.skip_records-start.ensures.octets c.skip_records-size.ensures.octets, ap length c.octets.ensures.body)

pub returns : goal.returns
returns c =
    let m = c.args.self.now in
    let view = c.args.view.now in
    let pieces = subst (λ codec. ArePieces false (record_kind_at codec.nodes codec.slots) view.count view.body.now) c.requires.view view.records in
    let shown = records_left c.records-later.result in
    let each = subst (λ codec. SpellEach codec view.body.now shown) c.requires.view c.records-later.ensures in
    range_spelled m c.args.self.now.editions view.body.now view.size.1 view.size.0 view.count pieces shown each c.args.from c.args.count c.skip_records-start.result c.skip_records-size.result (records_left c.skip_records-start.new.later) c.skip_records-start.ensures.left c.skip_records-start.ensures.octets c.skip_records-size.ensures.octets c.octets.result.now c.octets.ensures.body
