use Rattle.std.proofs.Common.{◌+◌, arith, false, subst}
use Rattle.ax_migrate_views.proofs.ViewRanges.{there_in, shown_few, later_there, later_records, fits_from}
use Rattle.ax_codec.specs.Table.{record_kind_at}
use Rattle.ax_walk.specs.Left.{records_left}
use Rattle.ax_walk.specs.Pieces.{ArePieces}
use Rattle.ax_walk.specs.Views.{SpellEach}
use Rattle.ax_migrate_views.proofs.migrator.Migrator.fit.Goals as goal

pub skip_records-requires-clause-there : goal.skip_records-requires-clause-there
skip_records-requires-clause-there c =
    let m = c.args.self.now in
    let view = c.args.view.now in
    let pieces = subst (λ codec. ArePieces false (record_kind_at codec.nodes codec.slots) view.count view.body.now) c.requires.view view.records in
    let shown = records_left c.records-later.result in
    let each = subst (λ codec. SpellEach codec view.body.now shown) c.requires.view c.records-later.ensures in
    omega (arith, there_in m c.args.self.now.editions view.body.now view.size.1 view.size.0 view.count pieces shown each (c.args.from + 1) c.requires.from)

pub skip_records-requires-clause-few : goal.skip_records-requires-clause-few
skip_records-requires-clause-few c =
    let m = c.args.self.now in
    let view = c.args.view.now in
    let pieces = subst (λ codec. ArePieces false (record_kind_at codec.nodes codec.slots) view.count view.body.now) c.requires.view view.records in
    let shown = records_left c.records-later.result in
    let each = subst (λ codec. SpellEach codec view.body.now shown) c.requires.view c.records-later.ensures in
    shown_few m c.args.self.now.editions view.body.now view.size.1 view.size.0 view.count pieces shown each

pub fit_records-requires-clause-records : goal.fit_records-requires-clause-records
fit_records-requires-clause-records c =
    let m = c.args.self.now in
    let view = c.args.view.now in
    let pieces = subst (λ codec. ArePieces false (record_kind_at codec.nodes codec.slots) view.count view.body.now) c.requires.view view.records in
    let shown = records_left c.records-later.result in
    let each = subst (λ codec. SpellEach codec view.body.now shown) c.requires.view c.records-later.ensures in
    later_records m c.args.self.now.editions view.body.now view.size.1 view.size.0 view.count pieces shown each c.args.from (records_left c.skip_records.new.later) c.skip_records.ensures.left

pub fit_records-requires-clause-some : goal.fit_records-requires-clause-some
fit_records-requires-clause-some c =
    let m = c.args.self.now in
    let view = c.args.view.now in
    let pieces = subst (λ codec. ArePieces false (record_kind_at codec.nodes codec.slots) view.count view.body.now) c.requires.view view.records in
    let shown = records_left c.records-later.result in
    let each = subst (λ codec. SpellEach codec view.body.now shown) c.requires.view c.records-later.ensures in
    later_there m c.args.self.now.editions view.body.now view.size.1 view.size.0 view.count pieces shown each c.args.from 1 (records_left c.skip_records.new.later) c.skip_records.ensures.left c.requires.from

pub returns : goal.returns
returns c =
    let m = c.args.self.now in
    let view = c.args.view.now in
    let pieces = subst (λ codec. ArePieces false (record_kind_at codec.nodes codec.slots) view.count view.body.now) c.requires.view view.records in
    let shown = records_left c.records-later.result in
    let each = subst (λ codec. SpellEach codec view.body.now shown) c.requires.view c.records-later.ensures in
    fits_from m c.args.self.now.editions view.body.now view.size.1 view.size.0 view.count pieces shown each c.args.from (records_left c.skip_records.new.later) c.fit_records.result c.skip_records.ensures.left c.fit_records.ensures
