use Rattle.std.proofs.Common.{◌≤◌, arith, false, length, subst}
use Rattle.std.proofs.lemmas.List.{length-take-le}
use Rattle.ax_bits.specs.Out.{room}
use Rattle.ax_migrate_views.proofs.ViewRanges.{range_few, range_fits, range_appended}
use Rattle.ax_codec.specs.Table.{record_kind_at}
use Rattle.ax_walk.specs.Pieces.{ArePieces}
use Rattle.ax_migrate_views.proofs.migrator.Migrator.migrate_range.Goals as goal

pub slice_bounds-output-end : goal.slice_bounds-output-end
slice_bounds-output-end c =
    let m = c.args.self.now in
    let view = c.args.view.now in
    let pieces = subst (λ codec. ArePieces false (record_kind_at codec.nodes codec.slots) view.count view.body.now) c.requires.view view.records in
    omega (arith, range_few m c.args.self.now.editions view.body.now view.size.1 view.size.0 view.count pieces c.args.from c.args.count c.lay_range-octets.result c.lay_range-octets.new.output c.lay_range-octets.ensures.laid (room c.args.out.now) c.requires.range, c.lay_range-octets.ensures.room)

pub slice_bounds-push_octets-end : goal.slice_bounds-push_octets-end
slice_bounds-push_octets-end c =
    let m = c.args.self.now in
    let view = c.args.view.now in
    let pieces = subst (λ codec. ArePieces false (record_kind_at codec.nodes codec.slots) view.count view.body.now) c.requires.view view.records in
    let n = c.lay_range-octets.result in
    let size : n ≤ length c.lay_range-octets.new.output = omega (arith, range_few m c.args.self.now.editions view.body.now view.size.1 view.size.0 view.count pieces c.args.from c.args.count c.lay_range-octets.result c.lay_range-octets.new.output c.lay_range-octets.ensures.laid (room c.args.out.now) c.requires.range, c.lay_range-octets.ensures.room) in
    omega (arith, length-take-le n c.lay_range-octets.new.output size)

pub push_octets-requires : goal.push_octets-requires
push_octets-requires c =
    let m = c.args.self.now in
    let view = c.args.view.now in
    let pieces = subst (λ codec. ArePieces false (record_kind_at codec.nodes codec.slots) view.count view.body.now) c.requires.view view.records in
    let n = c.lay_range-octets.result in
    let size : n ≤ length c.lay_range-octets.new.output = omega (arith, range_few m c.args.self.now.editions view.body.now view.size.1 view.size.0 view.count pieces c.args.from c.args.count c.lay_range-octets.result c.lay_range-octets.new.output c.lay_range-octets.ensures.laid (room c.args.out.now) c.requires.range, c.lay_range-octets.ensures.room) in
    omega (arith, length-take-le n c.lay_range-octets.new.output size, range_fits m c.args.self.now.editions view.body.now view.size.1 view.size.0 view.count pieces c.args.from c.args.count c.lay_range-octets.result c.lay_range-octets.new.output c.lay_range-octets.ensures.laid (room c.args.out.now) c.requires.range)

pub returns : goal.returns
returns c =
    let m = c.args.self.now in
    let view = c.args.view.now in
    let pieces = subst (λ codec. ArePieces false (record_kind_at codec.nodes codec.slots) view.count view.body.now) c.requires.view view.records in
    range_appended m c.args.self.now.editions view.body.now view.size.1 view.size.0 view.count pieces c.args.from c.args.count c.lay_range-octets.result c.lay_range-octets.new.output c.lay_range-octets.ensures.laid c.args.out.now c.push_octets.new.self (range_few m c.args.self.now.editions view.body.now view.size.1 view.size.0 view.count pieces c.args.from c.args.count c.lay_range-octets.result c.lay_range-octets.new.output c.lay_range-octets.ensures.laid (room c.args.out.now) c.requires.range) c.push_octets.ensures
