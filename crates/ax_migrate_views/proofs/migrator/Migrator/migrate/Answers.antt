use Rattle.std.proofs.Common.{◌≤◌, false, length, arith, subst}
use Rattle.std.proofs.lemmas.List.{length-take-le}
use Rattle.ax_bits.specs.Out.{room}
use Rattle.ax_migrate_views.proofs.ViewBlocks.{few, fits, appended}
use Rattle.ax_codec.specs.Table.{record_kind_at}
use Rattle.ax_walk.specs.Pieces.{ArePieces}
use Rattle.ax_migrate_views.proofs.migrator.Migrator.migrate.Goals as goal

pub slice_bounds-output-end : goal.slice_bounds-output-end
slice_bounds-output-end c =
    let view = c.args.view.now in
    let pieces = subst (λ codec. ArePieces false (record_kind_at codec.nodes codec.slots) view.count view.body.now) c.requires.view view.records in
    omega (arith, few c.args.self.now view.body.now c.lay_view-octets.result c.lay_view-octets.new.output c.args.self.now.editions view.count view.size.0 pieces c.lay_view-octets.ensures.laid (room c.args.out.now) c.requires.room, c.lay_view-octets.ensures.room)

pub slice_bounds-push_octets-end : goal.slice_bounds-push_octets-end
slice_bounds-push_octets-end c =
    let view = c.args.view.now in
    let pieces = subst (λ codec. ArePieces false (record_kind_at codec.nodes codec.slots) view.count view.body.now) c.requires.view view.records in
    let n = c.lay_view-octets.result in
    let size : n ≤ length c.lay_view-octets.new.output = omega (arith, few c.args.self.now view.body.now n c.lay_view-octets.new.output c.args.self.now.editions view.count view.size.0 pieces c.lay_view-octets.ensures.laid (room c.args.out.now) c.requires.room, c.lay_view-octets.ensures.room) in
    omega (arith, length-take-le n c.lay_view-octets.new.output size)

pub push_octets-requires : goal.push_octets-requires
push_octets-requires c =
    let view = c.args.view.now in
    let pieces = subst (λ codec. ArePieces false (record_kind_at codec.nodes codec.slots) view.count view.body.now) c.requires.view view.records in
    let n = c.lay_view-octets.result in
    let size : n ≤ length c.lay_view-octets.new.output = omega (arith, few c.args.self.now view.body.now n c.lay_view-octets.new.output c.args.self.now.editions view.count view.size.0 pieces c.lay_view-octets.ensures.laid (room c.args.out.now) c.requires.room, c.lay_view-octets.ensures.room) in
    omega (arith, length-take-le n c.lay_view-octets.new.output size, fits c.args.self.now view.body.now n c.lay_view-octets.new.output c.args.self.now.editions view.count view.size.0 pieces c.lay_view-octets.ensures.laid (room c.args.out.now) c.requires.room)

pub returns : goal.returns
returns c =
    let view = c.args.view.now in
    let pieces = subst (λ codec. ArePieces false (record_kind_at codec.nodes codec.slots) view.count view.body.now) c.requires.view view.records in
    let n = c.lay_view-octets.result in
    appended c.args.self.now view.body.now n c.lay_view-octets.new.output c.args.self.now.editions view.count view.size.0 pieces c.lay_view-octets.ensures.laid c.args.out.now c.push_octets.new.self
    (few c.args.self.now view.body.now n c.lay_view-octets.new.output c.args.self.now.editions view.count view.size.0 pieces c.lay_view-octets.ensures.laid (room c.args.out.now) c.requires.room) c.push_octets.ensures
