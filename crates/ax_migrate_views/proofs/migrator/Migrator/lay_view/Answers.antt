use Rattle.std.proofs.Common.{false, subst}
use Rattle.ax_migrate_views.proofs.ViewBlocks.{view_never_fails}
use Rattle.ax_codec.specs.Table.{record_kind_at}
use Rattle.ax_walk.specs.Pieces.{ArePieces}
use Rattle.ax_walk.specs.Views.{FailsThere}
use Rattle.ax_migrate_views.proofs.migrator.Migrator.lay_view.Goals as goal

pub unreachable-requires : goal.unreachable-requires
unreachable-requires c =
    let view = c.args.view.now in
    view_never_fails c.args.self.now view.count view.body.now c.in-Err.field-0 c.args.self.now.editions view.size.0
    (subst (λ codec. ArePieces false (record_kind_at codec.nodes codec.slots) view.count view.body.now) c.requires.view view.records)
    (subst (λ body. FailsThere c.args.self.now.codec.now body c.in-Err.field-0) c.octets.ensures.body c.in-Err.ensures.fault)
