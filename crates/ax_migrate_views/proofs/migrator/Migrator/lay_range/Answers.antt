use Rattle.std.proofs.Common.{false, subst}
use Rattle.ax_migrate_views.proofs.ViewRanges.{range_old, range_size, range_laid}
use Rattle.ax_codec.specs.Table.{record_kind_at}
use Rattle.ax_walk.specs.Pieces.{ArePieces}
use Rattle.ax_migrate_views.proofs.migrator.Migrator.lay_range.Goals as goal

pub lay_spelled-requires-clause-spelled : goal.lay_spelled-requires-clause-spelled
lay_spelled-requires-clause-spelled c =
    let m = c.args.self.now in
    let view = c.args.view.now in
    let pieces = subst (λ codec. ArePieces false (record_kind_at codec.nodes codec.slots) view.count view.body.now) c.requires.view view.records in
    range_old m c.args.self.now.editions view.body.now view.size.1 view.size.0 view.count pieces c.args.from c.args.count c.range_octets.result.now c.range_octets.ensures c.requires.some c.requires.there

pub lay_spelled-requires-clause-size : goal.lay_spelled-requires-clause-size
lay_spelled-requires-clause-size c =
    let m = c.args.self.now in
    let view = c.args.view.now in
    let pieces = subst (λ codec. ArePieces false (record_kind_at codec.nodes codec.slots) view.count view.body.now) c.requires.view view.records in
    range_size m c.args.self.now.editions view.body.now view.size.1 view.size.0 view.count pieces c.args.from c.args.count c.range_octets.result.now c.range_octets.ensures c.requires.some c.requires.there

pub returns-clause-laid : goal.returns-clause-laid
returns-clause-laid c =
    let m = c.args.self.now in
    let view = c.args.view.now in
    let pieces = subst (λ codec. ArePieces false (record_kind_at codec.nodes codec.slots) view.count view.body.now) c.requires.view view.records in
    range_laid m c.args.self.now.editions view.body.now view.size.1 view.size.0 view.count pieces c.args.from c.args.count c.range_octets.result.now c.range_octets.ensures c.requires.some c.requires.there c.lay_spelled.result c.lay_spelled.new.output c.lay_spelled.ensures.laid
