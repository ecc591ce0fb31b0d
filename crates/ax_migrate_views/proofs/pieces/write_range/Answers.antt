use Rattle.std.proofs.Common.{◌≤◌, arith, false, subst, sym}
use Rattle.ax_migrate_views.proofs.ViewRanges.{all}
use Rattle.ax_codec.specs.Table.{record_kind_at}
use Rattle.ax_walk.specs.Pieces.{ArePieces}
use Rattle.std.proofs.lemmas.List.{length-take-le}
use Rattle.ax_migrate_views.proofs.Splitting.{range_written}
use Rattle.ax_migrate_views.proofs.pieces.write_range.Goals as goal

pub slice_bounds-write_text-end : goal.slice_bounds-write_text-end
slice_bounds-write_text-end g c =
    let m = c.args.migrator.now in
    let view = c.args.view.now in
    let of = c.args.migrator.now.editions in
    let pieces = subst (λ codec. ArePieces false (record_kind_at codec.nodes codec.slots) view.count view.body.now) c.requires.view view.records in
    let whole = all m of view.body.now view.size.1 view.size.0 view.count pieces in
    let short : c.lay_range-octets.result ≤ 65535 = subst (λ n. n ≤ 65535) (sym (c.lay_range-octets.ensures.laid.measured whole.0 whole.1)) (c.requires.range.short whole.0 whole.1) in
    omega (arith, short, c.lay_range-octets.ensures.room)

pub slice_bounds-write_text-end-2 : goal.slice_bounds-write_text-end-2
slice_bounds-write_text-end-2 g c =
    let m = c.args.migrator.now in
    let view = c.args.view.now in
    let of = c.args.migrator.now.editions in
    let pieces = subst (λ codec. ArePieces false (record_kind_at codec.nodes codec.slots) view.count view.body.now) c.requires.view view.records in
    let whole = all m of view.body.now view.size.1 view.size.0 view.count pieces in
    let short : c.lay_range-octets.result ≤ 65535 = subst (λ n. n ≤ 65535) (sym (c.lay_range-octets.ensures.laid.measured whole.0 whole.1)) (c.requires.range.short whole.0 whole.1) in
    sym (length-take-le c.lay_range-octets.result c.lay_range-octets.new.output (omega (arith, short, c.lay_range-octets.ensures.room)))

pub returns-clause-written : goal.returns-clause-written
returns-clause-written g c =
    let m = c.args.migrator.now in
    let view = c.args.view.now in
    let of = c.args.migrator.now.editions in
    let pieces = subst (λ codec. ArePieces false (record_kind_at codec.nodes codec.slots) view.count view.body.now) c.requires.view view.records in
    let whole = all m of view.body.now view.size.1 view.size.0 view.count pieces in
    let short : c.lay_range-octets.result ≤ 65535 = subst (λ n. n ≤ 65535) (sym (c.lay_range-octets.ensures.laid.measured whole.0 whole.1)) (c.requires.range.short whole.0 whole.1) in
    range_written m view.body.now c.args.range.from c.args.range.fit.count c.lay_range-octets.result c.lay_range-octets.new.output _ _ _ _ c.write_text.result short c.lay_range-octets.ensures.laid c.write_text.ensures
