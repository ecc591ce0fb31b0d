use Rattle.std.proofs.Common.{◌≡◌, List, arith, false, length, subst}
use Rattle.ax_bits.specs.Bits.{bits}
use Rattle.ax_migrate_views.proofs.ViewRanges.{all}
use Rattle.ax_migrate_views.specs.Blocks.{old_tree}
use Rattle.ax_format.specs.Bodies.{SpellsBody}
use Rattle.ax_format.specs.Tree.{EntriesTree}
use Rattle.ax_codec.specs.Table.{record_kind_at}
use Rattle.ax_walk.specs.Pieces.{ArePieces}
use Rattle.ax_walk.specs.Views.{CountsRecords}
use Rattle.ax_migrate_views.proofs.Splitting.{blocks_begin, blocks_more, blocks_cut, blocks_end, fit_range, fit_some, fit_within_left, more_there}
use Rattle.ax_migrate_views.proofs.pieces.write_blocks.Goals as goal

pub loop-from-init : goal.loop-from-init
loop-from-init g c =
    (blocks_begin c.args.migrator.now c.args.view.now.body.now _ _, c.requires.room)

pub fit_at-fit-requires-clause-from : goal.fit_at-fit-requires-clause-from
fit_at-fit-requires-clause-from g c =
    let m = c.args.migrator.now in
    let view = c.args.view.now in
    let of = c.args.migrator.now.editions in
    let pieces = subst (λ codec. ArePieces false (record_kind_at codec.nodes codec.slots) view.count view.body.now) c.requires.view view.records in
    let whole = all m of view.body.now view.size.1 view.size.0 view.count pieces in
    let counts = subst (λ codec. CountsRecords codec view.body.now c.count-count.result) c.requires.view c.count-count.ensures in
    let counted : (records : List EntriesTree) → SpellsBody (old_tree m) records (bits view.body.now) → c.count-count.result ≡ length records = λ records s. counts.counts (old_tree m) records of.compiled.clean of.compiled.stands s in
    more_there m view.body.now c.loop-from.from c.count-count.result counted c.loop-from-test.true

pub write_range-requires-clause-range : goal.write_range-requires-clause-range
write_range-requires-clause-range g c =
    let m = c.args.migrator.now in
    let view = c.args.view.now in
    let of = c.args.migrator.now.editions in
    let pieces = subst (λ codec. ArePieces false (record_kind_at codec.nodes codec.slots) view.count view.body.now) c.requires.view view.records in
    let whole = all m of view.body.now view.size.1 view.size.0 view.count pieces in
    let counts = subst (λ codec. CountsRecords codec view.body.now c.count-count.result) c.requires.view c.count-count.ensures in
    let counted : (records : List EntriesTree) → SpellsBody (old_tree m) records (bits view.body.now) → c.count-count.result ≡ length records = λ records s. counts.counts (old_tree m) records of.compiled.clean of.compiled.stands s in
    fit_range m view.body.now c.requires.none c.loop-from.from c.count-count.result counted c.loop-from-test.true c.fit_at-fit.result c.fit_at-fit.ensures whole.0 whole.1 c.loop-from.invariant.0.judged

pub returns-in_err-write_range-clause-written : goal.returns-in_err-write_range-clause-written
returns-in_err-write_range-clause-written g c =
    let m = c.args.migrator.now in
    let view = c.args.view.now in
    let of = c.args.migrator.now.editions in
    let pieces = subst (λ codec. ArePieces false (record_kind_at codec.nodes codec.slots) view.count view.body.now) c.requires.view view.records in
    let whole = all m of view.body.now view.size.1 view.size.0 view.count pieces in
    let counts = subst (λ codec. CountsRecords codec view.body.now c.count-count.result) c.requires.view c.count-count.ensures in
    let counted : (records : List EntriesTree) → SpellsBody (old_tree m) records (bits view.body.now) → c.count-count.result ≡ length records = λ records s. counts.counts (old_tree m) records of.compiled.clean of.compiled.stands s in
    blocks_cut m view.body.now c.requires.none c.loop-from.from c.count-count.result counted c.loop-from-test.true c.fit_at-fit.result c.fit_at-fit.ensures _ _ _ _ _ _ c.loop-from.invariant.0 _ c.from_residual.result c.from_residual.ensures.0 c.in_err-write_range.ensures.written

pub overflow_add-from : goal.overflow_add-from
overflow_add-from g c =
    let m = c.args.migrator.now in
    let view = c.args.view.now in
    let of = c.args.migrator.now.editions in
    let pieces = subst (λ codec. ArePieces false (record_kind_at codec.nodes codec.slots) view.count view.body.now) c.requires.view view.records in
    let whole = all m of view.body.now view.size.1 view.size.0 view.count pieces in
    let counts = subst (λ codec. CountsRecords codec view.body.now c.count-count.result) c.requires.view c.count-count.ensures in
    let counted : (records : List EntriesTree) → SpellsBody (old_tree m) records (bits view.body.now) → c.count-count.result ≡ length records = λ records s. counts.counts (old_tree m) records of.compiled.clean of.compiled.stands s in
    omega (arith, fit_within_left m view.body.now c.loop-from.from c.count-count.result counted c.loop-from-test.true c.fit_at-fit.result c.fit_at-fit.ensures whole.0 whole.1, c.count-count.type_inv)

pub loop-from-smaller : goal.loop-from-smaller
loop-from-smaller g c =
    let m = c.args.migrator.now in
    let view = c.args.view.now in
    let of = c.args.migrator.now.editions in
    let pieces = subst (λ codec. ArePieces false (record_kind_at codec.nodes codec.slots) view.count view.body.now) c.requires.view view.records in
    let whole = all m of view.body.now view.size.1 view.size.0 view.count pieces in
    let counts = subst (λ codec. CountsRecords codec view.body.now c.count-count.result) c.requires.view c.count-count.ensures in
    let counted : (records : List EntriesTree) → SpellsBody (old_tree m) records (bits view.body.now) → c.count-count.result ≡ length records = λ records s. counts.counts (old_tree m) records of.compiled.clean of.compiled.stands s in
    omega (arith, fit_some m view.body.now c.requires.none c.loop-from.from c.count-count.result counted c.loop-from-test.true c.fit_at-fit.result c.fit_at-fit.ensures c.loop-from.invariant.0.judged whole.0 whole.1, c.loop-from-test.true)

pub loop-from-preserved : goal.loop-from-preserved
loop-from-preserved g c =
    let m = c.args.migrator.now in
    let view = c.args.view.now in
    let of = c.args.migrator.now.editions in
    let pieces = subst (λ codec. ArePieces false (record_kind_at codec.nodes codec.slots) view.count view.body.now) c.requires.view view.records in
    let whole = all m of view.body.now view.size.1 view.size.0 view.count pieces in
    let counts = subst (λ codec. CountsRecords codec view.body.now c.count-count.result) c.requires.view c.count-count.ensures in
    let counted : (records : List EntriesTree) → SpellsBody (old_tree m) records (bits view.body.now) → c.count-count.result ≡ length records = λ records s. counts.counts (old_tree m) records of.compiled.clean of.compiled.stands s in
    (blocks_more m view.body.now c.requires.none c.loop-from.from c.count-count.result counted c.loop-from-test.true c.fit_at-fit.result c.fit_at-fit.ensures _ _ _ _ _ _ c.loop-from.invariant.0 _ c.in_ok-write_range.ensures.written, c.in_ok-write_range.ensures.room)

pub returns-clause-written : goal.returns-clause-written
returns-clause-written g c =
    let m = c.args.migrator.now in
    let view = c.args.view.now in
    let of = c.args.migrator.now.editions in
    let pieces = subst (λ codec. ArePieces false (record_kind_at codec.nodes codec.slots) view.count view.body.now) c.requires.view view.records in
    let whole = all m of view.body.now view.size.1 view.size.0 view.count pieces in
    let counts = subst (λ codec. CountsRecords codec view.body.now c.count-count.result) c.requires.view c.count-count.ensures in
    let counted : (records : List EntriesTree) → SpellsBody (old_tree m) records (bits view.body.now) → c.count-count.result ≡ length records = λ records s. counts.counts (old_tree m) records of.compiled.clean of.compiled.stands s in
    blocks_end m view.body.now _ _ _ _ c.loop-from.from c.count-count.result _ counted c.loop-from-test.false c.loop-from.invariant.0
