use Rattle.std.proofs.Common.{◌≡◌, ◌%◌, List, arith, ap, false, length, subst, ◌∙◌}
use Rattle.std.proofs.lemmas.List.{length-set}
use Rattle.ax_bits.specs.Bits.{bits}
use Rattle.ax_migrate_views.proofs.ViewRanges.{all}
use Rattle.ax_migrate_views.specs.Blocks.{old_tree}
use Rattle.ax_format.specs.Bodies.{SpellsBody}
use Rattle.ax_format.specs.Tree.{EntriesTree}
use Rattle.ax_codec.specs.Table.{record_kind_at}
use Rattle.ax_walk.specs.Pieces.{ArePieces}
use Rattle.ax_walk.specs.Views.{CountsRecords}
use Rattle.ax_migrate_views.proofs.Keeping.{one_kept}
use Rattle.ax_migrate_views.proofs.Splitting.{judged_first, judged_more, judged_long, judged_none, fit_within_left, more_there}
use Rattle.ax_migrate_views.proofs.pieces.first_too_long.Goals as goal

pub loop-from-init : goal.loop-from-init
loop-from-init c =
    (judged_first c.args.migrator.now c.args.view.now.body.now, c.requires.room, c.requires.known)

pub fit-fit-requires-clause-from : goal.fit-fit-requires-clause-from
fit-fit-requires-clause-from c =
    let m = c.args.migrator.now in
    let view = c.args.view.now in
    let of = c.args.migrator.now.editions in
    let pieces = subst (λ codec. ArePieces false (record_kind_at codec.nodes codec.slots) view.count view.body.now) c.requires.view view.records in
    let whole = all m of view.body.now view.size.1 view.size.0 view.count pieces in
    let counts = subst (λ codec. CountsRecords codec view.body.now c.count-count.result) c.requires.view c.count-count.ensures in
    let counted : (records : List EntriesTree) → SpellsBody (old_tree m) records (bits view.body.now) → c.count-count.result ≡ length records = λ records s. counts.counts (old_tree m) records of.compiled.clean of.compiled.stands s in
    more_there m view.body.now c.loop-from.from c.count-count.result counted c.loop-from-test.true

pub returns-then-fit-eq0-clause-found : goal.returns-then-fit-eq0-clause-found
returns-then-fit-eq0-clause-found c =
    let m = c.args.migrator.now in
    let view = c.args.view.now in
    let of = c.args.migrator.now.editions in
    let pieces = subst (λ codec. ArePieces false (record_kind_at codec.nodes codec.slots) view.count view.body.now) c.requires.view view.records in
    let whole = all m of view.body.now view.size.1 view.size.0 view.count pieces in
    let counts = subst (λ codec. CountsRecords codec view.body.now c.count-count.result) c.requires.view c.count-count.ensures in
    let counted : (records : List EntriesTree) → SpellsBody (old_tree m) records (bits view.body.now) → c.count-count.result ≡ length records = λ records s. counts.counts (old_tree m) records of.compiled.clean of.compiled.stands s in
    judged_long m view.body.now c.loop-from.from c.count-count.result counted c.loop-from-test.true c.fit-fit.result c.fit-fit.ensures c.loop-from.invariant.0 c.if-fit-eq0.true

pub overflow_add-from : goal.overflow_add-from
overflow_add-from c =
    let m = c.args.migrator.now in
    let view = c.args.view.now in
    let of = c.args.migrator.now.editions in
    let pieces = subst (λ codec. ArePieces false (record_kind_at codec.nodes codec.slots) view.count view.body.now) c.requires.view view.records in
    let whole = all m of view.body.now view.size.1 view.size.0 view.count pieces in
    let counts = subst (λ codec. CountsRecords codec view.body.now c.count-count.result) c.requires.view c.count-count.ensures in
    let counted : (records : List EntriesTree) → SpellsBody (old_tree m) records (bits view.body.now) → c.count-count.result ≡ length records = λ records s. counts.counts (old_tree m) records of.compiled.clean of.compiled.stands s in
    omega (arith, fit_within_left m view.body.now c.loop-from.from c.count-count.result counted c.loop-from-test.true c.fit-fit.result c.fit-fit.ensures whole.0 whole.1, c.count-count.type_inv)

pub loop-from-preserved : goal.loop-from-preserved
loop-from-preserved c =
    let m = c.args.migrator.now in
    let view = c.args.view.now in
    let of = c.args.migrator.now.editions in
    let pieces = subst (λ codec. ArePieces false (record_kind_at codec.nodes codec.slots) view.count view.body.now) c.requires.view view.records in
    let whole = all m of view.body.now view.size.1 view.size.0 view.count pieces in
    let counts = subst (λ codec. CountsRecords codec view.body.now c.count-count.result) c.requires.view c.count-count.ensures in
    let counted : (records : List EntriesTree) → SpellsBody (old_tree m) records (bits view.body.now) → c.count-count.result ≡ length records = λ records s. counts.counts (old_tree m) records of.compiled.clean of.compiled.stands s in (
      judged_more m view.body.now c.loop-from.from c.count-count.result counted c.loop-from-test.true c.fit-fit.result c.fit-fit.ensures c.loop-from.invariant.0,
      ap length c.keep.ensures ∙ length-set c.loop-from.known _ _ ∙ c.loop-from.invariant.1,
      one_kept m view.body.now c.loop-from.known c.keep.new.known (c.loop-from.from % 64) (record { from = c.loop-from.from; fit = c.fit-fit.result }) c.loop-from.invariant.2 (omega (arith, c.loop-from.invariant.1)) c.fit-fit.ensures c.keep.ensures,
    )

pub returns-clause-found : goal.returns-clause-found
returns-clause-found c =
    let m = c.args.migrator.now in
    let view = c.args.view.now in
    let of = c.args.migrator.now.editions in
    let pieces = subst (λ codec. ArePieces false (record_kind_at codec.nodes codec.slots) view.count view.body.now) c.requires.view view.records in
    let whole = all m of view.body.now view.size.1 view.size.0 view.count pieces in
    let counts = subst (λ codec. CountsRecords codec view.body.now c.count-count.result) c.requires.view c.count-count.ensures in
    let counted : (records : List EntriesTree) → SpellsBody (old_tree m) records (bits view.body.now) → c.count-count.result ≡ length records = λ records s. counts.counts (old_tree m) records of.compiled.clean of.compiled.stands s in
    judged_none m view.body.now c.loop-from.from c.count-count.result counted c.loop-from-test.false c.loop-from.invariant.0
