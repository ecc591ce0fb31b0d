use Rattle.std.proofs.Common.{◌≡◌, List, length, arith, subst}
use Rattle.ax_bits.specs.Bits.{bits}
use Rattle.ax_migrate_views.specs.Blocks.{old_tree}
use Rattle.ax_model.specs.Bodies.{SpellsBody}
use Rattle.ax_model.specs.Tree.{EntriesTree}
use Rattle.ax_view.specs.Views.{CountsRecords}
use Rattle.ax_codec_tests.proofs.ranges.has_records.Goals as goal

pub returns : goal.returns
returns g c =
    let m = c.args.migrator.now in
    let view = c.args.view.now in
    let of = c.args.migrator.now.editions in
    let counts = subst (λ codec. CountsRecords codec view.body.now c.count-records.result) c.requires.view c.count-records.ensures in
    let counted : (records : List EntriesTree) → SpellsBody (old_tree m) records (bits view.body.now) → c.count-records.result ≡ length records = λ records s. counts.counts (old_tree m) records of.compiled.clean of.compiled.stands s in
    record { there = λ records s. omega (arith, counted records s, c.if-records-from.false, c.if-records-from-2.false) }
