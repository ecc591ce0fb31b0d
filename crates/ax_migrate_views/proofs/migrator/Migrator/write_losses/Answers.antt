use Rattle.std.proofs.Common.{rules, ◌+◌, ◌++◌, false, length, [], refl, ap, arith, subst, sym, ◌∙◌}
use Rattle.ax_migration.specs.Finding.{record_losses}
use Rattle.ax_migration.specs.Losing.{lost_lines}
use Rattle.ax_migrate_views.proofs.LossSteps.{front_more, front_failed, records_few}
use Rattle.ax_migrate_views.proofs.ToldLosses.{losses_written}
use Rattle.ax_migrate_views.proofs.ViewBlocks.{view_spells}
use Rattle.ax_migrate_views.proofs.WritingSteps.{OfCodec, each_codec, front_all, lost_each, next_lines}
use Rattle.ax_migrate_views.specs.Blocks.{old_tree}
use Rattle.ax_migrate_views.specs.Losses.{shown_losses}
use Rattle.ax_moves.specs.Lost.{key_paths}
use Rattle.ax_endpoints.proofs.Pieces.{nothing_written}
use Rattle.ax_codec.specs.Table.{record_kind_at}
use Rattle.ax_codec.specs.declared.codec.Codec.{Codec}
use Rattle.ax_walk.specs.Left.{record_shown, records_left}
use Rattle.ax_walk.specs.Pieces.{ArePieces}
use Rattle.ax_walk.specs.Shown.{record_entries}
use Rattle.ax_walk.specs.Views.{SpellEach}
use Rattle.ax_migrate_views.proofs.migrator.Migrator.write_losses.Goals as goal

pub loop-one-init : goal.loop-one-init
loop-one-init g c =
    let m = c.args.self.now in
    let view = c.args.view.now in
    let it = c.into_iter-one-iterator.result in
    let of = c.args.self.now.editions in
    let pieces = subst (λ codec. ArePieces false (record_kind_at codec.nodes codec.slots) view.count view.body.now) c.requires.view view.records in
    let each = subst (λ (codec : Codec). SpellEach codec view.body.now (records_left it)) c.requires.view (subst (λ it. SpellEach view.codec.now view.body.now (records_left it)) (sym c.into_iter-one-iterator.ensures.into_iter_gives) c.records-one-items.ensures) in
    record {
      front = record { front = []; split = refl; wrote = nothing_written (g.R.Sink.held c.args.report.now) (g.R.Sink.faults c.args.report.now) tt };
      codec = each_codec m view.body.now (records_left it) of each (view_spells m.codec.now (old_tree m) of.compiled.clean of.compiled.stands view.count view.body.now view.size.0 pieces);
      few = omega (arith, records_few it);
      room = search rules;
    }

pub returns-in_err-write_record : goal.returns-in_err-write_record
returns-in_err-write_record g c =
    let m = c.args.self.now in
    let view = c.args.view.now in
    let it = c.into_iter-one-iterator.result in
    let n = c.loop-one.number in
    let later = records_left c.next.new.self in
    let paths = key_paths m.lost.items in
    let each = subst (λ (codec : Codec). SpellEach codec view.body.now (records_left it)) c.requires.view (subst (λ it. SpellEach view.codec.now view.body.now (records_left it)) (sym c.into_iter-one-iterator.ensures.into_iter_gives) c.records-one-items.ensures) in
    let lines = next_lines c.args.block n paths (records_left c.loop-one.one-iterator) later (record_shown c.in-Some.one) c.in-Some.ensures.steps
    ∙ ap (λ ks. lost_lines c.args.block (record_losses n (record_entries c.in-Some.one) (key_paths ks)) ++ lost_lines c.args.block (shown_losses paths (n + 1) later)) (sym c.as_slice.ensures.value) in
    losses_written m view.body.now c.args.block (shown_losses paths 0 (records_left it)) _ _ _ _ _ (lost_each m view.body.now (records_left it) c.args.self.now.editions each)
    (front_failed _ _ _ _ _ _ _ _ _ _ _ _ c.from_residual.ensures.0 lines c.loop-one.invariant.front c.in_err-write_record.ensures.written)

pub loop-one-preserved : goal.loop-one-preserved
loop-one-preserved g c =
    let m = c.args.self.now in
    let n = c.loop-one.number in
    let later = records_left c.next.new.self in
    let paths = key_paths m.lost.items in
    let lines = next_lines c.args.block n paths (records_left c.loop-one.one-iterator) later (record_shown c.in-Some.one) c.in-Some.ensures.steps
    ∙ ap (λ ks. lost_lines c.args.block (record_losses n (record_entries c.in-Some.one) (key_paths ks)) ++ lost_lines c.args.block (shown_losses paths (n + 1) later)) (sym c.as_slice.ensures.value) in
    record {
      front = front_more _ _ _ _ _ _ _ _ _ _ _ lines c.loop-one.invariant.front c.in_ok-write_record.ensures.written;
      codec = (subst (OfCodec m.codec.now) c.in-Some.ensures.steps c.loop-one.invariant.codec).1;
      few = omega (arith, c.loop-one.invariant.few, ap length c.in-Some.ensures.steps);
      room = c.write_record.ensures.room;
    }

pub returns : goal.returns
returns g c =
    let m = c.args.self.now in
    let view = c.args.view.now in
    let it = c.into_iter-one-iterator.result in
    let paths = key_paths m.lost.items in
    let each = subst (λ (codec : Codec). SpellEach codec view.body.now (records_left it)) c.requires.view (subst (λ it. SpellEach view.codec.now view.body.now (records_left it)) (sym c.into_iter-one-iterator.ensures.into_iter_gives) c.records-one-items.ensures) in
    losses_written m view.body.now c.args.block (shown_losses paths 0 (records_left it)) _ _ _ _ _ (lost_each m view.body.now (records_left it) c.args.self.now.editions each)
    (front_all _ _ _ _ _ _ (ap (λ x. lost_lines c.args.block (shown_losses paths c.loop-one.number x)) c.in-None.ensures.steps.0) c.loop-one.invariant.front)
