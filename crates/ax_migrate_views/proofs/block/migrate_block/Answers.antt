use Rattle.std.proofs.Common.{◌≤◌, ◌∙◌, ap, arith, length, take}
use Rattle.ax_migrate_views.proofs.Takings.{block_taken, block_cut, block_fails, in_place}
use Rattle.ax_migrate_views.proofs.block.migrate_block.Goals as goal

pub returns-in-Err-clause-takes : goal.returns-in-Err-clause-takes
returns-in-Err-clause-takes g c =
    block_fails c.args.migrator.now c.args.block.number (record { category = c.args.block.raw.now.category; body = c.args.block.raw.now.body.now }) c.args.migrator.now.editions c.requires.category c.args.block.raw.now.within_block _ _ _ _ c.in-Err.fault c.in-Err.ensures.fault

pub returns-in-Ok-report_losses-clause-takes : goal.returns-in-Ok-report_losses-clause-takes
returns-in-Ok-report_losses-clause-takes g c =
    let short : c.in-Ok.laid.octets ≤ 65535 = omega (arith, c.if-laid-gt-LONGEST.false) in
    let front = ap (take c.in-Ok.laid.octets) c.deref.ensures.value ∙ in_place _ _ c.lay.new.output _ short c.lay.ensures.room (omega (arith, c.deref_mut.ensures.len, ap length c.deref_mut.ensures.value, c.args.outputs.now.room)) in
    block_taken c.args.migrator.now c.args.block.number (record { category = c.args.block.raw.now.category; body = c.args.block.raw.now.body.now }) c.args.migrator.now.editions c.requires.category c.args.block.raw.now.within_block c.in-Ok.ensures.spelled c.in-Ok.laid.octets c.lay.new.output _ _ _ _ _ _ _ _ c.in-Ok.ensures.laid (omega (arith, c.if-laid-gt-LONGEST.false)) front c.in-Ok-report_losses.ensures c.write_piece.ensures

pub returns-in-Err-report_losses-clause-takes : goal.returns-in-Err-report_losses-clause-takes
returns-in-Err-report_losses-clause-takes g c =
    block_cut c.args.migrator.now c.args.block.number (record { category = c.args.block.raw.now.category; body = c.args.block.raw.now.body.now }) c.args.migrator.now.editions c.requires.category c.args.block.raw.now.within_block c.in-Ok.ensures.spelled c.in-Ok.laid.octets c.lay.new.output _ _ _ _ _ _ c.in-Err-report_losses.field-0 c.in-Ok.ensures.laid (omega (arith, c.if-laid-gt-LONGEST.false)) c.in-Err-report_losses.ensures
