use Rattle.std.proofs.Common.{None, Some, Ok, Err, refl, subst}
use Rattle.ax_migrate_views.proofs.Keeping.{none_kept}
use Rattle.ax_migrate_views.specs.Pieces.{FindsTooLong, WritesBlocks}
use Rattle.ax_endpoints.specs.Changes.{sink_change}
use Rattle.ax_blocks.proofs.Taken.{all, failed}
use Rattle.ax_walk.specs.Views.{FailsThere}
use Rattle.ax_migrate_views.proofs.Takings.{block_fails, long_taken, long_cut, record_long}
use Rattle.ax_migrate_views.proofs.block.migrate_long.Goals as goal

pub returns-in-Err-clause-takes : goal.returns-in-Err-clause-takes
returns-in-Err-clause-takes g c =
    block_fails c.args.migrator.now c.args.block.number (record { category = c.args.block.raw.now.category; body = c.args.block.raw.now.body.now }) c.args.migrator.now.editions c.requires.category c.args.block.raw.now.within_block _ _ _ _ c.in-Err.fault (subst (λ body. FailsThere c.args.migrator.now.codec.now body c.in-Err.fault) refl (subst (λ codec. FailsThere codec c.args.block.raw.now.body.now c.in-Err.fault) c.old.ensures c.in-Err.ensures.fault))

pub returns-in-Some-clause-takes : goal.returns-in-Some-clause-takes
returns-in-Some-clause-takes g c =
    record_long c.args.migrator.now c.args.block.number (record { category = c.args.block.raw.now.category; body = c.args.block.raw.now.body.now }) c.args.migrator.now.editions c.requires.category c.args.block.raw.now.within_block c.requires.spelled _ _ _ _ c.in-Some.octets (subst (λ body. FindsTooLong c.args.migrator.now body (Some c.in-Some.octets)) c.in-Ok.ensures.body (subst (FindsTooLong c.args.migrator.now c.in-Ok.view.body.now) c.in-Some.is c.first_too_long.ensures.found))

pub write_blocks-requires-clause-none : goal.write_blocks-requires-clause-none
write_blocks-requires-clause-none g c = subst (FindsTooLong c.args.migrator.now c.in-Ok.view.body.now) c.in-None.is c.first_too_long.ensures.found

pub returns-in-Ok-write_blocks-clause-takes : goal.returns-in-Ok-write_blocks-clause-takes
returns-in-Ok-write_blocks-clause-takes g c =
    long_taken c.args.migrator.now c.args.block.number (record { category = c.args.block.raw.now.category; body = c.args.block.raw.now.body.now }) c.args.migrator.now.editions c.requires.category c.args.block.raw.now.within_block c.requires.spelled _ _ _ _ _ _ _ _ _ _ _ (subst (λ body. FindsTooLong c.args.migrator.now body None) c.in-Ok.ensures.body (subst (FindsTooLong c.args.migrator.now c.in-Ok.view.body.now) c.in-None.is c.first_too_long.ensures.found)) c.in-Ok-report_losses.ensures (all c.in-Ok-write_blocks.field-0 tt)
    (subst (λ body. WritesBlocks c.args.migrator.now body (sink_change g.K.Sink c.args.out.now c.write_blocks.new.out) (Ok c.in-Ok-write_blocks.field-0)) c.in-Ok.ensures.body c.in-Ok-write_blocks.ensures.written)

pub returns-in-Err-write_blocks-clause-takes : goal.returns-in-Err-write_blocks-clause-takes
returns-in-Err-write_blocks-clause-takes g c =
    long_taken c.args.migrator.now c.args.block.number (record { category = c.args.block.raw.now.category; body = c.args.block.raw.now.body.now }) c.args.migrator.now.editions c.requires.category c.args.block.raw.now.within_block c.requires.spelled _ _ _ _ _ _ _ _ _ _ _ (subst (λ body. FindsTooLong c.args.migrator.now body None) c.in-Ok.ensures.body (subst (FindsTooLong c.args.migrator.now c.in-Ok.view.body.now) c.in-None.is c.first_too_long.ensures.found)) c.in-Ok-report_losses.ensures (failed c.in-Err-write_blocks.field-0)
    (subst (λ body. WritesBlocks c.args.migrator.now body (sink_change g.K.Sink c.args.out.now c.write_blocks.new.out) (Err c.in-Err-write_blocks.field-0)) c.in-Ok.ensures.body c.in-Err-write_blocks.ensures.written)

pub returns-in-Err-report_losses-clause-takes : goal.returns-in-Err-report_losses-clause-takes
returns-in-Err-report_losses-clause-takes g c =
    long_cut c.args.migrator.now c.args.block.number (record { category = c.args.block.raw.now.category; body = c.args.block.raw.now.body.now }) c.args.migrator.now.editions c.requires.category c.args.block.raw.now.within_block c.requires.spelled _ _ _ _ _ _ c.in-Err-report_losses.field-0 (subst (λ body. FindsTooLong c.args.migrator.now body None) c.in-Ok.ensures.body (subst (FindsTooLong c.args.migrator.now c.in-Ok.view.body.now) c.in-None.is c.first_too_long.ensures.found)) c.in-Err-report_losses.ensures

pub first_too_long-requires-clause-known : goal.first_too_long-requires-clause-known
first_too_long-requires-clause-known g c = none_kept c.args.migrator.now c.in-Ok.view.body.now 64 _ _ refl refl
