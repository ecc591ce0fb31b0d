use Rattle.std.proofs.Common.{arith, ap, ◌∙◌}
use Rattle.ax_migrate_views.proofs.KeptRecords.{no_keys}
use Rattle.ax_migrate_views.proofs.MigratedBlocks.{migrated_laid}
use Rattle.ax_migrate_views.specs.Blocks.{with_head}
use Rattle.ax_migrate_views.proofs.migrator.Migrator.lay_block.Goals as goal

pub lay_body-requires-clause-kept : goal.lay_body-requires-clause-kept
lay_body-requires-clause-kept c =
    let m = c.args.self.now in
    no_keys m.codec.now m.relation.now.moves m.lost.items m.kept m.kept_records

pub returns-clause-laid : goal.returns-clause-laid
returns-clause-laid c =
    let n = c.in_ok-laid.laid.octets in
    let body = c.args.body.now in
    migrated_laid c.args.self.now body n c.args.output.now c.lay_body.new.output c.write_head.new.output c.args.self.now.editions c.requires.size.1 c.in_ok-laid.ensures.laid c.requires.room c.lay_body.ensures.room
    (c.write_head.ensures ∙ ap (λ k. with_head k n c.lay_body.new.output) c.category.ensures)
    (λ i. (let fits = c.type_inv.output i in omega arith)) (omega (arith, c.category.ensures, c.category.type_inv))
