use Rattle.std.proofs.Common.{arith, ap, subst, ◌∙◌}
use Rattle.ax_migrate_views.proofs.MigratedBlocks.{migrated_laid}
use Rattle.ax_migrate_views.proofs.ToldLosses.{losses_told}
use Rattle.ax_migrate_views.specs.Blocks.{with_head}
use Rattle.ax_migrate_views.specs.Bodies.{TellsBody}
use Rattle.ax_moves.specs.Lost.{key_paths}
use Rattle.ax_migrate_views.proofs.migrator.Migrator.lay.Goals as goal

pub returns-clause-laid : goal.returns-clause-laid
returns-clause-laid c =
    let n = c.in_ok-laid.laid.octets in
    let body = c.args.body.now in
    migrated_laid c.args.self.now body n c.args.output.now c.lay_body.new.output c.write_head.new.output c.args.self.now.editions c.requires.size.1 c.in_ok-laid.ensures.laid c.requires.room c.lay_body.ensures.room
    (c.write_head.ensures ∙ ap (λ k. with_head k n c.lay_body.new.output) c.category.ensures)
    (λ i. (let fits = c.type_inv.output i in omega arith)) (omega (arith, c.category.ensures, c.category.type_inv))

pub returns-clause-told : goal.returns-clause-told
returns-clause-told c =
    let told = subst (λ ks. TellsBody c.args.self.now.codec.now (key_paths ks) c.args.number c.args.body.now c.in_ok-laid.laid.lines c.args.lines.now c.lay_body.new.lines) c.as_slice.ensures.value c.in_ok-laid.ensures.told in
    losses_told c.args.self.now c.args.body.now c.args.number c.in_ok-laid.laid.lines c.args.lines.now c.lay_body.new.lines c.args.self.now.editions told
