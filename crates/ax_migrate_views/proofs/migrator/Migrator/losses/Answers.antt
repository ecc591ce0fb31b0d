use Rattle.std.proofs.Common.{arith, subst}
use Rattle.ax_migrate_views.proofs.LossSteps.{records_few}
use Rattle.ax_migrate_views.proofs.ToldLosses.{losses_each}
use Rattle.ax_walk.specs.Left.{records_left}
use Rattle.ax_walk.specs.Views.{SpellEach}
use Rattle.ax_migrate_views.proofs.migrator.Migrator.losses.Goals as goal

pub invariant_of-result : goal.invariant_of-result
invariant_of-result c = record { few = omega (arith, records_few c.records.result) }

pub returns : goal.returns
returns c =
    let each = subst (λ codec. SpellEach codec c.args.view.now.body.now (records_left c.records.result)) c.requires.view c.records.ensures in
    losses_each c.args.self.now c.args.view.now.body.now c.paths.result.now (records_left c.records.result) c.args.self.now.editions c.paths.ensures each
