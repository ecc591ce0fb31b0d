use Rattle.ax_migrate_views.proofs.ViewBlocks.{length_counted}
use Rattle.ax_migrate_views.proofs.migrator.Migrator.length.Goals as goal

pub returns : goal.returns
returns c = length_counted c.args.self.now c.args.view.now.body.now c.lay_view.result c.lay_view.new.output c.lay_view.ensures.laid
