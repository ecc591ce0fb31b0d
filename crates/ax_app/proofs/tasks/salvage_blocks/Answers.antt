use Rattle.ax_app.proofs.Commands.{of_salvage}
use Rattle.ax_app.proofs.tasks.salvage_blocks.Goals as goal

pub returns : goal.returns
returns g c = of_salvage _ _ _ _ _ _ c.salvage.ensures.runs c.outcome_of_salvage.ensures c.in_ok-work.ensures.catalogue c.in_ok-work.ensures.limit
