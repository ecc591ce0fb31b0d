use Rattle.ax_app.proofs.Commands.{build_ran}
use Rattle.ax_app.proofs.tasks.build.Goals as goal

pub returns : goal.returns
returns g c = build_ran _ _ _ _ _ _ _ c.build_lines.ensures.runs c.from.ensures
