use Rattle.ax_app.proofs.WholeRun.{is_run}
use Rattle.ax_app.proofs.gateway.run.Goals as goal

pub returns-clause-run : goal.returns-clause-run
returns-clause-run g c = is_run _ _ _ _ _ _ _ _ _ _ _ _ _ c.obey-outcome.ensures.obeys c.write_lines.ensures
