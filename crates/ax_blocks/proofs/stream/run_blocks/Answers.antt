use Rattle.ax_blocks.proofs.Runs.{memory_first}
use Rattle.ax_blocks.proofs.stream.run_blocks.Goals as goal

pub returns-in_default-clause-runs : goal.returns-in_default-clause-runs
returns-in_default-clause-runs g c = memory_first _ _ _ _ _ _ _ _ _
