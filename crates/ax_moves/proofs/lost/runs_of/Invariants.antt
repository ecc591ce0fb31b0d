use Rattle.ax_moves.proofs.RunSteps.{RunsMade}
use Rattle.ax_moves.proofs.lost.runs_of.Given as goal

abbrev pub invariant-loop-depth : goal.invariant-loop-depth
invariant-loop-depth l = RunsMade l.path l.behind l.left l.runs.items l.depth
