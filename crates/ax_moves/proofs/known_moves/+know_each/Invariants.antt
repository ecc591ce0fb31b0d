use Rattle.ax_moves.proofs.KnowingSteps.{KnowsUpto}
use Rattle.ax_moves.proofs.known_moves.+know_each.Given as goal

abbrev pub invariant-loop-one : goal.invariant-loop-one
invariant-loop-one l = KnowsUpto l.moves l.one-index l.below
