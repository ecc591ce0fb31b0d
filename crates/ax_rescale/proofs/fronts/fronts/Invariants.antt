use Rattle.ax_rescale.proofs.FrontSteps.{AreGoneOver}
use Rattle.ax_rescale.proofs.fronts.fronts.Given as goal

abbrev pub invariant-loop-one : goal.invariant-loop-one
invariant-loop-one l = AreGoneOver l.spec l.records l.one-index l.count l.octets l.fronts
