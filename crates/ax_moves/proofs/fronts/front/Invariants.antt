use Rattle.ax_moves.proofs.ItemParts.{FrontSoFar}
use Rattle.ax_moves.proofs.fronts.front.Given as goal

abbrev pub invariant-loop-index : goal.invariant-loop-index
invariant-loop-index l = FrontSoFar l.nodes l.links l.count l.octets l.index l.end
