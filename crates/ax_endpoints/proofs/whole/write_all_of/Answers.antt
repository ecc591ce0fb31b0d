use Rattle.std.proofs.Common.{◌∙◌, arith, length-drop}
use Rattle.ax_endpoints.proofs.Ends.{more_added}
use Rattle.ax_endpoints.proofs.whole.write_all_of.Goals as goal

pub loop-at-preserved : goal.loop-at-preserved
loop-at-preserved g c = (
  omega (arith, c.in_ok-at.ensures.within, length-drop c.loop-at.at c.args.piece.now),
  more_added _ _ _ _ _ _ c.loop-at.invariant.0 c.loop-at.invariant.1 c.in_ok-at.ensures.adds,
  c.in_ok-at.ensures.quiet ∙ c.loop-at.invariant.2,
)
