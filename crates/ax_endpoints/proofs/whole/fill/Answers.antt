use Rattle.std.proofs.Common.{◌∙◌, arith}
use Rattle.ax_endpoints.proofs.Ends.{more_taken, still_within}
use Rattle.ax_endpoints.proofs.whole.fill.Goals as goal

pub loop-filled-preserved : goal.loop-filled-preserved
loop-filled-preserved g c = (
  still_within _ _ _ _ _ c.loop-filled.invariant.0 c.in_ok-count.ensures.room,
  more_taken _ _ _ _ _ _ _ _ c.loop-filled.invariant.0 c.in_ok-count.ensures.room c.loop-filled.invariant.1 c.in_ok-count.ensures.gives,
  omega (arith, c.loop-filled.invariant.2, c.in_ok-count.ensures.number),
  c.in_ok-count.ensures.quiet ∙ c.loop-filled.invariant.3,
)
