use Rattle.std.proofs.Common.{length}
use Rattle.ax_codec.specs.Meaning.{meanings, linked, fixed_of}
use Rattle.ax_walk.proofs.MemberSteps.{Down}
use Rattle.ax_walk.proofs.spot.find_fixed.Given as goal

abbrev pub invariant-loop-step : goal.invariant-loop-step
invariant-loop-step l = record { down : Down l.nodes (fixed_of (linked (meanings l.nodes) l.first)) l.link l.at l.here l.steps l.left }

abbrev pub decreases-loop-step : goal.decreases-loop-step
decreases-loop-step l = length l.left
