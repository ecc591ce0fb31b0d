use Rattle.std.proofs.Common.{◌≡◌, ◌-◌, length}
use Rattle.ax_codec.specs.Meaning.{meanings, linked, fixed_of}
use Rattle.ax_walk.proofs.UnitSteps.{RunLeads}
use Rattle.ax_walk.proofs.units.walk_run.Given as goal

abbrev pub invariant-loop-end : goal.invariant-loop-end
invariant-loop-end l = record { run : RunLeads (fixed_of (linked (meanings l.nodes) l.inner)) l.start.body.now l.start.at l.here; least : l.notes.least ≡ l.fn.notes.least }

abbrev pub decreases-loop-end : goal.decreases-loop-end
decreases-loop-end l = length l.start.body.now - l.here
