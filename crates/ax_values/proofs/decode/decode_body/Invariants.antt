use Rattle.std.proofs.Common.{◌-◌, length}
use Rattle.ax_format.specs.Plain.{spec_tree}
use Rattle.ax_values.proofs.RecordSlots.{BodySoFar}
use Rattle.ax_values.proofs.decode.decode_body.Given as goal

abbrev pub invariant-loop-at : goal.invariant-loop-at
invariant-loop-at l = BodySoFar (spec_tree l.spec) l.body l.at l.made

abbrev pub decreases-loop-at : goal.decreases-loop-at
decreases-loop-at l = length l.body - l.at
