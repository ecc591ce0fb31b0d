use Rattle.std.proofs.Common.{◌≡◌, ◌≤◌, ◌-◌, length, take}
use Rattle.ax_endpoints.specs.Told.{with_end}
use Rattle.ax_endpoints.proofs.whole.write_all_of.Given as goal

abbrev pub invariant-loop-at : goal.invariant-loop-at
invariant-loop-at g l =
    (l.at ≤ length l.piece)
    × (g.K.Sink.held l.sink ≡ with_end (g.K.Sink.held l.fn.sink) (take l.at l.piece))
    × (g.K.Sink.faults l.sink ≡ g.K.Sink.faults l.fn.sink)

abbrev pub decreases-loop-at : goal.decreases-loop-at
decreases-loop-at g l = length l.piece - l.at
