use Rattle.std.proofs.Common.{◌≡◌, ◌+◌, ◌≤◌, ◌-◌, length, take}
use Rattle.ax_endpoints.specs.Told.{with_front}
use Rattle.ax_endpoints.proofs.whole.fill.Given as goal

abbrev pub invariant-loop-filled : goal.invariant-loop-filled
invariant-loop-filled g l =
    (l.filled ≤ length l.buffer)
    × (g.S.Source.left l.fn.source ≡ with_front (take l.filled l.buffer) (g.S.Source.left l.source))
    × (g.S.Source.taken l.source ≡ g.S.Source.taken l.fn.source + l.filled)
    × (g.S.Source.faults l.source ≡ g.S.Source.faults l.fn.source)

abbrev pub decreases-loop-filled : goal.decreases-loop-filled
decreases-loop-filled g l = length l.initial.buffer - l.filled
