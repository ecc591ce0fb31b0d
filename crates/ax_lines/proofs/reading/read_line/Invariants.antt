use Rattle.std.proofs.Common.{◌≡◌, ◌+◌, ◌-◌, ◌≤◌, length, take, max, vec_capacity}
use Rattle.ax_lines.specs.Reader.{read_ahead}
use Rattle.ax_lines.proofs.Steps.{StandsPlain}
use Rattle.ax_endpoints.specs.Changes.{source_change}
use Rattle.ax_lines.proofs.reading.read_line.Given as goal

abbrev pub invariant-loop-filled : goal.invariant-loop-filled
invariant-loop-filled g l =
    StandsPlain (source_change g.S.Source l.fn.source l.source) (take l.buffered l.fn.buffer.items) l.buffer.items l.filled
    × (length l.buffer.items + 1 ≤ max (length l.fn.buffer.items + 1) (l.most + read_ahead))
    × (length l.fn.buffer.items ≤ length l.buffer.items)
    × (vec_capacity l.fn.buffer ≤ vec_capacity l.buffer)
    × (g.S.Source.faults l.source ≡ g.S.Source.faults l.fn.source)

abbrev pub decreases-loop-filled : goal.decreases-loop-filled
decreases-loop-filled g l = l.most - l.filled
