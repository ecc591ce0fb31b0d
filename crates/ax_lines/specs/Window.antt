-- The next line in a buffer.
use Rattle.std.specs.Prelude.{ℕ, ◌+◌, ◌-◌, ◌<◌, ◌≤◌, List, length, slice_range}
use Rattle.ax_lines.specs.Lined.{LinedEnd}
use Rattle.ax_lines.specs.Reader.{ended_after, GivesLine, FindsEnd, StopsInLine}
use Rattle.ax_lines.specs.declared.next_line.BufferWindow.{BufferWindow}
use Rattle.ax_lines.specs.declared.next_line.BufferedLine.{BufferedLine}
use Rattle.ax_lines.specs.declared.next_line.LineLimits.{LineLimits}
use Rattle.ax_endpoints.specs.Changes.{SourceChange}

-- the line stands in the buffer, and after it what is buffered from now on
pub record HoldsNext (line_limit limit given : ℕ) (buffered : List ℕ) (i : SourceChange) (buffer : List ℕ) (line : BufferedLine) : Type 0 where
  pub line_order : line.start ≤ line.stop
  pub feed_order : line.stop ≤ line.next
  pub order : line.next ≤ line.end
  pub inside : line.end ≤ length buffer
  pub within : given + (line.next - line.start) ≤ limit
  pub gives : GivesLine line_limit limit given buffered i (given + (line.next - line.start)) (slice_range buffer line.next line.end) (ended_after line.stop line.next) (slice_range buffer line.start line.stop)

-- ---- by the window, and by the limits as the reader hands them on

-- the octets of the window
abbrev pub held : BufferWindow → List ℕ → List ℕ
held window buffer = slice_range buffer window.start window.end

-- a line within the limits stands in the buffer
abbrev pub StandsNext : LineLimits → List ℕ → SourceChange → List ℕ → BufferedLine → Type 0
StandsNext limits buffered i buffer line = HoldsNext limits.line limits.input limits.given buffered i buffer line

-- that end of the lines comes next
abbrev pub FindsLineEnd : LineLimits → List ℕ → SourceChange → LinedEnd → Type 0
FindsLineEnd limits buffered i e = FindsEnd limits.line limits.input limits.given buffered i e

-- more octets were taken than the limit on the input
abbrev pub PassesInput : LineLimits → List ℕ → SourceChange → Type 0
PassesInput limits buffered i = limits.input + i.taken < limits.given + length buffered + i.taken'

-- a read failed, before any limit was passed
abbrev pub StopsWithin : LineLimits → List ℕ → SourceChange → Type 0
StopsWithin limits buffered i = StopsInLine limits.line limits.input limits.given buffered i
