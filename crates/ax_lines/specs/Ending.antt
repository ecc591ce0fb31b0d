-- The end of a run over lines, for the end of its input.
use Rattle.std.specs.Prelude.{ℕ, ◌^◌}
use Rattle.ax_lines.specs.Lined.{LinedEnd, all_lines, input_too_long, line_too_long}
use Rattle.ax_lines.specs.declared.line_error.LineError.{LineError}
use Rattle.ax_lines.specs.declared.line_error.LineError.TheVariants as LineErrorOf
use Rattle.ax_endpoints.specs.Limits as Limits
use Rattle.ax_lines.specs.declared.end.LinesEnd.{LinesEnd}
use Rattle.ax_lines.specs.declared.end.LinesEnd.TheVariants.{Done, LineTooLong, InputTooLong, ReadFault}

-- the most octets of a line, its line feed aside
abbrev pub longest_line : ℕ
longest_line = 2 ^ 24

-- the most octets of an input
abbrev pub longest_input : ℕ
longest_input = Limits.longest_input

-- after this many results and lines: a line that is too long has the number of the lines before it
abbrev pub lines_end : {F : Type 0} → ℕ → ℕ → LinedEnd → LinesEnd F
lines_end results lines all_lines = Done results
lines_end results lines input_too_long = InputTooLong
lines_end results lines line_too_long = LineTooLong lines

-- for a refusal of the line reader
abbrev pub error_end : {F : Type 0} → ℕ → LineError → LinesEnd F
error_end lines LineErrorOf.InputTooLong = InputTooLong
error_end lines LineErrorOf.LineTooLong = LineTooLong lines
error_end lines LineErrorOf.ReadFault = ReadFault
