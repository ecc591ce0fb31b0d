-- What a line command answers to texts, for the worked examples.
use Rattle.std.specs.Prelude.{ℕ, List}
use Rattle.ax_lines.specs.Commands.{LineAnswer}
use Rattle.ax_lines.specs.Examples.{echo_command}
use Rattle.ax_lines.specs.Runs.{LinesAnswer}
use Rattle.ax_lines.specs.declared.end.LinesEnd.{LinesEnd}

-- the command that gives each line back, with these limits on a line and on the input
abbrev pub Echoes : ℕ → ℕ → List ℕ → List (List ℕ) → List (LineAnswer ℕ) → LinesEnd ℕ → Type 0
Echoes line_limit limit input lines answers end = LinesAnswer echo_command line_limit limit input lines answers end
