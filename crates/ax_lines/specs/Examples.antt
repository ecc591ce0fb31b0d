-- A line command for the tests and the worked examples: an empty line asks for nothing, a line that begins with `x` is
-- refused, for a fault that is its number, and another one gives its octets.
use Rattle.std.specs.Prelude.{◌≡◌, ℕ, List, [], ◌∷◌, ◌==◌, if◌then◌else◌}
use Rattle.ax_lines.specs.Commands.{LineAnswer, gives, nothing, refused, LineCommand}

abbrev pub echo : ℕ → List ℕ → LineAnswer ℕ
echo number [] = nothing
echo number (first ∷ line) = if first == 120 then refused number else gives (first ∷ line)

abbrev pub echo_command : LineCommand ℕ
echo_command = λ number line answer. answer ≡ echo number line
