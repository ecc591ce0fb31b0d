use Rattle.std.proofs.Common.{◌≡◌, ◌≤◌, ◌+◌, ◌++◌, length}
use Rattle.std.specs.List.{AllByRecursion}
use Rattle.ax_format.specs.Characters.{IsName}
use Rattle.ax_format.specs.Paths.{pieces}
use Rattle.ax_format.proofs.path.Path.of.Given as goal

abbrev pub invariant-loop-name : goal.invariant-loop-name
invariant-loop-name l =
    (pieces l.text ≡ l.names ++ pieces l.rest) × AllByRecursion IsName l.names × (length l.names + length l.rest ≤ length l.text)

abbrev pub decreases-loop-name : goal.decreases-loop-name
decreases-loop-name l = length l.rest
