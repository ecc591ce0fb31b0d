use Rattle.std.proofs.Common.{ℕ, ◌<◌, ◌≤◌}
use Rattle.ax_rows.specs.Rows.{StandsBefore}
use Rattle.ax_rows.proofs.sharing.earlier_place.Given as goal

abbrev pub invariant-loop-place : goal.invariant-loop-place
invariant-loop-place l = (place : ℕ) → l.from ≤ place → place < l.place → StandsBefore l.steps place l.first → ⊥
