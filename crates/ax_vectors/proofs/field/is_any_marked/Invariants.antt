use Rattle.std.proofs.Common.{◌≡◌, drop}
use Rattle.ax_format.specs.Presence.{none_marked}
use Rattle.ax_vectors.proofs.field.is_any_marked.Given as goal

abbrev pub invariant-loop-mark : goal.invariant-loop-mark
invariant-loop-mark l = none_marked l.marks ≡ none_marked (drop l.mark-index l.marks)
