use Rattle.std.proofs.Common.{sym, ◌∙◌}
use Rattle.ax_rescale.proofs.AlikeKinds.{plain_kinds}
use Rattle.ax_rescale.proofs.alike.is_alike.Goals as goal
use Rattle.ax_rescale.proofs.alike.is_alike.Goals.{then-is_converted, else-is_converted}

pub returns-then-is_converted-2-clause-alike : goal.returns-then-is_converted-2-clause-alike
returns-then-is_converted-2-clause-alike c = elim c.if-is_converted.branch [
  | then-is_converted w ↦ plain_kinds _ _ _ (sym c.is_converted.ensures ∙ w.if-is_converted.true) (sym w.is_converted-then-is_converted.ensures ∙ sym w.value-is ∙ c.if-is_converted-2.true) c.alike_kind.ensures
  | else-is_converted w ↦ absurd (cc)
]
