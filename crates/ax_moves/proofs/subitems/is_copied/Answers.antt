use Rattle.std.proofs.Common.{inl, inr}
use Rattle.ax_moves.proofs.subitems.is_copied.Goals as goal

pub returns-then-stays : goal.returns-then-stays
returns-then-stays c sure = inl c.if-stays.true

pub returns-else-stays : goal.returns-else-stays
returns-else-stays c sure = inr (c.lacks_leaving.ensures sure)
