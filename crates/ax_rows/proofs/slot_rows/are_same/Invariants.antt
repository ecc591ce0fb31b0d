use Rattle.std.proofs.Common.{◌≡◌, ℕ, ◌<◌, get_or, IsTrue}
use Rattle.ax_rows.proofs.slot_rows.are_same.Given as goal

abbrev pub invariant-loop-index : goal.invariant-loop-index
invariant-loop-index l = (IsTrue l.same → (k : ℕ) → k < l.index → get_or l.links k 0 ≡ get_or l.others k 0) × (l.links ≡ l.others → IsTrue l.same)
