-- Marks of which none is set.
use Rattle.std.proofs.Common.{◌≡◌, ℕ, zero, suc, IsTrue, List, [], ◌∷◌, refl}
use Rattle.ax_format.specs.Presence.{none_marked, first_mark, later_marks}

pub none_first : (ms : List ℕ) → IsTrue (none_marked ms) → first_mark ms ≡ 0
none_first [] h = refl
none_first (zero ∷ ms) h = refl
none_first (suc m ∷ ms) h = cc

pub none_later : (ms : List ℕ) → IsTrue (none_marked ms) → IsTrue (none_marked (later_marks ms))
none_later [] h = refl
none_later (zero ∷ ms) h = h
none_later (suc m ∷ ms) h = cc
