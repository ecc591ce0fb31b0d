-- The walk over the slots of a set, along its marks.
use Rattle.std.proofs.Common.{◌≡◌, ℕ, zero, suc, ◌+◌, ◌<◌, IsTrue, List, [], ◌∷◌, take, drop, get_or, refl, ◌∙◌, ap, arith}
use Rattle.ax_format.specs.Presence.{none_marked}
use Rattle.ax_fspec.specs.Marks.{slots_from}

-- slot t comes next after some that aren't in the set, where the first mark is that of slot s, and `rest` come later
pub record NextSlot (s : ℕ) (marks : List ℕ) (t : ℕ) (rest : List ℕ) : Type 0 where
  pub gap : ℕ
  pub slot : t ≡ s + gap
  pub unmarked : IsTrue (none_marked (take gap marks))
  pub marked : 0 < get_or marks gap 0
  pub later : rest ≡ slots_from (t + 1) (drop (suc gap) marks)

pub next_slot : (s : ℕ) (marks : List ℕ) (t : ℕ) (rest : List ℕ) → slots_from s marks ≡ t ∷ rest → NextSlot s marks t rest
next_slot s [] t rest e = cc
next_slot s (zero ∷ marks) t rest e =
    let h = next_slot (s + 1) marks t rest e in
    record {
      gap = suc h.gap;
      slot = omega (arith, h.slot);
      unmarked = h.unmarked;
      marked = h.marked;
      later = h.later;
    }
next_slot s (suc m ∷ marks) t rest e =
    let here : s ≡ t = cc in
    let later : rest ≡ slots_from (s + 1) marks = cc in
    record {
      gap = 0;
      slot = omega arith;
      unmarked = refl;
      marked = omega arith;
      later = later ∙ ap (λ k. slots_from (k + 1) marks) here;
    }

-- after the last slot no mark is set
pub no_next_slot : (s : ℕ) (marks : List ℕ) → slots_from s marks ≡ [] → IsTrue (none_marked marks)
no_next_slot s [] e = refl
no_next_slot s (zero ∷ marks) e = no_next_slot (s + 1) marks e
no_next_slot s (suc m ∷ marks) e = cc
