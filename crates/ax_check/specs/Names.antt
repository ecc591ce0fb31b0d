-- The names that a set holds.
use Rattle.std.specs.Prelude.{◌≡◌, ℕ, List, map}
use Rattle.std.specs.HashSet.{HashSet, keys}
use Rattle.std.specs.Borrow.{Bor}
use Rattle.ax_format.specs.Flaws.{is_among}

abbrev pub listed : {S : Type 0} → HashSet (Bor (List ℕ)) S → List (List ℕ)
listed set = map (λ k. k.now) (keys set)

-- the same names are in both
pub record AreSame (one other : List (List ℕ)) : Type 0 where
  pub same : (name : List ℕ) → is_among name one ≡ is_among name other
