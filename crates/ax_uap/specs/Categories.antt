-- Where the specifications of categories stand in a list.
use Rattle.std.specs.Prelude.{◌≡◌, ℕ, ◌+◌, ◌<◌, ◌==◌, if◌then◌else◌, List, [], ◌∷◌, length, get_or}
use Rattle.ax_format.specs.declared.spec.Spec.{Spec}

-- the place of the first specification of a category, where the list's first has the place n; 0 where there is none
abbrev pub place_from : ℕ → ℕ → List Spec → ℕ
place_from n category [] = 0
place_from n category (spec ∷ specs) = if spec.category == category then n else place_from (n + 1) category specs

-- by category from 0 on, the place of its first specification, from 1
pub record ArePlaces (specs : List Spec) (n : ℕ) (places : List ℕ) : Type 0 where
  pub size : length places ≡ n
  pub at : (c : ℕ) → c < n → get_or places c 0 ≡ place_from 1 c specs
