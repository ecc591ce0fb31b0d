-- A file that is too large, of a library that doesn't tell its files.
use Rattle.std.specs.Prelude.{◌≡◌, ℕ, ◌+◌, ◌<◌, List, [], ◌∷◌, length}
use Rattle.std.specs.List.{AllZip}
use Rattle.ax_endpoints.specs.Changes.{LibraryCounts}
use Rattle.ax_endpoints.specs.Told.{number_after}
use Rattle.ax_format.specs.Specification.{SpecTree}
use Rattle.ax_load.specs.FileAnswers.{IsAccepted}

-- the number of octets taken once loads gave these octets
abbrev pub taken_with : List (List ℕ) → ℕ → ℕ
taken_with [] taken = taken
taken_with (octets ∷ loads) taken = taken_with loads (number_after taken (length octets))

-- n loads gave files that are accepted, and the next one took more than 1,048,576 octets by itself
pub record TakesTooMany (c : LibraryCounts) (n : ℕ) : Type 0 where
  pub loads : List (List ℕ)
  pub specs : List SpecTree
  pub each : AllZip IsAccepted loads specs
  pub number : length loads ≡ n
  pub more : taken_with loads c.taken + 1048576 < c.taken'
