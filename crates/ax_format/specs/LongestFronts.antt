-- What is said of blocks that records are split into.
use Rattle.std.specs.Prelude.{◌≡◌, ℕ, ◌<◌, ◌≤◌, List, [], ◌∷◌, ◌++◌, length}
use Rattle.ax_format.specs.Specification.{SpecTree}
use Rattle.ax_format.specs.Tree.{EntriesTree}
use Rattle.ax_format.specs.Split.{records_length}

-- the front of the records is the longest whose canonical block has at most so many octets, and the others come after it
pub record IsLongestFront (room : ℕ) (spec : SpecTree) (records front rest : List EntriesTree) : Type 0 where
  pub split : records ≡ front ++ rest
  pub fits : records_length spec front ≤ room
  pub longest : (other later : List EntriesTree) → records ≡ other ++ later → records_length spec other ≤ room → length other ≤ length front

-- each list is the longest front of what is left, and has a record; in the end nothing is left
abbrev pub AreLongestFronts : ℕ → SpecTree → List EntriesTree → List (List EntriesTree) → Type 0
AreLongestFronts room spec records [] = records ≡ []
AreLongestFronts room spec records (front ∷ fronts) =
    (rest : List EntriesTree) × (0 < length front) × IsLongestFront room spec records front rest × AreLongestFronts room spec rest fronts

-- the lists joined in order
abbrev pub joined_lists : List (List EntriesTree) → List EntriesTree
joined_lists [] = []
joined_lists (front ∷ fronts) = front ++ joined_lists fronts

-- each list has a record, and at most so many octets
abbrev pub AllFit : ℕ → SpecTree → List (List EntriesTree) → Type 0
AllFit room spec [] = Unit {0}
AllFit room spec (front ∷ fronts) = (0 < length front) × (records_length spec front ≤ room) × AllFit room spec fronts
