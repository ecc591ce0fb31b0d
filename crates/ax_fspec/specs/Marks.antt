-- A set of slots 1 to 126 as its marks: one for each slot in order, 1 where the slot is in the set, else 0.
use Rattle.std.specs.Prelude.{◌≡◌, ℕ, zero, suc, ◌+◌, ◌-◌, ◌<◌, Bool, true, false, List, [], ◌∷◌, ◌++◌, length, slice_index, replicate, min}
use Rattle.ax_bits.specs.Bits.{word, AreBits}

-- the marks of 63 slots, in the bits of a number
unfoldable pub half : ℕ → List ℕ
half n = word 63 n

-- the marks of 7 slots, in the low bits of a number
unfoldable pub seven : ℕ → List ℕ
seven n = word 7 n

-- the marks of 126 slots, in two numbers
abbrev pub marks_in : ℕ → ℕ → List ℕ
marks_in first second = half first ++ half second

-- the empty set
unfoldable pub no_marks : List ℕ
no_marks = replicate 126 0

-- these are the marks of a set: a bit for each of the 126 slots
pub record AreMarks (marked : List ℕ) : Type 0 where
  pub size : length marked ≡ 126
  pub each : AreBits marked

-- slot s is in the set
abbrev pub IsMarked : List ℕ → ℕ → Type 0
IsMarked marks s = (0 < s) × (slice_index marks (s - 1) ≡ 1)

-- the slots of the set, ascending, where the first mark is that of slot s
abbrev pub slots_from : ℕ → List ℕ → List ℕ
slots_from s [] = []
slots_from s (zero ∷ marks) = slots_from (s + 1) marks
slots_from s (suc m ∷ marks) = s ∷ slots_from (s + 1) marks

-- the slots of the set, ascending
abbrev pub slots_of : List ℕ → List ℕ
slots_of marks = slots_from 1 marks

-- for each slot, whether it is in the set
abbrev pub are_marked : List ℕ → List Bool
are_marked [] = []
are_marked (zero ∷ marks) = false ∷ are_marked marks
are_marked (suc m ∷ marks) = true ∷ are_marked marks

-- the marks of the slots that are in both of two sets
abbrev pub common_marks : List ℕ → List ℕ → List ℕ
common_marks [] others = []
common_marks (m ∷ marks) [] = []
common_marks (m ∷ marks) (n ∷ others) = min m n ∷ common_marks marks others
