-- Block commands: what each does with the blocks of an input.
use Rattle.std.specs.Prelude.{ℕ, ◌+◌, List, [], ◌∷◌, ◌++◌}
use Rattle.ax_format.specs.Blocks.{BlockTree}
use Rattle.ax_format.specs.Specification.{SpecTree}

-- the answer to a block: lines for the report and octets for the output; or its result has too many octets, this many
pub data BlockAnswer : Type 0 where
  gives : List ℕ → List ℕ → BlockAnswer
  too_long : ℕ → BlockAnswer

-- the catalogue under which the blocks are read, and the answer to each one by its number
pub record BlockCommand : Type 0 where
  pub catalogue : List SpecTree
  pub answer : ℕ → BlockTree → BlockAnswer

abbrev pub lines_in : BlockAnswer → List ℕ
lines_in (gives lines octets) = lines
lines_in (too_long count) = []

abbrev pub octets_in : BlockAnswer → List ℕ
octets_in (gives lines octets) = octets
octets_in (too_long count) = []

abbrev pub IsGiven : BlockAnswer → Type 0
IsGiven (gives lines octets) = Unit {0}
IsGiven (too_long count) = ⊥

-- of blocks, the first of which has that number
abbrev pub report_of : BlockCommand → ℕ → List BlockTree → List ℕ
report_of c n [] = []
report_of c n (block ∷ blocks) = lines_in (c.answer n block) ++ report_of c (n + 1) blocks

abbrev pub output_of : BlockCommand → ℕ → List BlockTree → List ℕ
output_of c n [] = []
output_of c n (block ∷ blocks) = octets_in (c.answer n block) ++ output_of c (n + 1) blocks

abbrev pub AreGiven : BlockCommand → ℕ → List BlockTree → Type 0
AreGiven c n [] = Unit {0}
AreGiven c n (block ∷ blocks) = IsGiven (c.answer n block) × AreGiven c (n + 1) blocks
