-- The line of numbers of generated blocks (this project's own rule).
use Rattle.std.specs.Prelude.{◌≡◌, ℕ, ◌<◌, List, [], ◌∷◌, ◌++◌, length, sum, sum_by, codes, decimal}
use Rattle.ax_format.specs.Blocks.{BlockTree, read_block, opaque_block, SpellsStream}
use Rattle.ax_format.specs.CanonicalOctets.{CanonBytes}
use Rattle.ax_format.specs.Specification.{SpecTree}
use Rattle.ax_vectors.specs.Made.{Made}

-- `blocks B records R octets O canonical C sum T`
abbrev pub numbers_line : ℕ → ℕ → ℕ → ℕ → ℕ → List ℕ
numbers_line blocks records octets canonical total =
    codes "blocks " ++ decimal blocks ++ codes " records " ++ decimal records ++ codes " octets " ++ decimal octets ++ codes " canonical " ++ decimal canonical ++ codes " sum " ++ decimal total ++ codes "\n"

abbrev pub record_count : BlockTree → ℕ
record_count (read_block category records) = length records
record_count (opaque_block category content) = 0

-- the line counts the blocks, their records, their octets and the octets of their canonical forms, and gives the sum of the
-- canonical octets
abbrev pub trial_line : SpecTree → List BlockTree → List ℕ → List ℕ
trial_line spec blocks octets =
    numbers_line (length blocks) (sum_by record_count blocks) (length octets) (length (CanonBytes (spec ∷ []) blocks)) (sum (CanonBytes (spec ∷ []) blocks))

-- the line is that of so many blocks made from the seed
pub record IsTrial (spec : SpecTree) (seed count : ℕ) (line : List ℕ) : Type 0 where
  pub blocks : List BlockTree
  pub spelled : SpellsStream (spec ∷ []) blocks (Made spec seed count)
  pub is : line ≡ trial_line spec blocks (Made spec seed count)
  pub counted : length blocks ≡ count
  pub fits : sum (CanonBytes (spec ∷ []) blocks) < 18446744073709551616
