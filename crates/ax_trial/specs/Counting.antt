-- Blocks counted one by one.
use Rattle.std.specs.Prelude.{◌≡◌, ℕ, ◌+◌, ◌*◌, ◌≤◌, List, [], ◌∷◌, length, sum, sum_by}
use Rattle.ax_format.specs.Blocks.{BlockTree, SpellsBlock, SpellsStream}
use Rattle.ax_format.specs.CanonicalOctets.{CanonBytes}
use Rattle.ax_format.specs.Sizes.{longest_block}
use Rattle.ax_format.specs.Specification.{SpecTree}
use Rattle.ax_trial.specs.Trial.{record_count}
use Rattle.ax_trial.specs.declared.totals.Totals.{Totals}
use Rattle.ax_vectors.specs.Made.{Made}

-- the octets spell a block of so many records, and this is its canonical form
pub record IsCanonOf (spec : SpecTree) (octets : List ℕ) (records : ℕ) (canonical : List ℕ) : Type 0 where
  pub block : BlockTree
  pub spelled : SpellsBlock (spec ∷ []) block octets
  pub records_are : records ≡ record_count block
  pub canonical_is : canonical ≡ CanonBytes (spec ∷ []) (block ∷ [])
  pub short : length octets ≤ longest_block
  pub no_longer : length canonical ≤ longest_block

-- numbers of so many blocks as they count: what each block adds is bounded
pub record IsWithin (t : Totals) : Type 0 where
  pub records : t.records ≤ 4294967296 * t.blocks
  pub octets : t.octets ≤ longest_block * t.blocks
  pub canonical : t.canonical ≤ longest_block * t.blocks
  pub sum : t.sum ≤ 16711425 * t.blocks

-- one block more was counted
pub record AddsNumbers (old new : Totals) (records : ℕ) (octets canonical : List ℕ) : Type 0 where
  pub blocks : new.blocks ≡ old.blocks + 1
  pub records_are : new.records ≡ old.records + records
  pub octets_are : new.octets ≡ old.octets + length octets
  pub canonical_are : new.canonical ≡ old.canonical + length canonical
  pub sum_is : new.sum ≡ old.sum + sum canonical
  pub within : IsWithin new

-- a block that these octets spell was counted, with its canonical form
pub record AddsForm (spec : SpecTree) (old new : Totals) (octets : List ℕ) : Type 0 where
  pub records : ℕ
  pub canonical : List ℕ
  pub form : IsCanonOf spec octets records canonical
  pub added : AddsNumbers old new records octets canonical

-- the numbers are those of these blocks, which were made as these octets
pub record AreNumbersOf (spec : SpecTree) (blocks : List BlockTree) (octets : List ℕ) (t : Totals) : Type 0 where
  pub blocks_are : t.blocks ≡ length blocks
  pub records_are : t.records ≡ sum_by record_count blocks
  pub octets_are : t.octets ≡ length octets
  pub canonical_are : t.canonical ≡ length (CanonBytes (spec ∷ []) blocks)
  pub sum_is : t.sum ≡ sum (CanonBytes (spec ∷ []) blocks)
  pub within : IsWithin t

-- the numbers are those of so many blocks made from the seed
pub record AreTotals (spec : SpecTree) (seed count : ℕ) (t : Totals) : Type 0 where
  pub blocks : List BlockTree
  pub spelled : SpellsStream (spec ∷ []) blocks (Made spec seed count)
  pub numbers : AreNumbersOf spec blocks (Made spec seed count) t
  pub counted : length blocks ≡ count
