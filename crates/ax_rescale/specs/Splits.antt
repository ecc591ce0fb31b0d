-- A block's records split into data blocks, or the first record that is too long for one of its own (this project's own rule).
use Rattle.std.specs.Prelude.{◌≡◌, ℕ, ◌≤◌, List, [], ◌∷◌, length, take, drop, map, flat_map, Option, Some, None}
use Rattle.std.specs.Option.{option_map}
use Rattle.ax_format.specs.Blocks.{read_block}
use Rattle.ax_format.specs.Lengths.{capped}
use Rattle.ax_format.specs.OfCode.{BlockFits, block_length}
use Rattle.ax_format.specs.Plain.{block_tree, records_tree, spec_tree}
use Rattle.ax_format.specs.Sizes.{longest_block}
use Rattle.ax_format.specs.Split.{Split, first_too_long}
use Rattle.ax_format.specs.Tree.{EntriesTree}
use Rattle.ax_format.specs.declared.record.Block.{Block}
use Rattle.ax_format.specs.declared.record.Block.TheVariants as BlockOf
use Rattle.ax_format.specs.declared.record.Record.{Record}
use Rattle.ax_format.specs.declared.spec.Spec.{Spec}
use Rattle.ax_rescale.specs.declared.error.SplitError.{SplitError}
use Rattle.ax_rescale.specs.declared.error.SplitError.TheVariants as Splitting

abbrev pub IsRead : Block → Type 0
IsRead (BlockOf.Read category records) = Unit {0}
IsRead (BlockOf.Opaque category octets) = ⊥

abbrev pub records_in : Block → List EntriesTree
records_in (BlockOf.Read category records) = records_tree records
records_in (BlockOf.Opaque category octets) = []

-- each is a block of the next records, as many as it can have, and none of the records is too long
pub record ArePieces (spec : Spec) (block : Block) (pieces : List Block) : Type 0 where
  pub split : map block_tree pieces ≡ map (read_block spec.category) (Split (spec_tree spec) (records_in block))
  pub none_long : first_too_long (spec_tree spec) (records_in block) ≡ None

-- a block of records of the specification, whose canonical form is a data block
pub record IsPiece (spec : Spec) (piece : Block) : Type 0 where
  pub fits : BlockFits spec piece
  pub read : IsRead piece
  pub short : block_length spec piece ≤ longest_block

-- the octets of the canonical block of the first record that has too many for one of its own, capped at 2^64 - 1
abbrev pub long_octets : Spec → List EntriesTree → Option ℕ
long_octets spec records = option_map capped (first_too_long (spec_tree spec) records)

-- the first such record has so many octets; want of memory says nothing of the records
abbrev pub IsNotSplit : Spec → List EntriesTree → SplitError → Type 0
IsNotSplit spec records (Splitting.RecordTooLong octets) = long_octets spec records ≡ Some octets
IsNotSplit spec records Splitting.OutOfMemory = Unit {0}

-- ---- on the way

-- the records of the lists, in order
abbrev pub all_records : List (List Record) → List Record
all_records lists = flat_map (λ (l : List Record). l) lists

-- the records of the blocks are so many each
pub record AreFronts (spec : Spec) (records : List Record) (counts : List ℕ) : Type 0 where
  pub lists : List (List Record)
  pub joined : all_records lists ≡ records
  pub counted : map (λ (l : List Record). length l) lists ≡ counts
  pub split : map records_tree lists ≡ Split (spec_tree spec) (records_tree records)
  pub none_long : first_too_long (spec_tree spec) (records_tree records) ≡ None

-- blocks of the next records, so many each
abbrev pub pieces_of : ℕ → List ℕ → List Record → List Block
pieces_of category [] records = []
pieces_of category (n ∷ ns) records = BlockOf.Read category (take n records) ∷ pieces_of category ns (drop n records)

-- there are so many records
abbrev pub AreThere : List ℕ → List Record → Type 0
AreThere [] records = Unit {0}
AreThere (n ∷ ns) records = (n ≤ length records) × AreThere ns (drop n records)
