-- What is made of a block before anything is written.
use Rattle.std.specs.Prelude.{◌≡◌, ℕ, ◌≤◌, List, [], ◌∷◌, flat_map, Some, None}
use Rattle.std.specs.Option.{option_map}
use Rattle.ax_convert_work.specs.ConvertCommand.{convert_answer, told_octets}
use Rattle.ax_convert_work.specs.declared.blocks.DataBlock.{DataBlock}
use Rattle.ax_format.specs.Blocks.{BlockTree, read_block, opaque_block}
use Rattle.ax_format.specs.CanonicalOctets.{canon_length, framed}
use Rattle.ax_format.specs.Ends.{RawSpells, RawFails}
use Rattle.ax_format.specs.Framing.{RawTree}
use Rattle.ax_format.specs.OfCode.{BlockFits}
use Rattle.ax_format.specs.Plain.{spec_tree, block_tree}
use Rattle.ax_format.specs.Sizes.{longest_block}
use Rattle.ax_format.specs.Specification.{SpecTree}
use Rattle.ax_format.specs.Split.{first_too_long, split_octets}
use Rattle.ax_format.specs.declared.record.Block.{Block}
use Rattle.ax_format.specs.declared.spec.Spec.{Spec}
use Rattle.ax_rescale.specs.Misses.{missed_lines}
use Rattle.ax_rescale.specs.declared.miss.Miss.{Miss}
use Rattle.ax_blocks.specs.Commands.{gives, too_long}
use Rattle.ax_blocks.specs.declared.work.WorkStop.{WorkStop}
use Rattle.ax_blocks.specs.declared.work.WorkStop.TheVariants.{Fault, TooLong, WriteFault, ReportFault, OutOfMemory}

abbrev pub octets_in : DataBlock → List ℕ
octets_in block = block.octets.items

-- one data block after another
abbrev pub all_octets : List DataBlock → List ℕ
all_octets blocks = flat_map octets_in blocks

-- ---- a block of the new edition, or an opaque one

-- a short enough opaque block
abbrev pub ShortIfOpaque : SpecTree → BlockTree → Type 0
ShortIfOpaque spec (read_block category records) = Unit {0}
ShortIfOpaque spec (opaque_block category content) = canon_length spec (opaque_block category content) ≤ longest_block

-- the data blocks that its records are split into, none of which is too long; or itself
abbrev pub AreDataBlocks : SpecTree → BlockTree → List DataBlock → Type 0
AreDataBlocks spec (read_block category records) blocks = (first_too_long spec records ≡ None) × (all_octets blocks ≡ split_octets spec records)
AreDataBlocks spec (opaque_block category content) blocks = all_octets blocks ≡ framed category content

-- so many octets are told of its first record that is too long
abbrev pub TellsTooLong : SpecTree → BlockTree → ℕ → Type 0
TellsTooLong spec (read_block category records) count = option_map told_octets (first_too_long spec records) ≡ Some count
TellsTooLong spec (opaque_block category content) count = ⊥

abbrev pub NoDataBlocks : SpecTree → BlockTree → WorkStop → Type 0
NoDataBlocks spec block (TooLong count) = TellsTooLong spec block count
NoDataBlocks spec block OutOfMemory = Unit {0}
NoDataBlocks spec block (Fault f) = ⊥
NoDataBlocks spec block WriteFault = ⊥
NoDataBlocks spec block ReportFault = ⊥

-- ---- the octets of a block

-- they spell the block, under the old edition alone, and it fits
pub record IsReadBlock (old : Spec) (raw : RawTree) (block : Block) : Type 0 where
  pub spells : RawSpells (spec_tree old ∷ []) raw (block_tree block)
  pub fits : BlockFits old block
  pub short : ShortIfOpaque (spec_tree old) (block_tree block)

-- these lines and octets are the answer to it
pub record IsMade (old new : SpecTree) (raw : RawTree) (misses : List Miss) (blocks : List DataBlock) : Type 0 where
  pub block : BlockTree
  pub spells : RawSpells (old ∷ []) raw block
  pub answer : (number : ℕ) → convert_answer old new number block ≡ gives (missed_lines number misses) (all_octets blocks)

pub record IsTooLong (old new : SpecTree) (raw : RawTree) (count : ℕ) : Type 0 where
  pub block : BlockTree
  pub spells : RawSpells (old ∷ []) raw block
  pub answer : (number : ℕ) → convert_answer old new number block ≡ too_long count

-- the body fails, within the longest body; a converted record is too long; or there was no memory
abbrev pub NotMade : SpecTree → SpecTree → RawTree → WorkStop → Type 0
NotMade old new raw (Fault f) = RawFails (old ∷ []) raw f.bit f.cause × (f.bit ≤ 524256)
NotMade old new raw (TooLong count) = IsTooLong old new raw count
NotMade old new raw OutOfMemory = Unit {0}
NotMade old new raw WriteFault = ⊥
NotMade old new raw ReportFault = ⊥
