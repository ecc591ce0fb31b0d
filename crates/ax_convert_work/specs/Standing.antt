-- Whether something in a block may be converted: whether a value stands in one of its records from which something is converted.
use Rattle.std.specs.Prelude.{◌≡◌, ℕ, Bool, false, List, [], ◌∷◌}
use Rattle.ax_bits.specs.Bits.{bits}
use Rattle.ax_format.specs.Blocks.{BlockTree, read_block, opaque_block}
use Rattle.ax_format.specs.Bodies.{SpellsBody}
use Rattle.ax_format.specs.Ends.{RawSpells}
use Rattle.ax_format.specs.Flaws.{NoFlaw}
use Rattle.ax_format.specs.Framing.{RawTree}
use Rattle.ax_format.specs.Specification.{SpecTree}
use Rattle.ax_format.specs.Tree.{EntriesTree}
use Rattle.ax_rescale.specs.Converts.{converting_slots, some_stands}
use Rattle.ax_codec.specs.Standing.{StandsFor}
use Rattle.ax_codec.specs.declared.codec.Codec.{Codec}

abbrev pub MayConvert : SpecTree → SpecTree → BlockTree → Bool
MayConvert old new (read_block category records) = some_stands (converting_slots old new) records
MayConvert old new (opaque_block category content) = false

-- whether a value stands in one of the slots, in a record that the body spells
pub record SomeStands (slots : List ℕ) (codec : Codec) (body : List ℕ) (some : Bool) : Type 0 where
  pub told : (spec : SpecTree) (records : List EntriesTree) → NoFlaw spec → StandsFor codec spec → SpellsBody spec records (bits body) → some ≡ some_stands slots records

-- whether something in the block that the octets spell may be converted, under the old edition alone
pub record TellsMayConvert (old new : SpecTree) (raw : RawTree) (may : Bool) : Type 0 where
  pub told : (block : BlockTree) → RawSpells (old ∷ []) raw block → may ≡ MayConvert old new block
