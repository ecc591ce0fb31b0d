-- Canonical blocks that stand at the front of an output.
use Rattle.std.specs.Prelude.{◌≡◌, ℕ, ◌*◌, ◌≤◌, List, length, take}
use Rattle.ax_bits.specs.Bits.{bits}
use Rattle.ax_format.specs.Blocks.{read_block}
use Rattle.ax_format.specs.Bodies.{SpellsBody}
use Rattle.ax_format.specs.CanonicalOctets.{canon_block}
use Rattle.ax_format.specs.Flaws.{NoFlaw}
use Rattle.ax_format.specs.Sizes.{longest_block}
use Rattle.ax_format.specs.Specification.{SpecTree}
use Rattle.ax_format.specs.Tree.{EntriesTree}
use Rattle.ax_codec.specs.Standing.{StandsFor}
use Rattle.ax_codec.specs.declared.codec.Codec.{Codec}

-- the bits begin with the canonical block, of so many octets, of the records that the body spells
pub record BeginsWithBlock (spec : SpecTree) (records : List EntriesTree) (count : ℕ) (output : List ℕ) : Type 0 where
  pub laid : take (8 * count) output ≡ bits (canon_block spec (read_block spec.category records))
  pub counted : count ≡ length (canon_block spec (read_block spec.category records))

-- for each specification that the codec stands for
pub record LaysBits (codec : Codec) (body : List ℕ) (count : ℕ) (output : List ℕ) : Type 0 where
  pub begins : (spec : SpecTree) (records : List EntriesTree) → NoFlaw spec → StandsFor codec spec → SpellsBody spec records (bits body) → BeginsWithBlock spec records count output

-- so many octets of the output are the canonical block of the records that the body spells
pub record IsBlockOf (spec : SpecTree) (records : List EntriesTree) (count : ℕ) (output : List ℕ) : Type 0 where
  pub laid : take count output ≡ canon_block spec (read_block spec.category records)
  pub within : count ≤ longest_block

-- for each specification that the codec stands for
pub record LaysCanonical (codec : Codec) (body : List ℕ) (count : ℕ) (output : List ℕ) : Type 0 where
  pub block : (spec : SpecTree) (records : List EntriesTree) → NoFlaw spec → StandsFor codec spec → SpellsBody spec records (bits body) → IsBlockOf spec records count output
