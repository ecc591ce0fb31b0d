-- Canonical blocks, of the records that a body spells.
use Rattle.std.specs.Prelude.{◌≡◌, ℕ, List}
use Rattle.ax_bits.specs.Bits.{bits}
use Rattle.ax_bits.specs.Out.{Appends, loan}
use Rattle.ax_bits.specs.declared.output.Out.{Out}
use Rattle.ax_format.specs.Blocks.{read_block}
use Rattle.ax_format.specs.Bodies.{SpellsBody, CanonBody}
use Rattle.ax_format.specs.CanonicalOctets.{canon_block, canon_length}
use Rattle.ax_format.specs.Flaws.{NoFlaw}
use Rattle.ax_format.specs.Specification.{SpecTree}
use Rattle.ax_format.specs.Tree.{EntriesTree}
use Rattle.ax_codec.specs.Standing.{StandsFor}
use Rattle.ax_codec.specs.declared.codec.Codec.{Codec}

-- the canonical block of the records that the body spells is appended, for each specification that the codec stands for
pub record IsCanonical (codec : Codec) (body : List ℕ) (n : ℕ) (old new : Out) : Type 0 where
  pub same_loan : loan new ≡ loan old
  pub written : (spec : SpecTree) (records : List EntriesTree) → NoFlaw spec → StandsFor codec spec → SpellsBody spec records (bits body) → Appends old new (bits (canon_block spec (read_block spec.category records)))
  pub octets : (spec : SpecTree) (records : List EntriesTree) → NoFlaw spec → StandsFor codec spec → SpellsBody spec records (bits body) → n ≡ canon_length spec (read_block spec.category records)

-- the canonical spellings of the records that the body spells are appended
pub record IsCanonicalBody (codec : Codec) (body : List ℕ) (old new : Out) : Type 0 where
  pub written : (spec : SpecTree) (records : List EntriesTree) → NoFlaw spec → StandsFor codec spec → SpellsBody spec records (bits body) → Appends old new (CanonBody spec records)
  pub some : (b : List ℕ) × Appends old new b
