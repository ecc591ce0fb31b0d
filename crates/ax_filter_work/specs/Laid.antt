-- What is asked of a record, and the blocks of matching records that stand at the front of an output.
use Rattle.std.specs.Prelude.{◌≡◌, ℕ, ◌*◌, ◌≤◌, Bool, List, length, take}
use Rattle.ax_bits.specs.Bits.{bits}
use Rattle.ax_blocks.specs.Commands.{BlockCommand}
use Rattle.ax_filter.specs.Matching.{filtered}
use Rattle.ax_filter.specs.OfCode.{expression, catalogue_of}
use Rattle.ax_filter.specs.declared.filter.Filter.{Filter}
use Rattle.ax_filter_work.specs.FilterCommand.{filter_command}
use Rattle.ax_expressions.specs.Meaning.{holds}
use Rattle.ax_expressions.specs.Tree.{ExprTree}
use Rattle.ax_format.specs.Blocks.{read_block}
use Rattle.ax_format.specs.Bodies.{SpellsBody}
use Rattle.ax_format.specs.Flaws.{NoFlaw}
use Rattle.ax_format.specs.Sizes.{longest_block}
use Rattle.ax_format.specs.Specification.{SpecTree}
use Rattle.ax_format.specs.Tree.{EntriesTree}
use Rattle.ax_codec.specs.Standing.{StandsFor}
use Rattle.ax_codec.specs.declared.codec.Codec.{Codec}
use Rattle.ax_walk.specs.Shown.{record_entries}
use Rattle.ax_walk.specs.declared.record.RecordView.{RecordView}

-- the answer to a view of a record under the codec is whether the expression holds of it
abbrev pub SaysHolds : List SpecTree → ExprTree → Codec → RecordView → Bool → Type 0
SaysHolds catalogue e codec one answer = one.codec.now ≡ codec → answer ≡ holds catalogue codec.category (record_entries one) e

-- the bits begin with the canonical block, of so many octets, of those of the records that match
pub record BeginsWithMatching (catalogue : List SpecTree) (e : ExprTree) (spec : SpecTree) (records : List EntriesTree) (count : ℕ) (output : List ℕ) : Type 0 where
  pub laid : take (8 * count) output ≡ bits (filtered catalogue e spec (read_block spec.category records))
  pub counted : count ≡ length (filtered catalogue e spec (read_block spec.category records))
  pub within : count ≤ longest_block

-- of the records that the body spells, for each specification that the codec stands for
pub record LaysMatchingBits (catalogue : List SpecTree) (e : ExprTree) (codec : Codec) (body : List ℕ) (count : ℕ) (output : List ℕ) : Type 0 where
  pub begins : (spec : SpecTree) (records : List EntriesTree) → NoFlaw spec → StandsFor codec spec → SpellsBody spec records (bits body) → BeginsWithMatching catalogue e spec records count output

-- so many octets of the output are that block
pub record IsMatchingBlock (catalogue : List SpecTree) (e : ExprTree) (spec : SpecTree) (records : List EntriesTree) (count : ℕ) (output : List ℕ) : Type 0 where
  pub laid : take count output ≡ filtered catalogue e spec (read_block spec.category records)
  pub within : count ≤ longest_block

pub record LaysMatching (catalogue : List SpecTree) (e : ExprTree) (codec : Codec) (body : List ℕ) (count : ℕ) (output : List ℕ) : Type 0 where
  pub block : (spec : SpecTree) (records : List EntriesTree) → NoFlaw spec → StandsFor codec spec → SpellsBody spec records (bits body) → IsMatchingBlock catalogue e spec records count output

-- ---- by a filter of the code

abbrev pub command_of : Filter → BlockCommand
command_of filter = filter_command (expression filter) (catalogue_of filter)

abbrev pub LaysBitsBy : Filter → Codec → List ℕ → ℕ → List ℕ → Type 0
LaysBitsBy filter codec body count output = LaysMatchingBits (catalogue_of filter) (expression filter) codec body count output
