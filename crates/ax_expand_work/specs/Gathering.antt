-- The lines of a block as they are gathered, before any is written.
use Rattle.std.specs.Prelude.{◌≡◌, ℕ, List, ◌++◌, Option}
use Rattle.ax_bits.specs.Bits.{bits}
use Rattle.ax_expand.specs.Expansion.{ExpansionTree, expansion_tree}
use Rattle.ax_expand_work.specs.ExpandCommand.{content_at, re_lines_of, unread_lines_of, re_lines, unread_lines}
use Rattle.ax_expand_work.specs.declared.contents.ContentLines.{ContentLines}
use Rattle.ax_expand_work.specs.declared.lines.RecordNumber.{RecordNumber}
use Rattle.ax_expand_work.specs.declared.records.Expanded.{Expanded}
use Rattle.ax_format.specs.Bodies.{SpellsBody}
use Rattle.ax_format.specs.Flaws.{NoFlaw}
use Rattle.ax_format.specs.Specification.{SpecTree}
use Rattle.ax_format.specs.Tree.{EntriesTree}
use Rattle.ax_codec.specs.Standing.{StandsFor}
use Rattle.ax_codec.specs.declared.codec.Codec.{Codec}
use Rattle.ax_walk.specs.declared.view.BlockView.{BlockView}

-- the lines of this content come after those before
pub record GathersContent (x : ExpansionTree) (block n : ℕ) (content : Option (List ℕ)) (old new : ContentLines) : Type 0 where
  pub spelled : new.spelled.octets ≡ old.spelled.octets ++ re_lines_of x block n content
  pub faulty : new.faulty.octets ≡ old.faulty.octets ++ unread_lines_of x block n content

-- so do those of the records that the body spells, for each specification that the codec stands for
pub record GathersBlock (x : ExpansionTree) (frn block : ℕ) (codec : Codec) (body : List ℕ) (old new : ContentLines) : Type 0 where
  pub spelled : (spec : SpecTree) (records : List EntriesTree) → NoFlaw spec → StandsFor codec spec → SpellsBody spec records (bits body) → new.spelled.octets ≡ old.spelled.octets ++ re_lines frn x block 0 records
  pub faulty : (spec : SpecTree) (records : List EntriesTree) → NoFlaw spec → StandsFor codec spec → SpellsBody spec records (bits body) → new.faulty.octets ≡ old.faulty.octets ++ unread_lines frn x block 0 records

-- ---- as the code holds what is expanded

abbrev pub GathersRecord : Expanded → RecordNumber → EntriesTree → ContentLines → ContentLines → Type 0
GathersRecord re name es old new = GathersContent (expansion_tree re.expansion.now) name.block name.number (content_at re.frn es) old new

abbrev pub GathersView : Expanded → ℕ → BlockView → ContentLines → ContentLines → Type 0
GathersView re block view old new = GathersBlock (expansion_tree re.expansion.now) re.frn block view.codec.now view.body.now old new
