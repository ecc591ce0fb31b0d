-- What `convert` answers to a block, by its converted records.
use Rattle.std.proofs.Common.{◌≡◌, ℕ, List, [], Option, Some, None, map, sym, ◌∙◌, ap}
use Rattle.ax_convert_work.specs.ConvertCommand.{convert_command, told_octets, unless_too_long}
use Rattle.ax_format.specs.Blocks.{BlockTree, Fits, read_block, opaque_block}
use Rattle.ax_format.specs.Flaws.{NoFlaw}
use Rattle.ax_format.specs.Specification.{SpecTree}
use Rattle.ax_format.specs.Split.{first_too_long, split_octets}
use Rattle.ax_format.specs.Tree.{EntriesTree}
use Rattle.ax_rescale.proofs.ConversionOnce.{conversion_is_block}
use Rattle.ax_rescale.specs.Conversion.{BlockConversion}
use Rattle.ax_rescale.specs.ConvertedRecord.{converted_record}
use Rattle.ax_rescale.specs.Misses.{block_misses, missed_lines}
use Rattle.ax_blocks.specs.Commands.{gives, too_long}

records_in : BlockTree → List EntriesTree
records_in (read_block category records) = records
records_in (opaque_block category content) = []

module _ (old new : SpecTree) (number category : ℕ) (records made : List EntriesTree) (n : NoFlaw new) (f : Fits old (read_block category records)) (m : BlockConversion old new (read_block category records) (read_block category made)) where
  made_is : map (converted_record old new) records ≡ made
  unfolding records_in
  made_is = sym (ap records_in (conversion_is_block old new (read_block category records) (read_block category made) n f m))

  lines : List ℕ
  lines = missed_lines number (block_misses old new (read_block category records))

  by_made : (found : Option ℕ) → first_too_long new made ≡ found → (convert_command old new).answer number (read_block category records) ≡ unless_too_long found lines (split_octets new made)
  unfolding lines
  by_made found e = ap (λ rs. unless_too_long (first_too_long new rs) lines (split_octets new rs)) made_is ∙ ap (λ o. unless_too_long o lines (split_octets new made)) e

  pub answers_split : first_too_long new made ≡ None → (convert_command old new).answer number (read_block category records) ≡ gives (missed_lines number (block_misses old new (read_block category records))) (split_octets new made)
  unfolding lines
  answers_split none = by_made None none

  pub answers_long : (count : ℕ) → first_too_long new made ≡ Some count → (convert_command old new).answer number (read_block category records) ≡ too_long (told_octets count)
  answers_long count some = by_made (Some count) some

pub ruleset answers = (answers_split, answers_long)
