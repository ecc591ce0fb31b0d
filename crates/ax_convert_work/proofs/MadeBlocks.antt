-- The answer to a block, by what is made of it.
use Rattle.std.proofs.Common.{◌≡◌, ℕ, List, [], Option, Some, None, sym, ◌∙◌, ap, subst}
use Rattle.std.specs.Option.{option_map}
use Rattle.ax_convert_work.specs.ConvertCommand.{convert_answer, told_octets, unless_too_long}
use Rattle.ax_convert_work.specs.Making.{AreDataBlocks, IsMade, IsReadBlock, NoDataBlocks, NotMade, ShortIfOpaque, TellsTooLong, all_octets}
use Rattle.ax_convert_work.specs.declared.blocks.DataBlock.{DataBlock}
use Rattle.ax_format.specs.Blocks.{BlockTree, read_block, opaque_block}
use Rattle.ax_format.specs.Framing.{RawTree}
use Rattle.ax_format.specs.Plain.{spec_tree, block_tree}
use Rattle.ax_format.specs.Specification.{SpecTree}
use Rattle.ax_format.specs.declared.record.Block.{Block}
use Rattle.ax_format.specs.declared.spec.Spec.{Spec}
use Rattle.ax_relation.specs.Relates.{Relates}
use Rattle.ax_relation.specs.declared.relation.Relation.{Relation}
use Rattle.ax_rescale.proofs.ConversionOnce.{conversion_is_block}
use Rattle.ax_rescale.specs.ConvertedRecord.{converted_block}
use Rattle.ax_rescale.specs.Converting.{BlockConverted, misses_of}
use Rattle.ax_rescale.specs.Misses.{block_misses, missed_lines}
use Rattle.ax_rescale.specs.declared.miss.Miss.{Miss}
use Rattle.ax_blocks.specs.Commands.{gives, too_long}
use Rattle.ax_blocks.specs.declared.work.WorkStop.{WorkStop}
use Rattle.ax_blocks.specs.declared.work.WorkStop.TheVariants.{Fault, TooLong, WriteFault, ReportFault, OutOfMemory}

-- ---- the answer

answered : (old new : SpecTree) (number : ℕ) (block : BlockTree) (blocks : List DataBlock) → AreDataBlocks new (converted_block old new block) blocks
    → convert_answer old new number block ≡ gives (missed_lines number (block_misses old new block)) (all_octets blocks)
answered old new number (read_block category records) blocks h =
    let lines = missed_lines number (block_misses old new (read_block category records)) in (λ i. unless_too_long (h.0 i) lines (sym h.1 i))
answered old new number (opaque_block category content) blocks h = ap (gives []) (sym h)

told_of : (found : Option ℕ) (lines octets : List ℕ) (count : ℕ) → option_map told_octets found ≡ Some count → unless_too_long found lines octets ≡ too_long count
told_of None lines octets count e = absurd (cc)
told_of (Some n) lines octets count e = let t : told_octets n ≡ count = cc in ap too_long t

refused : (old new : SpecTree) (number : ℕ) (block : BlockTree) (count : ℕ) → TellsTooLong new (converted_block old new block) count → convert_answer old new number block ≡ too_long count
refused old new number (read_block category records) count h = told_of _ _ _ count h
refused old new number (opaque_block category content) count h = absurd h

-- ---- a converted block

module _ (old new : Spec) (relation : Relation) (related : Relates old new relation) (raw : RawTree) (block made : Block) (read : IsReadBlock old raw block) (converted : BlockConverted old new block made) where
  made_is : block_tree made ≡ converted_block (spec_tree old) (spec_tree new) (block_tree block)
  made_is = conversion_is_block (spec_tree old) (spec_tree new) (block_tree block) (block_tree made) related.new_no_flaw read.fits converted

  short_opaque : (tree : BlockTree) → ShortIfOpaque (spec_tree old) tree → ShortIfOpaque (spec_tree new) (converted_block (spec_tree old) (spec_tree new) tree)
  short_opaque (read_block category records) h = tt
  short_opaque (opaque_block category content) h = h

  pub made_short : ShortIfOpaque (spec_tree new) (block_tree made)
  made_short = subst (ShortIfOpaque (spec_tree new)) (sym made_is) (short_opaque (block_tree block) read.short)

  pub block_made : (misses : List Miss) (blocks : List DataBlock) → misses ≡ misses_of old new block → AreDataBlocks (spec_tree new) (block_tree made) blocks → IsMade (spec_tree old) (spec_tree new) raw misses blocks
  block_made misses blocks m h =
      let a : AreDataBlocks (spec_tree new) (converted_block (spec_tree old) (spec_tree new) (block_tree block)) blocks = subst (λ b. AreDataBlocks (spec_tree new) b blocks) made_is h in record {
        block = block_tree block;
        spells = read.spells;
        answer = λ number. answered (spec_tree old) (spec_tree new) number (block_tree block) blocks a ∙ ap (λ l. gives (missed_lines number l) (all_octets blocks)) (sym m);
      }

  pub block_not_made : (stop : WorkStop) → NoDataBlocks (spec_tree new) (block_tree made) stop → NotMade (spec_tree old) (spec_tree new) raw stop
  block_not_made (TooLong count) h =
      let t : TellsTooLong (spec_tree new) (converted_block (spec_tree old) (spec_tree new) (block_tree block)) count = subst (λ b. TellsTooLong (spec_tree new) b count) made_is h in
      record { block = block_tree block; spells = read.spells; answer = λ number. refused (spec_tree old) (spec_tree new) number (block_tree block) count t }
  block_not_made OutOfMemory h = tt
  block_not_made (Fault f) h = absurd h
  block_not_made WriteFault h = absurd h
  block_not_made ReportFault h = absurd h
