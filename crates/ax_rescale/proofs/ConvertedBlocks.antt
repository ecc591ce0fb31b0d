-- What the code makes of a block is its conversion, with its misses.
use Rattle.std.proofs.Common.{◌≡◌, ℕ, ◌<◌, List, [], ◌∷◌, ◌++◌, length, refl, sym, ◌∙◌, ap, subst}
use Rattle.std.specs.List.{AllByRecursion}
use Rattle.ax_relation.proofs.DistinctNames.{record_distinct}
use Rattle.ax_format.specs.Blocks.{BlockTree, read_block, opaque_block, Fits}
use Rattle.ax_format.specs.Bodies.{RecordShape}
use Rattle.ax_format.specs.OfCode.{BlockFits}
use Rattle.ax_format.specs.Plain.{spec_tree, records_tree, block_tree}
use Rattle.ax_format.specs.Specification.{SpecTree}
use Rattle.ax_format.specs.Tree.{EntriesTree}
use Rattle.ax_format.specs.declared.record.Block.{Block}
use Rattle.ax_format.specs.declared.record.Block.TheVariants as BlockOf
use Rattle.ax_format.specs.declared.record.Record.{Record}
use Rattle.ax_rescale.proofs.ConversionOnce.{each_converts}
use Rattle.ax_rescale.proofs.MissedKeys.{all_found}
use Rattle.ax_rescale.specs.Conversion.{EachConversion, BlockConversion}
use Rattle.ax_rescale.specs.Converting.{IsConverter, BlockConverted, misses_of, converted_records}
use Rattle.ax_rescale.specs.Watching.{found_misses}
use Rattle.ax_rescale.specs.declared.converter.Converter.{Converter}
use Rattle.ax_rescale.specs.declared.miss.Miss.{Miss}

each_shape : (old new : SpecTree) (rs ss : List EntriesTree) → EachConversion old new rs ss → (length ss ≡ length rs) × AllByRecursion (RecordShape new) ss
each_shape old new [] [] h = (refl, tt)
each_shape old new [] (s ∷ ss) h = absurd h
each_shape old new (r ∷ rs) [] h = absurd h
each_shape old new (r ∷ rs) (s ∷ ss) h =
    let t = each_shape old new rs ss h.1 in (ap ℕ.suc t.0, (h.0.shape, t.1))

module _ (c : Converter) (is : IsConverter c) where
  pub read_shapes : (block : Block) (category : ℕ) (records : List Record) → block ≡ BlockOf.Read category records → BlockFits c.old.now block → AllByRecursion (RecordShape (spec_tree c.old.now)) (records_tree records)
  read_shapes block category records e fits = (subst (BlockFits c.old.now) e fits).2

  pub read_converted : (block : Block) (category : ℕ) (records made : List Record) → block ≡ BlockOf.Read category records → BlockFits c.old.now block → records_tree made ≡ converted_records c.old.now c.new.now (records_tree records)
      → BlockConverted c.old.now c.new.now block (BlockOf.Read category made)
  read_converted block category records made e fits m =
      let fit = subst (BlockFits c.old.now) e fits in
      let P : List EntriesTree → Type 0 = λ x. BlockConversion (spec_tree c.old.now) (spec_tree c.new.now) (read_block category (records_tree records)) (read_block category x) in
      let Q : Block → Type 0 = λ b. BlockConverted c.old.now c.new.now b (BlockOf.Read category made) in
      subst Q (sym e) (subst P (sym m) (refl, each_converts (spec_tree c.old.now) (spec_tree c.new.now) (records_tree records) fit.2))

  pub read_misses : (block : Block) (category : ℕ) (records : List Record) (misses start : List Miss) → block ≡ BlockOf.Read category records → BlockFits c.old.now block → start ≡ []
      → misses ≡ start ++ found_misses (spec_tree c.old.now) (spec_tree c.new.now) c.relation.now.paths 0 (records_tree records) → misses ≡ misses_of c.old.now c.new.now block
  read_misses block category records misses start e fits none m =
      let fit = subst (BlockFits c.old.now) e fits in
      m ∙ ap (λ (l : List Miss). l ++ found_misses (spec_tree c.old.now) (spec_tree c.new.now) c.relation.now.paths 0 (records_tree records)) none
      ∙ ap (λ ps. found_misses (spec_tree c.old.now) (spec_tree c.new.now) ps 0 (records_tree records)) is.related.paths
      ∙ all_found (spec_tree c.old.now) (spec_tree c.new.now) 0 (records_tree records) (record_distinct (spec_tree c.old.now) is.related.old_no_flaw) fit.2 ∙ ap (misses_of c.old.now c.new.now) (sym e)

  pub opaque_converted : (block made : Block) (category : ℕ) (octets : List ℕ) → block ≡ BlockOf.Opaque category octets → made ≡ block → BlockConverted c.old.now c.new.now block made
  opaque_converted block made category octets e same =
      let P : Block → Type 0 = λ b. BlockConverted c.old.now c.new.now b b in
      let Q : Block → Type 0 = λ b. BlockConverted c.old.now c.new.now block b in subst Q (sym same) (subst P (sym e) refl)

  pub opaque_misses : (block : Block) (category : ℕ) (octets : List ℕ) (misses : List Miss) → block ≡ BlockOf.Opaque category octets → misses ≡ [] → misses ≡ misses_of c.old.now c.new.now block
  opaque_misses block category octets misses e none = none ∙ ap (misses_of c.old.now c.new.now) (sym e)

  fits_tree : (b d : BlockTree) → Fits (spec_tree c.old.now) b → BlockConversion (spec_tree c.old.now) (spec_tree c.new.now) b d → Fits (spec_tree c.new.now) d
  fits_tree (read_block category records) (read_block other made) f m =
      let t = each_shape (spec_tree c.old.now) (spec_tree c.new.now) records made m.1 in
      let P : ℕ → Type 0 = λ n. 0 < n in (m.0 ∙ f.0 ∙ is.related.category, subst P (sym t.0) f.1, t.1)
  fits_tree (read_block category records) (opaque_block other octets) f m = absurd m
  fits_tree (opaque_block category octets) d f m =
      let P : BlockTree → Type 0 = λ b. Fits (spec_tree c.new.now) b in
      subst P (sym m) ((λ e. f.0 (e ∙ sym is.related.category)), f.1)

  -- a converted block fits the new edition
  pub converted_fits : (block made : Block) → BlockFits c.old.now block → BlockConverted c.old.now c.new.now block made → BlockFits c.new.now made
  converted_fits block made f m = fits_tree (block_tree block) (block_tree made) f m

pub ruleset blocks = (read_shapes, read_converted, read_misses, opaque_converted, opaque_misses, converted_fits)
