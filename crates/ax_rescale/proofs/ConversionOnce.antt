-- Each record has exactly one conversion, and each block.
use Rattle.std.proofs.Common.{◌≡◌, List, [], ◌∷◌, map, refl, sym, ◌∙◌, subst}
use Rattle.std.specs.List.{AllByRecursion}
use Rattle.ax_relation.proofs.Once.{named_record_once}
use Rattle.ax_format.specs.Blocks.{BlockTree, read_block, opaque_block, Fits}
use Rattle.ax_format.specs.Bodies.{RecordShape}
use Rattle.ax_format.specs.Flaws.{NoFlaw}
use Rattle.ax_format.specs.Specification.{SpecTree}
use Rattle.ax_format.specs.Tree.{EntriesTree}
use Rattle.ax_rescale.proofs.ConversionNamed.{record_named}
use Rattle.ax_rescale.proofs.ConversionShape.{record_shape}
use Rattle.ax_rescale.specs.Conversion.{Conversion, EachConversion, BlockConversion}
use Rattle.ax_rescale.specs.ConvertedRecord.{converted_record, converted_block}

pub record_converts : (old new : SpecTree) (es : EntriesTree) → RecordShape old es → Conversion old new es (converted_record old new es)
record_converts old new es h = record { shape = record_shape old new es h; named = record_named old new es }

pub converted_once : (old new : SpecTree) (es made other : EntriesTree) → NoFlaw new → Conversion old new es made → Conversion old new es other → made ≡ other
converted_once old new es made other no_flaw m n = named_record_once new made other no_flaw m.shape n.shape (λ key. m.named key ∙ sym (n.named key))

-- ---- blocks

pub each_converts : (old new : SpecTree) (rs : List EntriesTree) → AllByRecursion (RecordShape old) rs → EachConversion old new rs (map (converted_record old new) rs)
each_converts old new [] h = tt
each_converts old new (r ∷ rs) h = (record_converts old new r h.0, each_converts old new rs h.1)

each_is : (old new : SpecTree) (rs ss : List EntriesTree) → NoFlaw new → AllByRecursion (RecordShape old) rs → EachConversion old new rs ss → ss ≡ map (converted_record old new) rs
each_is old new [] [] n h m = refl
each_is old new [] (s ∷ ss) n h m = absurd m
each_is old new (r ∷ rs) [] n h m = absurd m
each_is old new (r ∷ rs) (s ∷ ss) n h m =
    let one = converted_once old new r s (converted_record old new r) n m.0 (record_converts old new r h.0) in
    let rest = each_is old new rs ss n h.1 m.1 in λ i. one i ∷ rest i

pub conversion_is_block : (old new : SpecTree) (block made : BlockTree) → NoFlaw new → Fits old block → BlockConversion old new block made → made ≡ converted_block old new block
conversion_is_block old new (read_block category records) (read_block other made) n f m =
    let rest = each_is old new records made n f.2 m.1 in λ i. read_block (m.0 i) (rest i)
conversion_is_block old new (read_block category records) (opaque_block other octets) n f m = absurd m
conversion_is_block old new (opaque_block category octets) made n f m = m

converts : (old new : SpecTree) (block : BlockTree) → Fits old block → BlockConversion old new block (converted_block old new block)
converts old new (read_block category records) f = (refl, each_converts old new records f.2)
converts old new (opaque_block category octets) f = refl

pub block_converts : (old new : SpecTree) (block made : BlockTree) → Fits old block → made ≡ converted_block old new block → BlockConversion old new block made
block_converts old new block made f e =
    let P : BlockTree → Type 0 = λ b. BlockConversion old new block b in subst P (sym e) (converts old new block f)
