-- What was encoded is read back, and what was read can be encoded.
use Rattle.std.proofs.Common.{◌≡◌, ◌≢◌, ℕ, ◌+◌, ◌<◌, ◌≤◌, List, [], ◌∷◌, length, sym, ◌∙◌, ap, arith, subst, length-append}
use Rattle.std.specs.List.{AllByRecursion}
use Rattle.ax_bits.proofs.Words.{length-bits}
use Rattle.ax_bits.specs.Bits.{bits}
use Rattle.ax_format.proofs.BodyReader.{record_some}
use Rattle.ax_format.proofs.CanonFramed.{length-framed, framed_is}
use Rattle.ax_format.proofs.RecordLaws.{flawless_body_canon_spells, body_canon_shortest, record_shape}
use Rattle.ax_format.specs.Blocks.{read_block, opaque_block, Fits}
use Rattle.ax_format.specs.Bodies.{RecordShape, RecordsSpell, SpellsBody, CanonBody}
use Rattle.ax_format.specs.CanonicalOctets.{octets_of, framed, canon_length}
use Rattle.ax_format.specs.OfCode.{HasNoFlaw, BlockFits, block_octets, block_length}
use Rattle.ax_format.specs.Plain.{spec_tree, records_tree, block_tree}
use Rattle.ax_format.specs.Specification.{SpecTree}
use Rattle.ax_format.specs.Tree.{EntriesTree}
use Rattle.ax_format.specs.declared.record.Block.{Block}
use Rattle.ax_format.specs.declared.record.Block.TheVariants as BlockOf
use Rattle.ax_format.specs.declared.spec.Spec.{Spec}
use Rattle.ax_values.proofs.WrittenRecords.{body_bits}
use Rattle.ax_values.specs.Decoding.{ReadsBack, IsReadOf}

-- ---- what was encoded is read back

body_some : (spec : SpecTree) (rs : List EntriesTree) (b : List ℕ) → SpellsBody spec rs b → 0 < length b
body_some spec [] b h = absurd (let none : 0 < 0 = h.some in omega arith)
body_some spec (r ∷ rs) b h = first h.spelled
  where
    first : RecordsSpell spec (r ∷ rs) b → 0 < length b
    first (x, y, e, one, t) = omega (arith, record_some spec r x one, ap length e, length-append x y)

pub read_back : (spec : Spec) (block : Block) → HasNoFlaw spec → BlockFits spec block → block_length spec block ≤ 65535 → ReadsBack spec block (block_octets spec block)
read_back spec (BlockOf.Read category rs) none fits le =
    let tree = spec_tree spec in
    let body = octets_of (CanonBody tree (records_tree rs)) in
    let spelled : SpellsBody tree (records_tree rs) (bits body) =
    subst (SpellsBody tree (records_tree rs)) (sym (body_bits tree (records_tree rs) none fits.1 fits.2)) (flawless_body_canon_spells tree (records_tree rs) none fits.1 fits.2) in record {
      category = category;
      body = body;
      framed = framed_is category body le;
      some = omega (arith, body_some tree (records_tree rs) (bits body) spelled, length-bits body);
      few = omega (arith, length-framed category body, le);
      same = λ answer h. h.where_spelled (records_tree rs) fits.0 spelled;
    }
read_back spec (BlockOf.Opaque category content) none fits le = record {
  category = category;
  body = content;
  framed = framed_is category content le;
  some = omega (arith, fits.1);
  few = omega (arith, length-framed category content, le);
  same = λ answer h. h.opaque fits.0;
}

-- ---- what was read fits, and its canonical form is no longer than what was read

shapes : (spec : SpecTree) (rs : List EntriesTree) (b : List ℕ) → RecordsSpell spec rs b → AllByRecursion (RecordShape spec) rs
shapes spec [] b h = tt
shapes spec (r ∷ rs) b (x, y, e, one, t) = (record_shape spec r x one, shapes spec rs y t)

read_fits : (spec : SpecTree) (category : ℕ) (rs : List EntriesTree) (body : List ℕ) → category ≡ spec.category → SpellsBody spec rs (bits body) → Fits spec (read_block category rs)
read_fits spec category rs body e h = (e, h.some, shapes spec rs (bits body) h.spelled)

pub decoded_fits : (spec : Spec) (category : ℕ) (body : List ℕ) (block : Block) → category ≡ spec.category → IsReadOf (spec_tree spec) category body (block_tree block) → BlockFits spec block
decoded_fits spec category body block e h = subst (Fits (spec_tree spec)) (sym h.is) (read_fits (spec_tree spec) category h.records body e h.spelled)

pub decoded_no_longer : (spec : Spec) (category : ℕ) (body : List ℕ) (block : Block) → HasNoFlaw spec → category ≡ spec.category → IsReadOf (spec_tree spec) category body (block_tree block) → block_length spec block ≤ 3 + length body
decoded_no_longer spec category body block none e h =
    let tree = spec_tree spec in
    let rs = h.records in
    let fit = read_fits tree category rs body e h.spelled in
    let octets = octets_of (CanonBody tree rs) in
    let long : length (bits octets) ≡ length (CanonBody tree rs) = ap length (body_bits tree rs none fit.1 fit.2) in
    let least : length (CanonBody tree rs) ≤ length (bits body) = body_canon_shortest tree rs (bits body) h.spelled in
    let same : block_length spec block ≡ length (framed category octets) = ap (canon_length tree) h.is in
    omega (arith, long, least, same, length-bits octets, length-bits body, length-framed category octets)

pub opaque_fits : (spec : Spec) (category : ℕ) (body : List ℕ) (block : Block) → category ≢ spec.category → 1 ≤ length body → block_tree block ≡ opaque_block category body → BlockFits spec block
opaque_fits spec category body block other some e = subst (Fits (spec_tree spec)) (sym e) (other, omega arith)

pub opaque_length : (spec : Spec) (category : ℕ) (body : List ℕ) (block : Block) → block_tree block ≡ opaque_block category body → block_length spec block ≡ 3 + length body
opaque_length spec category body block e = ap (canon_length (spec_tree spec)) e ∙ length-framed category body
