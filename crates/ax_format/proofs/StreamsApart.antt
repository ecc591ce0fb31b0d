-- Canonical octets spell their blocks, and octets spell one list of blocks.
use Rattle.std.proofs.Common.{◌≡◌, ◌↔◌, ℕ, ◌/◌, ◌%◌, ◌≤◌, ◌==◌, Bool, true, false, cond, List, [], ◌∷◌, ◌++◌, Option, Some, None, length, drop, refl, sym, ◌∙◌, ap, arith, subst}
use Rattle.std.proofs.Math.Seq.{drop-append_seam}
use Rattle.std.proofs.lemmas.Bool.{eqb-true}
use Rattle.std.specs.List.{AllByRecursion}
use Rattle.ax_bits.specs.Bits.{bits}
use Rattle.ax_format.proofs.Bounds.{bounds_sound, bounds_whole, record_bounds}
use Rattle.ax_format.proofs.CanonFramed.{bits-octets_of, framed_is}
use Rattle.ax_format.proofs.EndsOnce.{block_once}
use Rattle.ax_format.proofs.Framings.{len_of_front, same_front}
use Rattle.ax_format.proofs.RecordLaws.{body_canon_spells}
use Rattle.ax_format.proofs.SpelledBits.{records_bits}
use Rattle.ax_format.proofs.WholeOctets.{two_whole, spells_whole}
use Rattle.ax_format.specs.Blocks.{BlockTree, read_block, opaque_block, IsFramed, SpellsBlock, SpellsStream}
use Rattle.ax_format.specs.Bodies.{RecordsSpell, SpellsBody, CanonBody}
use Rattle.ax_format.specs.CanonicalOctets.{octets_of, canon_over, category_of, CanonBytes}
use Rattle.ax_format.specs.Flaws.{NoFlaw}
use Rattle.ax_format.specs.Specification.{SpecTree, spec_of, record_kind}
use Rattle.ax_format.specs.Streams.{FitsOver, IsWritable}
use Rattle.ax_format.specs.Tree.{EntriesTree, marked}
use Rattle.ax_format.specs.Whole.{Whole}

-- ---- one list of blocks

-- a block's octets are framed
record Frame (octets : List ℕ) : Type 0 where
  category : ℕ
  body : List ℕ
  framed : IsFramed category body octets

frame_of : (catalogue : List SpecTree) (block : BlockTree) (octets : List ℕ) → SpellsBlock catalogue block octets → Frame octets
frame_of catalogue (read_block category records) octets h = record { category = category; body = h.body; framed = h.framed }
frame_of catalogue (opaque_block category content) octets h = record { category = category; body = content; framed = h.framed }

-- no octets are no block
not_none : (catalogue : List SpecTree) (block : BlockTree) (octets front rest : List ℕ) → octets ≡ [] → octets ≡ front ++ rest → SpellsBlock catalogue block front → ⊥
not_none catalogue block octets front rest none split h =
    let f = frame_of catalogue block front h in
    let p = len_of_front f.category f.body front rest octets f.framed split in
    omega (arith, p, ap length none)

pub stream_once : (catalogue : List SpecTree) (blocks others : List BlockTree) (octets : List ℕ) → SpellsStream catalogue blocks octets → SpellsStream catalogue others octets → blocks ≡ others
stream_once catalogue [] [] octets h g = refl
stream_once catalogue [] (other ∷ others) octets h (front, rest, split, s, more) = absurd (not_none catalogue other octets front rest h split s)
stream_once catalogue (block ∷ blocks) [] octets (front, rest, split, s, more) g = absurd (not_none catalogue block octets front rest g split s)
stream_once catalogue (block ∷ blocks) (other ∷ others) octets (front, rest, split, s, more) (begin, later, cut, t, rests) =
    let f = frame_of catalogue block front s in
    let g = frame_of catalogue other begin t in
    let p = len_of_front f.category f.body front rest octets f.framed split in
    let q = len_of_front g.category g.body begin later octets g.framed cut in
    let fronts : begin ≡ front = same_front begin front later rest (sym cut ∙ split) (sym q.0 ∙ p.0) in
    let following : later ≡ rest = sym (drop-append_seam begin later) ∙ ap (drop (length begin)) (sym cut ∙ split) ∙ ap (λ l. drop (length l) (front ++ rest)) fronts ∙ drop-append_seam front rest in
    let head : block ≡ other = block_once catalogue front f.category f.body block other f.framed s (subst (SpellsBlock catalogue other) fronts t) in
    let tail : blocks ≡ others = stream_once catalogue blocks others rest more (subst (SpellsStream catalogue others) following rests) in
    λ i. head i ∷ tail i

-- ---- canonical octets

records_whole : (spec : SpecTree) (rs : List EntriesTree) (b : List ℕ) → Whole (record_kind spec) → RecordsSpell spec rs b → length b % 8 ≡ 0
records_whole spec [] b w h = omega (arith, ap length h)
records_whole spec (r ∷ rs) b w (x, y, e, h, t) = two_whole b x y e (spells_whole (record_kind spec) (marked r) x w h.spells) (records_whole spec rs y w t)

-- the canonical octets of a body spell its records
body_spelled : (spec : SpecTree) (records : List EntriesTree) → NoFlaw spec → SpellsBody spec records (CanonBody spec records) → SpellsBody spec records (bits (octets_of (CanonBody spec records)))
body_spelled spec records flawless h =
    let whole : length (CanonBody spec records) % 8 ≡ 0 = records_whole spec records (CanonBody spec records) (bounds_whole (record_kind spec) (record_bounds spec flawless)) h.spelled in
    let again : bits (octets_of (CanonBody spec records)) ≡ CanonBody spec records
    = bits-octets_of (length (CanonBody spec records) / 8) (CanonBody spec records) (omega arith) (records_bits spec records (CanonBody spec records) h.spelled) in
    subst (SpellsBody spec records) (sym again) h

-- the specification found has the category, and is one of the catalogue
found : (P : SpecTree → Type 0) (category : ℕ) (b : Bool) (one : SpecTree) (rest : Option SpecTree) (spec : SpecTree) → (one.category == category) ≡ b → P one
    → (rest ≡ Some spec → P spec × (spec.category ≡ category)) → cond b (Some one) rest ≡ Some spec → P spec × (spec.category ≡ category)
found P category true one rest spec test h more e =
    let same : one ≡ spec = cc in (subst P same h, ap (λ s. s.category) (sym same) ∙ eqb-true one.category category test)
found P category false one rest spec test h more e = more e

pub found_in : (category : ℕ) (catalogue : List SpecTree) (spec : SpecTree) → AllByRecursion NoFlaw catalogue → spec_of category catalogue ≡ Some spec → NoFlaw spec × (spec.category ≡ category)
found_in category [] spec h e = absurd (let none : None ≡ Some spec = e in cc)
found_in category (s ∷ catalogue) spec h e = found NoFlaw category (s.category == category) s (spec_of category catalogue) spec refl h.0 (found_in category catalogue spec h.1) e

by_spec : (catalogue : List SpecTree) (block : BlockTree) (o : Option SpecTree) → AllByRecursion NoFlaw catalogue → spec_of (category_of block) catalogue ≡ o → FitsOver o block → length (canon_over o block) ≤ 65535
    → SpellsBlock catalogue block (canon_over o block)
by_spec catalogue (read_block category records) None flawless is fits le = absurd fits
by_spec catalogue (opaque_block category content) None flawless is fits le = record { unknown = is; framed = framed_is category content le; some = fits }
by_spec catalogue (opaque_block category content) (Some spec) flawless is fits le = absurd (fits.0 (sym (found_in category catalogue spec flawless is).1))
by_spec catalogue (read_block category records) (Some spec) flawless is fits le =
    let one = found_in category catalogue spec flawless is in
    let body : List ℕ = octets_of (CanonBody spec records) in
    let spelled : SpellsBody spec records (CanonBody spec records) = body_canon_spells spec records (bounds_sound (record_kind spec) (record_bounds spec one.0)) fits.1 fits.2 in
    record { spec = spec; known = is; body = body; framed = framed_is category body le; spelled = body_spelled spec records one.0 spelled }

pub canon_stream : (catalogue : List SpecTree) (blocks : List BlockTree) → AllByRecursion NoFlaw catalogue → AllByRecursion (IsWritable catalogue) blocks → SpellsStream catalogue blocks (CanonBytes catalogue blocks)
canon_stream catalogue [] flawless h = refl
canon_stream catalogue (block ∷ blocks) flawless h = (
  canon_over (spec_of (category_of block) catalogue) block,
  CanonBytes catalogue blocks,
  refl,
  by_spec catalogue block (spec_of (category_of block) catalogue) flawless refl h.0.fits h.0.within,
  canon_stream catalogue blocks flawless h.1,
)

pub canon_streams_apart : (catalogue : List SpecTree) (blocks others : List BlockTree) → AllByRecursion NoFlaw catalogue → AllByRecursion (IsWritable catalogue) blocks → AllByRecursion (IsWritable catalogue) others
    → CanonBytes catalogue blocks ≡ CanonBytes catalogue others ↔ blocks ≡ others
canon_streams_apart catalogue blocks others flawless h g = (
  (λ e. stream_once catalogue blocks others (CanonBytes catalogue blocks) (canon_stream catalogue blocks flawless h) (subst (SpellsStream catalogue others) (sym e) (canon_stream catalogue others flawless g))),
  (λ e. ap (CanonBytes catalogue) e),
)
