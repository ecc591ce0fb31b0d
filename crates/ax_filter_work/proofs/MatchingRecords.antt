-- The records that a call says to keep are those that match.
use Rattle.std.proofs.Common.{◌≡◌, ℕ, ◌*◌, ◌<◌, inl, inr, Bool, true, false, cond, List, [], ◌∷◌, Result, Ok, Err, IfOk, length, take, get_or, filter, refl, sym, ◌∙◌, ap, subst, arith, append-nil}
use Rattle.std.specs.List.{AllByRecursion}
use Rattle.ax_bits.proofs.Pieces.{bits-injective, AreOctets-items, take-bits}
use Rattle.ax_bits.proofs.Words.{length-bits}
use Rattle.ax_bits.specs.Bits.{bits, AreOctets}
use Rattle.ax_bits.specs.Out.{Appends, written, room}
use Rattle.ax_bits.specs.declared.output.Out.{Out}
use Rattle.ax_canon.specs.Kept.{Says, Keeps, kept_octets, IsCanonicalIf}
use Rattle.ax_filter.specs.Matching.{matching, some_block, canon_if, filtered}
use Rattle.ax_expressions.specs.Meaning.{holds}
use Rattle.ax_expressions.specs.Tree.{ExprTree}
use Rattle.ax_filter_work.specs.Laid.{LaysMatchingBits, LaysMatching}
use Rattle.ax_format.proofs.Once.{body_once}
use Rattle.ax_format.proofs.RecordLaws.{record_shape}
use Rattle.ax_format.specs.Blocks.{read_block}
use Rattle.ax_format.specs.Bodies.{SpellsRecord, SpellsBody, RecordsSpell, RecordShape}
use Rattle.ax_format.specs.Flaws.{NoFlaw}
use Rattle.ax_format.specs.Specification.{SpecTree}
use Rattle.ax_format.specs.Tree.{EntriesTree}
use Rattle.ax_format.specs.declared.fault.BodyFault.{BodyFault}
use Rattle.ax_codec.specs.Standing.{StandsFor}
use Rattle.ax_codec.specs.declared.codec.Codec.{Codec}
use Rattle.ax_values.proofs.WrittenRecords.{framed_octets, body_octets}
use Rattle.ax_walk.proofs.Spelled.{record_spelled}
use Rattle.ax_walk.specs.Shown.{record_entries}
use Rattle.ax_walk.specs.declared.record.RecordView.{RecordView}
use Rattle.ax_canon.proofs.LaidOctets.{octets_front, front_laid}

first_same : {A : Type 0} (x y : A) → ◌≡◌ {A = List A} (x ∷ []) (y ∷ []) → x ≡ y
first_same x y e = cc

-- octets spell one record at most
record_once : (spec : SpecTree) (r q : EntriesTree) (b : List ℕ) → SpellsRecord spec r b → SpellsRecord spec q b → r ≡ q
record_once spec r q b s t = first_same r q (body_once spec b (r ∷ []) (q ∷ []) (alone r s) (alone q t))
  where
    alone : (r : EntriesTree) → SpellsRecord spec r b → SpellsBody spec (r ∷ []) b
    alone r s = record { some = omega arith; spelled = (b, [], sym (append-nil b), s, refl) }

module _ (call : RecordView → Bool → Type 0) (catalogue : List SpecTree) (e : ExprTree) (codec : Codec) (holds_of : (view : RecordView) (b : Bool) → view.codec.now ≡ codec → call view b → b ≡ holds catalogue codec.category (record_entries view) e) (spec : SpecTree) (clean : NoFlaw spec) (stands : StandsFor codec spec) where
  says_holds : (r : EntriesTree) (b : Bool) → Says call codec spec r b → holds catalogue spec.category r e ≡ b
  says_holds r b y =
      let own = (record_spelled y.view.codec.now y.view.body.now y.view.record_octets).spells spec clean (subst (λ c. StandsFor c spec) (sym y.same) stands) in
      let same : r ≡ record_entries y.view = record_once spec r (record_entries y.view) (bits y.view.body.now) y.spells own in
      (λ i. holds catalogue (sym stands.category i) (same i) e) ∙ sym (holds_of y.view b y.same y.says)

  matches : (rs ks : List EntriesTree) → Keeps (Says call codec spec) rs ks → ks ≡ matching catalogue spec.category e rs
  matches [] ks h = h
  matches (r ∷ rs) ks (inl (n, t)) = matches rs ks t ∙ sym (ap (λ b. cond b (r ∷ matching catalogue spec.category e rs) (matching catalogue spec.category e rs)) (says_holds r false n))
  matches (r ∷ rs) ks (inr (rest, y, is, t)) = is ∙ ap (λ ks. r ∷ ks) (matches rs rest t) ∙ sym (ap (λ b. cond b (r ∷ matching catalogue spec.category e rs) (matching catalogue spec.category e rs)) (says_holds r true y))

octets_kept : (spec : SpecTree) (kept : List EntriesTree) → kept_octets spec kept ≡ canon_if spec (some_block spec.category kept)
octets_kept spec [] = refl
octets_kept spec (r ∷ kept) = refl

-- ---- at the front of an output

appended_front : (old new : Out) (n : ℕ) (xs : List ℕ) → written old ≡ [] → Appends old new (bits xs) → n ≡ length xs → take (8 * n) (bits new.buffer.now) ≡ bits xs
appended_front old new n xs none a e = ap (λ n. take (8 * n) (bits new.buffer.now)) e ∙ front_laid old new xs none a

matching_begins : (call : RecordView → Bool → Type 0) (catalogue : List SpecTree) (e : ExprTree) (codec : Codec) (body : List ℕ) (n : ℕ) (old new : Out) → ((view : RecordView) (b : Bool) → view.codec.now ≡ codec → call view b → b ≡ holds catalogue codec.category (record_entries view) e)
    → written old ≡ [] → room old ≡ 8 * 65535 → IsCanonicalIf call codec body n old new → LaysMatchingBits catalogue e codec body n (bits new.buffer.now)
matching_begins call catalogue e codec body n old new holds_of none all h = record {
  begins = λ spec records clean stands spells. (
      let k = h.kept spec records clean stands spells in
      let is : kept_octets spec k.kept ≡ filtered catalogue e spec (read_block spec.category records) = octets_kept spec k.kept ∙ ap (λ ks. canon_if spec (some_block spec.category ks)) (matches call catalogue e codec holds_of spec clean stands records k.kept k.keeps) in
      record {
        laid = appended_front old new n (kept_octets spec k.kept) none k.written k.octets ∙ ap bits is;
        counted = k.octets ∙ ap length is;
        within = omega (arith, k.written.room, all, length-bits (kept_octets spec k.kept), k.octets);
      });
}

-- what a call answers is taken last, so that it is known which calls these are
pub matching_scanned : (call : RecordView → Bool → Type 0) (catalogue : List SpecTree) (e : ExprTree) (codec : Codec) (body : List ℕ) (result : Result ℕ BodyFault) (old new : Out) → written old ≡ [] → room old ≡ 8 * 65535 → IfOk result (λ n. IsCanonicalIf call codec body n old new)
    → ((view : RecordView) (b : Bool) → view.codec.now ≡ codec → call view b → b ≡ holds catalogue codec.category (record_entries view) e) → IfOk result (λ n. LaysMatchingBits catalogue e codec body n (bits new.buffer.now))
matching_scanned call catalogue e codec body (Ok n) old new none all h holds_of = matching_begins call catalogue e codec body n old new holds_of none all h
matching_scanned call catalogue e codec body (Err fault) old new none all h holds_of = tt

-- ---- from its bits to its octets

records_shape : (spec : SpecTree) (rs : List EntriesTree) (b : List ℕ) → RecordsSpell spec rs b → AllByRecursion (RecordShape spec) rs
records_shape spec [] b h = tt
records_shape spec (r ∷ rs) b (x, y, e, h, t) = (record_shape spec r x h, records_shape spec rs y t)

all_matching : {A : Type 0} (R : A → Type 0) (test : A → Bool) (xs : List A) → AllByRecursion R xs → AllByRecursion R (filter test xs)
all_matching R test [] all = tt
all_matching R test (x ∷ xs) all = by_test (test x) (all_matching R test xs all.1)
  where
    by_test : (b : Bool) → AllByRecursion R (filter test xs) → AllByRecursion R (cond b (x ∷ filter test xs) (filter test xs))
    by_test true later = (all.0, later)
    by_test false later = later

block_octets : (spec : SpecTree) (kept : List EntriesTree) → spec.category < 256 → NoFlaw spec → AllByRecursion (RecordShape spec) kept → AreOctets (canon_if spec (some_block spec.category kept))
block_octets spec [] few clean shape = tt
block_octets spec (r ∷ kept) few clean shape = framed_octets spec.category _ few (body_octets spec (r ∷ kept) clean (omega arith) shape)

matching_octets : (catalogue : List SpecTree) (e : ExprTree) (codec : Codec) (body : List ℕ) (n : ℕ) (output : List ℕ) → ((i : ℕ) → get_or output i 0 < 256) → codec.category < 256 → LaysMatchingBits catalogue e codec body n (bits output) → LaysMatching catalogue e codec body n output
matching_octets catalogue e codec body n output items few h = record {
  block = λ spec records clean stands spells. (
      let b = h.begins spec records clean stands spells in
      let block = filtered catalogue e spec (read_block spec.category records) in
      let shape = all_matching (RecordShape spec) (λ r. holds catalogue spec.category r e) records (records_shape spec records (bits body) spells.spelled) in
      let are : AreOctets block = block_octets spec (matching catalogue spec.category e records) (omega (arith, few, stands.category)) clean shape in
      record {
        laid = bits-injective (take n output) block (octets_front n output (AreOctets-items output items)) are (sym (take-bits n output) ∙ b.laid);
        within = b.within;
      });
}

pub matching_laid : (catalogue : List SpecTree) (e : ExprTree) (codec : Codec) (body : List ℕ) (result : Result ℕ BodyFault) (output : List ℕ) → ((i : ℕ) → get_or output i 0 < 256) → codec.category < 256 → IfOk result (λ n. LaysMatchingBits catalogue e codec body n (bits output)) → IfOk result (λ n. LaysMatching catalogue e codec body n output)
matching_laid catalogue e codec body (Ok n) output items few h = matching_octets catalogue e codec body n output items few h
matching_laid catalogue e codec body (Err fault) output items few h = tt
