-- LEN written again after CAT.
use Rattle.std.proofs.Common.{◌≡◌, ℕ, ◌+◌, ◌-◌, ◌*◌, ◌/◌, ◌%◌, ◌^◌, ◌<◌, List, [], ◌∷◌, ◌++◌, length, take, drop, refl, sym, ◌∙◌, ap, arith, subst, length-append, append_assoc}
use Rattle.std.proofs.lemmas.List.{take_at, drop_at}
use Rattle.ax_bits.proofs.Outputs.{appends_more}
use Rattle.ax_bits.proofs.Pieces.{word-split, word-low}
use Rattle.ax_bits.proofs.Words.{length-word}
use Rattle.ax_bits.specs.Bits.{bits, word}
use Rattle.ax_bits.specs.Out.{Appends, Replaces, written, unwritten, room}
use Rattle.ax_bits.specs.declared.output.Out.{Out}
use Rattle.ax_canon.proofs.Framing.{framed_bits, octets_long}
use Rattle.ax_canon.specs.Blocks.{IsCanonical, IsCanonicalBody}
use Rattle.ax_canon.specs.Kept.{HasLength}
use Rattle.ax_format.proofs.Bounds.{record_bounds, bounds_whole}
use Rattle.ax_format.proofs.CanonFramed.{length-framed}
use Rattle.ax_format.proofs.RecordLaws.{record_shape, flawless_body_canon_spells}
use Rattle.ax_format.proofs.SpelledBits.{records_bits}
use Rattle.ax_format.proofs.WholeOctets.{two_whole, spells_whole}
use Rattle.ax_format.specs.Blocks.{read_block}
use Rattle.ax_format.specs.Bodies.{SpellsBody, RecordsSpell, RecordShape, CanonBody}
use Rattle.std.specs.List.{AllByRecursion}
use Rattle.ax_format.specs.CanonicalOctets.{canon_block, canon_length, octets_of}
use Rattle.ax_format.specs.Flaws.{NoFlaw}
use Rattle.ax_format.specs.Specification.{SpecTree, record_kind}
use Rattle.ax_format.specs.Tree.{EntriesTree, marked}
use Rattle.ax_format.specs.Whole.{Whole}
use Rattle.ax_codec.specs.Standing.{StandsFor}
use Rattle.ax_codec.specs.declared.codec.Codec.{Codec}

-- the records that a body spells have the shape of records
pub body_shape : (spec : SpecTree) (rs : List EntriesTree) (b : List ℕ) → RecordsSpell spec rs b → AllByRecursion (RecordShape spec) rs
body_shape spec [] b h = tt
body_shape spec (r ∷ rs) b (x, y, e, h, t) = (record_shape spec r x h, body_shape spec rs y t)

-- ---- 8 bits in the middle

patched : (w z t x : List ℕ) (p q : ℕ) → length w ≡ p → length z ≡ 8 → q ≡ p + 8 → take p (w ++ (z ++ t)) ++ (x ++ drop q (w ++ (z ++ t))) ≡ w ++ (x ++ t)
patched w z t x p q l m e =
    let both : length (w ++ z) ≡ q = omega (arith, length-append w z) in
    (λ i. take_at w (z ++ t) p l i ++ (x ++ (ap (drop q) (sym (append_assoc w z t)) ∙ drop_at (w ++ z) t q both) i))

len_bits : (n : ℕ) → word 8 (n / 256 % 256) ++ word 8 (n % 256) ≡ word 16 n
len_bits n = (λ i. word-low 8 (n / 2 ^ 8) i ++ word-low 8 n i) ∙ sym (word-split 8 8 n)

-- ---- a front of three octets, a body, and two octets written again

module _ (o b c d : Out) (cat x y : ℕ) (B : List ℕ) (empty : written o ≡ []) (to_b : Appends o b ((word 8 cat ++ word 16 0) ++ B)) (one : Replaces b c 1 x) (two : Replaces c d 2 y) where
  written_body : written b ≡ word 8 cat ++ (word 8 0 ++ (word 8 0 ++ B))
  written_body = to_b.written ∙ ap (λ w. w ++ ((word 8 cat ++ word 16 0) ++ B)) empty ∙ append_assoc (word 8 cat) (word 16 0) B

  written_one : written c ≡ word 8 cat ++ (word 8 x ++ (word 8 0 ++ B))
  written_one = one.written ∙ ap (λ w. take 8 w ++ (word 8 x ++ drop 16 w)) written_body ∙ patched (word 8 cat) (word 8 0) (word 8 0 ++ B) (word 8 x) 8 16 (length-word 8 cat) (length-word 8 0) (omega arith)

  written_two : written d ≡ (word 8 cat ++ word 8 x) ++ (word 8 y ++ B)
  written_two = two.written ∙ ap (λ w. take 16 w ++ (word 8 y ++ drop 24 w)) (written_one ∙ sym (append_assoc (word 8 cat) (word 8 x) (word 8 0 ++ B)))
      ∙ patched (word 8 cat ++ word 8 x) (word 8 0) B (word 8 y) 16 24 (length-append (word 8 cat) (word 8 x) ∙ (λ i. length-word 8 cat i + length-word 8 x i)) (length-word 8 0) (omega arith)

  pub patched_block : Appends o d ((word 8 cat ++ word 8 x) ++ (word 8 y ++ B))
  patched_block =
      let whole = (word 8 cat ++ word 16 0) ++ B in
      let long : length whole ≡ length ((word 8 cat ++ word 8 x) ++ (word 8 y ++ B)) =
      length-append (word 8 cat ++ word 16 0) B ∙ (let l : length (word 8 cat ++ word 16 0) ≡ 24 = length-append (word 8 cat) (word 16 0) ∙ (λ i. length-word 8 cat i + length-word 16 0 i) in
      let m : length ((word 8 cat ++ word 8 x) ++ (word 8 y ++ B)) ≡ 24 + length B = omega (arith, length-append (word 8 cat ++ word 8 x) (word 8 y ++ B), length-append (word 8 cat) (word 8 x), length-append (word 8 y) B, length-word 8 cat, length-word 8 x, length-word 8 y) in omega arith) in
      record {
        loan = two.loan ∙ one.loan ∙ to_b.loan;
        written = written_two ∙ ap (λ w. w ++ ((word 8 cat ++ word 8 x) ++ (word 8 y ++ B))) (sym empty);
        unwritten = two.unwritten ∙ one.unwritten ∙ to_b.unwritten ∙ ap (λ n. drop n (unwritten o)) long;
        room = omega (arith, to_b.room, one.room, two.room, long);
      }

-- ---- the block of records

records_whole : (spec : SpecTree) (rs : List EntriesTree) (b : List ℕ) → Whole (record_kind spec) → RecordsSpell spec rs b → length b % 8 ≡ 0
records_whole spec [] b w h = omega (arith, ap length h)
records_whole spec (r ∷ rs) b w (x, y, e, h, t) = two_whole b x y e (spells_whole (record_kind spec) (marked r) x w h.spells) (records_whole spec rs y w t)

front_long : (cat : ℕ) (B : List ℕ) → length ((word 8 cat ++ word 16 0) ++ B) ≡ 24 + length B
front_long cat B = omega (arith, length-append (word 8 cat ++ word 16 0) B, length-append (word 8 cat) (word 16 0), length-word 8 cat, length-word 16 0)

-- the canonical block of some records, which a body needn't spell
pub record IsBlock (spec : SpecTree) (records : List EntriesTree) (n : ℕ) (o d : Out) : Type 0 where
  pub written : Appends o d (bits (canon_block spec (read_block spec.category records)))
  pub octets : n ≡ canon_length spec (read_block spec.category records)

module _ (codec : Codec) (spec : SpecTree) (records : List EntriesTree) (clean : NoFlaw spec) (stands : StandsFor codec spec) (some : 0 < length records) (shape : AllByRecursion (RecordShape spec) records)
    (o b d : Out) (n : ℕ) (empty : written o ≡ []) (to_b : Appends o b ((word 8 codec.category ++ word 16 0) ++ CanonBody spec records)) (count : n ≡ (room o - room b) / 8) (set : HasLength n b d) where
  whole_body : SpellsBody spec records (CanonBody spec records)
  whole_body = flawless_body_canon_spells spec records clean some shape

  size : length (CanonBody spec records) ≡ 8 * (n - 3)
  size =
      let w : length (CanonBody spec records) % 8 ≡ 0 = records_whole spec records (CanonBody spec records) (bounds_whole (record_kind spec) (record_bounds spec clean)) whole_body.spelled in
      omega (arith, w, to_b.room, front_long codec.category (CanonBody spec records), count)

  enough : n - 3 + 3 ≡ n
  enough = omega (arith, to_b.room, front_long codec.category (CanonBody spec records), count)

  pub block_of : IsBlock spec records n o d
  block_of =
      let B = CanonBody spec records in
      let cat = codec.category in
      let is : bits (canon_block spec (read_block spec.category records)) ≡ (word 8 cat ++ word 8 (n / 256 % 256)) ++ (word 8 (n % 256) ++ B) =
      framed_bits spec.category (n - 3) B size (records_bits spec records B whole_body.spelled)
      ∙ (λ i. (word 8 (sym stands.category i) ++ (ap (word 16) enough ∙ sym (len_bits n)) i) ++ B)
      ∙ ap (λ x. x ++ B) (sym (append_assoc (word 8 cat) (word 8 (n / 256 % 256)) (word 8 (n % 256)))) ∙ append_assoc (word 8 cat ++ word 8 (n / 256 % 256)) (word 8 (n % 256)) B in
      let l : length (octets_of B) ≡ n - 3 = octets_long (n - 3) B size (records_bits spec records B whole_body.spelled) in
      let long : 3 + length (octets_of B) ≡ n = omega (arith, l, enough) in
      record {
        written = subst (Appends o d) (sym is) (patched_block o b set.between d cat (n / 256 % 256) (n % 256) B empty to_b set.high set.low);
        octets = sym (length-framed spec.category (octets_of B) ∙ long);
      }

-- of the records that a body spells
pub block_anew : (codec : Codec) (body : List ℕ) (o a b d : Out) (n : ℕ) → written o ≡ [] → Appends o a (word 8 codec.category ++ word 16 0) → IsCanonicalBody codec body a b → n ≡ (room a - room b) / 8 + 3 → HasLength n b d → IsCanonical codec body n o d
block_anew codec body o a b d n empty front anew count set = record {
  same_loan = set.low.loan ∙ set.high.loan ∙ anew.some.1.loan ∙ front.loan;
  written = λ spec records clean stands spells. (by spec records clean stands spells).written;
  octets = λ spec records clean stands spells. (by spec records clean stands spells).octets;
}
  where
    by : (spec : SpecTree) (records : List EntriesTree) → NoFlaw spec → StandsFor codec spec → SpellsBody spec records (bits body) → IsBlock spec records n o d
    by spec records clean stands spells =
        let B = CanonBody spec records in
        let f = word 8 codec.category ++ word 16 0 in
        let body_in = anew.written spec records clean stands spells in
        let all : n ≡ (room o - room b) / 8 = omega (arith, count, front.room, body_in.room, length-append (word 8 codec.category) (word 16 0), length-word 8 codec.category, length-word 16 0) in
        block_of codec spec records clean stands spells.some (body_shape spec records (bits body) spells.spelled) o b d n empty (appends_more o a b f B (f ++ B) refl front body_in) all set
