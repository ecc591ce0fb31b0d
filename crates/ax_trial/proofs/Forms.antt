-- A block's canonical form.
use Rattle.std.proofs.Common.{◌≡◌, ℕ, ◌+◌, ◌-◌, ◌<◌, ◌≤◌, ◌==◌, cond, List, [], ◌∷◌, ◌++◌, length, take, drop, Some, None, refl, sym, ◌∙◌, ap, subst, arith, append-nil, length-append, length-drop, length-take-le, true}
use Rattle.std.proofs.lemmas.Bool.Decides.{nat_tests}
use Rattle.ax_bits.proofs.Words.{length-bits}
use Rattle.ax_bits.specs.Bits.{bits}
use Rattle.ax_format.proofs.BodyReader.{record_some}
use Rattle.ax_format.proofs.Once.{body_never_both}
use Rattle.ax_format.specs.Blocks.{read_block}
use Rattle.ax_format.specs.Bodies.{RecordsSpell, SpellsBody}
use Rattle.ax_format.specs.CanonicalOctets.{canon_block, canon_over}
use Rattle.ax_format.specs.Specification.{SpecTree, spec_of}
use Rattle.ax_format.specs.Tree.{EntriesTree}
use Rattle.ax_format.specs.declared.fault.BodyFault.{BodyFault}
use Rattle.ax_codec.specs.Standing.{IsCompiled}
use Rattle.ax_codec.specs.declared.codec.Codec.{Codec}
use Rattle.ax_trial.specs.Counting.{IsCanonOf}
use Rattle.ax_vectors.specs.Made.{IsSpelledBlock}
use Rattle.ax_walk.specs.Views.{CountsRecords, FailsThere}
use Rattle.ax_canon.specs.Laid.{LaysCanonical}

-- ---- the parts of a spelled block

body_some : (spec : SpecTree) (rs : List EntriesTree) (b : List ℕ) → 0 < length rs → RecordsSpell spec rs b → 0 < length b
body_some spec [] b some h = absurd (omega arith)
body_some spec (r ∷ rs) b some (x, y, e, one, t) = omega (arith, record_some spec r x one, ap length e, length-append x y)

pub block_octets_few : (spec : SpecTree) (octets : List ℕ) → IsSpelledBlock spec octets → (4 ≤ length octets) × (length octets ≤ 65535)
block_octets_few spec octets h =
    let f = h.spelled.framed in
    let size : length octets ≡ 3 + length h.spelled.body = ap length f.layout ∙ omega arith in
    let some : 0 < length (bits h.spelled.body) = body_some h.spelled.spec h.records (bits h.spelled.body) h.spelled.spelled.some h.spelled.spelled.spelled in
    (omega (arith, size, some, length-bits h.spelled.body), omega (arith, f.counted, f.high_octet, f.low_octet))

-- ---- its canonical form, over the one specification

eqb_same : (n : ℕ) → (n == n) ≡ true
eqb_same n = grind (arith, nat_tests)

known : (spec : SpecTree) → spec_of spec.category (spec ∷ []) ≡ Some spec
known spec = ap (λ b. cond b (Some spec) None) (eqb_same spec.category)

one_spec : (spec other : SpecTree) → spec_of spec.category (spec ∷ []) ≡ Some other → spec ≡ other
one_spec spec other e = let same : Some spec ≡ Some other = sym (known spec) ∙ e in cc

-- the octets after CAT and LEN spell the block's records
pub body_spelled : (spec : SpecTree) (octets : List ℕ) → (h : IsSpelledBlock spec octets) → SpellsBody spec h.records (bits (drop 3 octets))
body_spelled spec octets h =
    let body : drop 3 octets ≡ h.spelled.body = ap (drop 3) h.spelled.framed.layout in
    subst (λ b. SpellsBody spec h.records (bits b)) (sym body) (subst (λ s. SpellsBody s h.records (bits h.spelled.body)) (sym (one_spec spec h.spelled.spec h.spelled.known)) h.spelled.spelled)

pub form_is : (spec : SpecTree) (codec : Codec) (octets : List ℕ) (records count : ℕ) (output : List ℕ) → IsCompiled codec spec → IsSpelledBlock spec octets → CountsRecords codec (drop 3 octets) records → LaysCanonical codec (drop 3 octets) count output
    → length output ≡ 65535 → IsCanonOf spec octets records (take count output)
form_is spec codec octets records count output compiled h counts laid room =
    let few = block_octets_few spec octets h in
    let spells = body_spelled spec octets h in
    let block = laid.block spec h.records compiled.clean compiled.stands spells in
    record {
      block = read_block spec.category h.records;
      spelled = h.spelled;
      records_are = counts.counts spec h.records compiled.clean compiled.stands spells;
      canonical_is = block.laid ∙ sym (append-nil (canon_block spec (read_block spec.category h.records))) ∙ ap (λ o. canon_over o (read_block spec.category h.records) ++ []) (sym (known spec));
      short = few.1;
      no_longer = omega (arith, length-take-le count output (omega (arith, block.within, room)), block.within);
    }

pub form_within : (spec : SpecTree) (codec : Codec) (octets : List ℕ) (count : ℕ) (output : List ℕ) → IsCompiled codec spec → IsSpelledBlock spec octets → LaysCanonical codec (drop 3 octets) count output → count ≤ 65535
form_within spec codec octets count output compiled h laid = (laid.block spec h.records compiled.clean compiled.stands (body_spelled spec octets h)).within

-- it doesn't fail
pub no_fault : (spec : SpecTree) (codec : Codec) (octets : List ℕ) (fault : BodyFault) → IsCompiled codec spec → IsSpelledBlock spec octets → FailsThere codec (drop 3 octets) fault → ⊥
no_fault spec codec octets fault compiled h fails = body_never_both spec (bits (drop 3 octets)) h.records fault.bit fault.cause (body_spelled spec octets h) (fails.fails spec compiled.clean compiled.stands)

-- of a view of the body
pub form_of : (spec : SpecTree) (codec other : Codec) (octets body shown : List ℕ) (records count : ℕ) (output : List ℕ) → other ≡ codec → shown ≡ body → body ≡ drop 3 octets → IsCompiled codec spec → IsSpelledBlock spec octets
    → CountsRecords other shown records → LaysCanonical other shown count output → length output ≡ 65535 → IsCanonOf spec octets records (take count output) × (count ≤ 65535)
form_of spec codec other octets body shown records count output same is front compiled h counts laid room =
    let counted : CountsRecords codec (drop 3 octets) records = subst (λ b. CountsRecords codec b records) (is ∙ front) (subst (λ k. CountsRecords k shown records) same counts) in
    let stands : LaysCanonical codec (drop 3 octets) count output = subst (λ b. LaysCanonical codec b count output) (is ∙ front) (subst (λ k. LaysCanonical k shown count output) same laid) in
    (form_is spec codec octets records count output compiled h counted stands room, form_within spec codec octets count output compiled h stands)

pub some_body : (spec : SpecTree) (octets body : List ℕ) → IsSpelledBlock spec octets → body ≡ drop 3 octets → (1 ≤ length body) × (length body ≤ 65532)
some_body spec octets body h is =
    let few = block_octets_few spec octets h in
    let size : length body ≡ length octets - 3 = ap length is ∙ length-drop 3 octets in
    (omega (arith, few.0), omega (arith, few.1))

pub front_there : (spec : SpecTree) (octets : List ℕ) → IsSpelledBlock spec octets → 3 ≤ length octets
front_there spec octets h = let few = block_octets_few spec octets h in omega (arith, few.0)

pub ruleset forms = (front_there)
