-- A canonical block at the front of an output: from its bits to its octets.
use Rattle.std.proofs.Common.{◌≡◌, ℕ, zero, suc, ◌+◌, ◌*◌, ◌<◌, ◌≤◌, List, [], ◌∷◌, ◌++◌, length, take, get_or, sym, ◌∙◌, ap, arith, length-take-le}
use Rattle.ax_bits.proofs.Pieces.{bits-injective, AreOctets-items, take-bits}
use Rattle.ax_bits.proofs.Words.{length-bits}
use Rattle.ax_bits.specs.Bits.{bits, AreOctets}
use Rattle.ax_bits.specs.Out.{Appends, written}
use Rattle.ax_bits.specs.declared.output.Out.{Out}
use Rattle.ax_canon.proofs.Patching.{body_shape}
use Rattle.ax_canon.specs.Blocks.{IsCanonical}
use Rattle.ax_format.specs.Blocks.{read_block}
use Rattle.ax_format.specs.Bodies.{SpellsBody, CanonBody}
use Rattle.ax_format.specs.CanonicalOctets.{canon_block, framed, octets_of}
use Rattle.ax_format.specs.Flaws.{NoFlaw}
use Rattle.ax_format.specs.Specification.{SpecTree}
use Rattle.ax_format.specs.Tree.{EntriesTree}
use Rattle.ax_codec.specs.Standing.{StandsFor}
use Rattle.ax_codec.specs.declared.codec.Codec.{Codec}
use Rattle.ax_format.proofs.CanonFramed.{length-framed}
use Rattle.ax_format.proofs.RecordLaws.{body_canon_shortest}
use Rattle.ax_values.proofs.WrittenRecords.{framed_octets, body_octets, body_bits}
use Rattle.ax_canon.specs.Laid.{BeginsWithBlock, LaysBits, IsBlockOf, LaysCanonical}

begins : (codec : Codec) (body : List ℕ) (n : ℕ) (old new : Out) → written old ≡ [] → IsCanonical codec body n old new
    → (spec : SpecTree) (records : List EntriesTree) → NoFlaw spec → StandsFor codec spec → SpellsBody spec records (bits body) → BeginsWithBlock spec records n (bits new.buffer.now)
begins codec body n old new none h spec records clean stands spells =
    let X = canon_block spec (read_block spec.category records) in
    let is : take new.count (bits new.buffer.now) ≡ bits X = (h.written spec records clean stands spells).written ∙ ap (λ w. w ++ bits X) none in
    let all : length (bits new.buffer.now) ≡ 8 * length new.buffer.now = length-bits new.buffer.now in
    let size : length (take new.count (bits new.buffer.now)) ≡ new.count = length-take-le new.count (bits new.buffer.now) (omega (arith, all, new.within.0)) in
    let count : new.count ≡ 8 * n = omega (arith, size, ap length is, length-bits X, h.octets spec records clean stands spells) in
    record { laid = ap (λ k. take k (bits new.buffer.now)) (sym count) ∙ is; counted = h.octets spec records clean stands spells }

pub view_laid : (codec : Codec) (body : List ℕ) (n : ℕ) (old new : Out) → written old ≡ [] → IsCanonical codec body n old new → LaysBits codec body n (bits new.buffer.now)
view_laid codec body n old new none h = record { begins = begins codec body n old new none h }

pub octets_front : (n : ℕ) (xs : List ℕ) → AreOctets xs → AreOctets (take n xs)
octets_front zero xs h = tt
octets_front (suc n) [] h = tt
octets_front (suc n) (x ∷ xs) h = (h.0, octets_front n xs h.1)

block_octets : (codec : Codec) (body : List ℕ) (spec : SpecTree) (records : List EntriesTree) → codec.category < 256 → NoFlaw spec → StandsFor codec spec → SpellsBody spec records (bits body) → AreOctets (canon_block spec (read_block spec.category records))
block_octets codec body spec records few clean stands spells =
    framed_octets spec.category _ (omega (arith, few, stands.category)) (body_octets spec records clean spells.some (body_shape spec records (bits body) spells.spelled))

-- it is no longer than the block that was read
block_short : (spec : SpecTree) (records : List EntriesTree) (body : List ℕ) → NoFlaw spec → SpellsBody spec records (bits body) → length (canon_block spec (read_block spec.category records)) ≤ 3 + length body
block_short spec records body clean spells =
    let size : length (canon_block spec (read_block spec.category records)) ≡ 3 + length (octets_of (CanonBody spec records)) = length-framed spec.category (octets_of (CanonBody spec records)) in
    let same : bits (octets_of (CanonBody spec records)) ≡ CanonBody spec records = body_bits spec records clean spells.some (body_shape spec records (bits body) spells.spelled) in
    omega (arith, size, ap length same, length-bits (octets_of (CanonBody spec records)), length-bits body, body_canon_shortest spec records (bits body) spells)

is_block : (codec : Codec) (body : List ℕ) (n : ℕ) (output : List ℕ) → AreOctets output → codec.category < 256 → length body ≤ 65532 → LaysBits codec body n (bits output)
    → (spec : SpecTree) (records : List EntriesTree) → NoFlaw spec → StandsFor codec spec → SpellsBody spec records (bits body) → IsBlockOf spec records n output
is_block codec body n output are few few_octets h spec records clean stands spells =
    let b = h.begins spec records clean stands spells in
    record {
      laid = bits-injective (take n output) (canon_block spec (read_block spec.category records)) (octets_front n output are) (block_octets codec body spec records few clean stands spells) (sym (take-bits n output) ∙ b.laid);
      within = omega (arith, few_octets, b.counted, block_short spec records body clean spells);
    }

pub octets_laid : (codec : Codec) (body : List ℕ) (n : ℕ) (output : List ℕ) → ((i : ℕ) → get_or output i 0 < 256) → codec.category < 256 → length body ≤ 65532 → LaysBits codec body n (bits output) → LaysCanonical codec body n output
octets_laid codec body n output items few few_octets h = record { block = is_block codec body n output (AreOctets-items output items) few few_octets h }

-- ---- an opaque block

-- what was appended first stands at the front
pub front_laid : (old new : Out) (xs : List ℕ) → written old ≡ [] → Appends old new (bits xs) → take (8 * length xs) (bits new.buffer.now) ≡ bits xs
front_laid old new xs none h =
    let is : take new.count (bits new.buffer.now) ≡ bits xs = h.written ∙ ap (λ w. w ++ bits xs) none in
    let all : length (bits new.buffer.now) ≡ 8 * length new.buffer.now = length-bits new.buffer.now in
    let size : length (take new.count (bits new.buffer.now)) ≡ new.count = length-take-le new.count (bits new.buffer.now) (omega (arith, all, new.within.0)) in
    let count : new.count ≡ 8 * length xs = omega (arith, size, ap length is, length-bits xs) in
    ap (λ k. take k (bits new.buffer.now)) (sym count) ∙ is

pub opaque_octets : (category n : ℕ) (body output : List ℕ) → ((i : ℕ) → get_or output i 0 < 256) → n ≡ length body + 3 → AreOctets (framed category body) → take (8 * n) (bits output) ≡ bits (framed category body) → take n output ≡ framed category body
opaque_octets category n body output items e are laid = bits-injective (take n output) (framed category body) (octets_front n output (AreOctets-items output items)) are (sym (take-bits n output) ∙ laid)
