-- The canonical form of a spelled body: its octets are octets, and their sum is bounded.
use Rattle.std.proofs.Common.{◌≡◌, ℕ, ◌+◌, ◌*◌, ◌<◌, ◌≤◌, List, [], ◌∷◌, ◌++◌, length, sum, arith}
use Rattle.std.proofs.lemmas.List.Sums.{sum_by-cons}
use Rattle.ax_bits.proofs.Words.{number_below, word-AreBits, length-bits}
use Rattle.ax_bits.specs.Bits.{AreBits, AreOctets, bits, word}
use Rattle.ax_format.proofs.CanonFramed.{length-framed}
use Rattle.ax_format.proofs.RecordLaws.{record_shape, flawless_body_canon_spells, body_canon_shortest}
use Rattle.ax_format.proofs.SpelledBits.{records_bits}
use Rattle.std.specs.List.{AllByRecursion}
use Rattle.ax_format.specs.Bodies.{RecordShape, RecordsSpell, SpellsBody, CanonBody}
use Rattle.ax_format.specs.CanonicalOctets.{octets_of, framed}
use Rattle.ax_format.specs.Flaws.{NoFlaw}
use Rattle.ax_format.specs.Specification.{SpecTree}
use Rattle.ax_format.specs.Tree.{EntriesTree}

octets_few : (b : List ℕ) → 8 * length (octets_of b) ≤ length b
octets_few (x0 ∷ x1 ∷ x2 ∷ x3 ∷ x4 ∷ x5 ∷ x6 ∷ x7 ∷ more) = let h = octets_few more in omega (arith, h)
octets_few _ = omega arith

are_octets : (b : List ℕ) → AreBits b → AreOctets (octets_of b)
are_octets (x0 ∷ x1 ∷ x2 ∷ x3 ∷ x4 ∷ x5 ∷ x6 ∷ x7 ∷ more) (h0, (h1, (h2, (h3, (h4, (h5, (h6, (h7, h)))))))) = (number_below (x0 ∷ x1 ∷ x2 ∷ x3 ∷ x4 ∷ x5 ∷ x6 ∷ x7 ∷ []) (h0, (h1, (h2, (h3, (h4, (h5, (h6, (h7, tt)))))))), are_octets more h)
are_octets _ h = tt

append_octets : (xs ys : List ℕ) → AreOctets xs → AreOctets ys → AreOctets (xs ++ ys)
append_octets [] ys h g = g
append_octets (x ∷ xs) ys h g = (h.0, append_octets xs ys h.1 g)

sum_octets : (xs : List ℕ) → AreOctets xs → sum xs ≤ 255 * length xs
sum_octets [] h = omega arith
sum_octets (x ∷ xs) h = let s : sum (x ∷ xs) ≡ x + sum xs = sum_by-cons (λ y. y) x xs in let more = sum_octets xs h.1 in let low = h.0 in omega (arith, s, more, low)

all_shapes : (spec : SpecTree) (rs : List EntriesTree) (b : List ℕ) → RecordsSpell spec rs b → AllByRecursion (RecordShape spec) rs
all_shapes spec [] b h = tt
all_shapes spec (r ∷ rs) b (x, y, e, one, more) = (record_shape spec r x one, all_shapes spec rs y more)

module _ (spec : SpecTree) (none : NoFlaw spec) (records : List EntriesTree) (body : List ℕ) (h : SpellsBody spec records (bits body)) where
  canonical : SpellsBody spec records (CanonBody spec records)
  canonical = flawless_body_canon_spells spec records none h.some (all_shapes spec records (bits body) h.spelled)

  pub no_longer : length (octets_of (CanonBody spec records)) ≤ length body
  no_longer = omega (arith, octets_few (CanonBody spec records), body_canon_shortest spec records (bits body) h, length-bits body)

  pub framed_sum : (category : ℕ) → category < 256 → sum (framed category (octets_of (CanonBody spec records))) ≤ 255 * (3 + length body)
  framed_sum category low =
      let content = octets_of (CanonBody spec records) in
      let all : AreOctets (framed category content) = append_octets (category ∷ octets_of (word 16 (3 + length content))) content (low, are_octets (word 16 (3 + length content)) (word-AreBits 16 (3 + length content))) (are_octets (CanonBody spec records) (records_bits spec records (CanonBody spec records) canonical.spelled)) in
      omega (arith, sum_octets (framed category content) all, length-framed category content, no_longer)
