-- Blocks as bits.
use Rattle.std.proofs.Common.{◌≡◌, ℕ, ◌+◌, ◌*◌, List, ◌++◌, length, true, refl, sym, ◌∙◌, ap, arith, append_assoc}
use Rattle.ax_bits.proofs.Outputs.{appends_more}
use Rattle.ax_bits.proofs.Words.{bits-append, length-bits, length-word, word-AreBits, bits-AreBits}
use Rattle.ax_bits.specs.Bits.{bits, word, AreBits}
use Rattle.ax_bits.specs.Out.{Appends}
use Rattle.ax_bits.specs.declared.output.Out.{Out}
use Rattle.ax_canon.specs.Blocks.{IsCanonical}
use Rattle.ax_format.proofs.CanonFramed.{bits-octets_of, length-framed}
use Rattle.ax_format.specs.Blocks.{read_block}
use Rattle.ax_format.specs.Bodies.{CanonBody}
use Rattle.ax_format.specs.CanonicalOctets.{canon_block, octets_of, framed}
use Rattle.ax_codec.specs.declared.codec.Codec.{Codec}
use Rattle.ax_walk.specs.Views.{IsLeast}

pub octets_long : (m : ℕ) (b : List ℕ) → length b ≡ 8 * m → AreBits b → length (octets_of b) ≡ m
octets_long m b l bit = omega (arith, length-bits (octets_of b), ap length (bits-octets_of m b l bit))

pub framed_bits : (category m : ℕ) (b : List ℕ) → length b ≡ 8 * m → AreBits b → bits (framed category (octets_of b)) ≡ (word 8 category ++ word 16 (m + 3)) ++ b
framed_bits category m b l bit =
    let n : 3 + length (octets_of b) ≡ m + 3 = omega (arith, octets_long m b l bit) in
    ap (λ x. word 8 category ++ x) (bits-append (octets_of (word 16 (3 + length (octets_of b)))) (octets_of b)
    ∙ (λ i. bits-octets_of 2 (word 16 (3 + length (octets_of b))) (length-word 16 (3 + length (octets_of b))) (word-AreBits 16 (3 + length (octets_of b))) i ++ bits-octets_of m b l bit i)
    ∙ ap (λ n. word 16 n ++ b) n) ∙ sym (append_assoc (word 8 category) (word 16 (m + 3)) b)

pub block_copied : (codec : Codec) (body : List ℕ) (old now new : Out) → IsLeast codec body true → Appends old now (word 8 codec.category ++ word 16 (length body + 3)) → Appends now new (bits body) → IsCanonical codec body (length body + 3) old new
block_copied codec body old now new least front rest = record {
  same_loan = rest.loan ∙ front.loan;
  written = λ spec records clean stands spells. (
      let is : CanonBody spec records ≡ bits body = least spec records clean stands spells refl in
      let whole : bits (canon_block spec (read_block spec.category records)) ≡ (word 8 codec.category ++ word 16 (length body + 3)) ++ bits body =
      ap (λ b. bits (framed spec.category (octets_of b))) is ∙ framed_bits spec.category (length body) (bits body) (length-bits body) (bits-AreBits body) ∙ ap (λ c. (word 8 c ++ word 16 (length body + 3)) ++ bits body) (sym stands.category) in
      appends_more old now new (word 8 codec.category ++ word 16 (length body + 3)) (bits body) (bits (canon_block spec (read_block spec.category records))) whole front rest);
  octets = λ spec records clean stands spells. (
      let is : CanonBody spec records ≡ bits body = least spec records clean stands spells refl in
      let l : length (octets_of (bits body)) ≡ length body = octets_long (length body) (bits body) (length-bits body) (bits-AreBits body) in
      sym (ap (λ b. length (framed spec.category (octets_of b))) is ∙ length-framed spec.category (octets_of (bits body)) ∙ (let z : 3 + length (octets_of (bits body)) ≡ length body + 3 = omega arith in z)));
}
