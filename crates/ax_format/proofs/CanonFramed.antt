-- Bits as octets, and the octets of a block framed with its LEN.
use Rattle.std.proofs.Common.{◌≡◌, ℕ, zero, suc, ◌+◌, ◌*◌, ◌/◌, ◌%◌, ◌<◌, ◌≤◌, List, [], ◌∷◌, ◌++◌, length, refl, sym, ◌∙◌, ap, arith}
use Rattle.ax_bits.proofs.Pieces.{word-split, word-low, number-word}
use Rattle.ax_bits.proofs.Words.{word-number}
use Rattle.ax_bits.specs.Bits.{word, bits, number_of, AreBits}
use Rattle.ax_format.specs.Blocks.{IsFramed}
use Rattle.ax_format.specs.CanonicalOctets.{octets_of, framed}

-- whole octets of bits, and the same bits again
pub bits-octets_of : (n : ℕ) (b : List ℕ) → length b ≡ 8 * n → AreBits b → bits (octets_of b) ≡ b
bits-octets_of zero [] l h = refl
bits-octets_of zero (x ∷ b) l h = absurd (omega arith)
bits-octets_of (suc n) (a ∷ b ∷ c ∷ d ∷ e ∷ f ∷ g ∷ k ∷ more) l h =
    let eight : List ℕ = a ∷ b ∷ c ∷ d ∷ e ∷ f ∷ g ∷ k ∷ [] in
    let first : word 8 (number_of eight) ≡ eight = word-number eight (h.0, (h.1.0, (h.1.1.0, (h.1.1.1.0, (h.1.1.1.1.0, (h.1.1.1.1.1.0, (h.1.1.1.1.1.1.0, (h.1.1.1.1.1.1.1.0, tt)))))))) in
    let rest : bits (octets_of more) ≡ more = bits-octets_of n more (omega arith) h.1.1.1.1.1.1.1.1 in
    λ i. first i ++ rest i
bits-octets_of (suc n) [] l h = absurd (omega arith)
bits-octets_of (suc n) (a ∷ []) l h = absurd (omega arith)
bits-octets_of (suc n) (a ∷ b ∷ []) l h = absurd (omega arith)
bits-octets_of (suc n) (a ∷ b ∷ c ∷ []) l h = absurd (omega arith)
bits-octets_of (suc n) (a ∷ b ∷ c ∷ d ∷ []) l h = absurd (omega arith)
bits-octets_of (suc n) (a ∷ b ∷ c ∷ d ∷ e ∷ []) l h = absurd (omega arith)
bits-octets_of (suc n) (a ∷ b ∷ c ∷ d ∷ e ∷ f ∷ []) l h = absurd (omega arith)
bits-octets_of (suc n) (a ∷ b ∷ c ∷ d ∷ e ∷ f ∷ g ∷ []) l h = absurd (omega arith)

-- a number of two octets
two_octets : (n : ℕ) → n < 65536 → octets_of (word 16 n) ≡ (n / 256) ∷ (n % 256) ∷ []
two_octets n lt =
    let high : number_of (word 8 (n / 256)) ≡ n / 256 = number-word 8 (n / 256) (omega arith) in
    let low : number_of (word 8 n) ≡ n % 256 = ap number_of (sym (word-low 8 n)) ∙ number-word 8 (n % 256) (omega arith) in
    ap octets_of (word-split 8 8 n) ∙ (λ i. high i ∷ low i ∷ [])

pub length-framed : (category : ℕ) (body : List ℕ) → length (framed category body) ≡ 3 + length body
length-framed category body = omega arith

pub framed_is : (category : ℕ) (body : List ℕ) → length (framed category body) ≤ 65535 → IsFramed category body (framed category body)
framed_is category body le =
    let count : length (framed category body) ≡ 3 + length body = length-framed category body in record {
      high = (3 + length body) / 256;
      low = (3 + length body) % 256;
      layout = ap (λ l. category ∷ (l ++ body)) (two_octets (3 + length body) (omega arith));
      counted = omega (arith, count);
      high_octet = omega arith;
      low_octet = omega arith;
    }
