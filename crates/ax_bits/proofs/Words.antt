-- Bits and the numbers that they spell.
use Rattle.std.proofs.Common.{◌≡◌, ℕ, zero, suc, ◌+◌, ◌*◌, ◌/◌, ◌%◌, ◌^◌, ◌<◌, List, [], ◌∷◌, ◌++◌, length, refl, ◌∙◌, ap, arith, length-append}
use Rattle.std.proofs.lemmas.Nat.{div-mul-add}
use Rattle.std.proofs.Math.Nat.{add-mul-div_right, add-mul-mod_self_right, mod-eq_of_lt, pow-suc}
use Rattle.std.proofs.lemmas.Grind.{flat_map-append}
use Rattle.std.proofs.Math.Pow.{pow_pos}
use Rattle.ax_bits.specs.Bits.{word, bits, number_of, AreBits}

pub length-word : (w n : ℕ) → length (word w n) ≡ w
length-word zero n = refl
length-word (suc w) n = ap suc (length-word w n)

pub word-AreBits : (w n : ℕ) → AreBits (word w n)
word-AreBits zero n = tt
word-AreBits (suc w) n = (omega arith, word-AreBits w n)

pub twice : (k : ℕ) → 2 ^ suc k ≡ 2 ^ k + 2 ^ k
twice k = let e : 2 ^ suc k ≡ 2 ^ k * 2 = pow-suc 2 k in omega arith

pub number_below : (b : List ℕ) → AreBits b → number_of b < 2 ^ length b
number_below [] h = omega arith
number_below (zero ∷ b) h = let ih : number_of b < 2 ^ length b = number_below b h.1 in omega (arith, twice (length b))
number_below (suc zero ∷ b) h = let ih : number_of b < 2 ^ length b = number_below b h.1 in omega (arith, twice (length b))
number_below (suc (suc x) ∷ b) h = absurd (omega (arith, h.0))

-- a multiple of 2 ^ w changes no bit of a word
pub word-mod : (w c m : ℕ) → word w (m + c * 2 ^ w) ≡ word w m
word-mod zero c m = refl
word-mod (suc w) c m =
    let e : m + c * 2 ^ suc w ≡ m + (c * 2) * 2 ^ w = ap (λ k. m + c * k) (pow-suc 2 w) ∙ omega arith in
    let head : (m + (c * 2) * 2 ^ w) / 2 ^ w % 2 ≡ m / 2 ^ w % 2
    = ap (λ k. k % 2) (add-mul-div_right m (c * 2) (pow_pos w)) ∙ add-mul-mod_self_right (m / 2 ^ w) c 2 in
    ap (word (suc w)) e ∙ (λ i. head i ∷ word-mod w (c * 2) m i)

pub word-number : (b : List ℕ) → AreBits b → word (length b) (number_of b) ≡ b
word-number [] h = refl
word-number (x ∷ b) h =
    let lt : number_of b < 2 ^ length b = number_below b h.1 in
    let bit : x < 2 = h.0 in
    let head : (x * 2 ^ length b + number_of b) / 2 ^ length b % 2 ≡ x
    = ap (λ k. k % 2) (div-mul-add x (2 ^ length b) (number_of b) lt) ∙ mod-eq_of_lt bit in
    let e : x * 2 ^ length b + number_of b ≡ number_of b + x * 2 ^ length b = omega arith in
    let tail : word (length b) (x * 2 ^ length b + number_of b) ≡ b
    = ap (word (length b)) e ∙ word-mod (length b) x (number_of b) ∙ word-number b h.1 in
    λ i. head i ∷ tail i

-- octets as bits
pub bits-append : (xs ys : List ℕ) → bits (xs ++ ys) ≡ bits xs ++ bits ys
bits-append xs ys = flat_map-append (λ x. word 8 x) xs ys

pub length-bits : (xs : List ℕ) → length (bits xs) ≡ 8 * length xs
length-bits [] = refl
length-bits (x ∷ xs) = length-append (word 8 x) (bits xs) ∙ (let e : length (bits xs) ≡ 8 * length xs = length-bits xs in omega (arith, length-word 8 x))

pub append-AreBits : (a b : List ℕ) → AreBits a → AreBits b → AreBits (a ++ b)
append-AreBits [] b p q = q
append-AreBits (x ∷ a) b p q = (p.0, append-AreBits a b p.1 q)

pub bits-AreBits : (xs : List ℕ) → AreBits (bits xs)
bits-AreBits [] = tt
bits-AreBits (x ∷ xs) = append-AreBits (word 8 x) (bits xs) (word-AreBits 8 x) (bits-AreBits xs)
