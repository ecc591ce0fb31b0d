-- Parts of words, and of the bits of octets.
use Rattle.std.proofs.Common.{◌≡◌, ℕ, zero, suc, ◌+◌, ◌*◌, ◌/◌, ◌%◌, ◌^◌, ◌<◌, ◌≤◌, List, [], ◌∷◌, ◌++◌, length, take, drop, set, get_or, refl, sym, ◌∙◌, ap, arith, append_assoc, length-append, zero-add, add-one}
use Rattle.std.proofs.lemmas.Nat.{div-mul-add, shr-shr, shr_split, pow_pos, div_below, mod_below}
use Rattle.std.proofs.lemmas.List.{take_at, drop_at, drop-drop, take-append-drop, take_all, drop_all, length-take-le, set_split, drop_more, take_more}
use Rattle.std.proofs.Math.Seq.{take-append-add, drop-append-add}
use Rattle.std.proofs.Math.Nat.{mod-eq_of_lt, add_comm}
use Rattle.ax_bits.specs.Bits.{word, bits, number_of, AreOctets}
use Rattle.ax_bits.proofs.Words.{word-mod, length-word, length-bits, bits-append, twice}

-- a word of a + b bits is one of its upper a bits, then one of its lower b bits
pub word-split : (a b n : ℕ) → word (a + b) n ≡ word a (n / 2 ^ b) ++ word b n
word-split zero b n = ap (λ k. word k n) (zero-add b)
word-split (suc a) b n =
    let e : suc a + b ≡ suc (a + b) = omega arith in
    let h : n / 2 ^ (a + b) % 2 ≡ n / 2 ^ b / 2 ^ a % 2
    = ap (λ k. k % 2) (ap (λ k. n / 2 ^ k) (add_comm a b) ∙ sym (shr-shr n b a)) in
    ap (λ k. word k n) e ∙ (λ i. h i ∷ word-split a b n i)

-- the bits above a word's width don't count
pub word-low : (w n : ℕ) → word w (n % 2 ^ w) ≡ word w n
word-low w n =
    let e : n % 2 ^ w + n / 2 ^ w * 2 ^ w ≡ n = omega (arith, shr_split n w) in
    sym (word-mod w (n / 2 ^ w) (n % 2 ^ w)) ∙ ap (word w) e

-- two numbers joined by a shift spell their words one after the other
pub word-joined : (a b m n : ℕ) → n < 2 ^ b → word (a + b) (m * 2 ^ b + n) ≡ word a m ++ word b n
word-joined a b m n h =
    let e : m * 2 ^ b + n ≡ n + m * 2 ^ b = omega arith in
    let low : word b (m * 2 ^ b + n) ≡ word b n = ap (word b) e ∙ word-mod b m n in
    word-split a b (m * 2 ^ b + n) ∙ ap (λ k. word a k ++ word b (m * 2 ^ b + n)) (div-mul-add m (2 ^ b) n h) ∙ ap (λ k. word a m ++ k) low

-- a word spells its number
pub number-word : (w n : ℕ) → n < 2 ^ w → number_of (word w n) ≡ n
number-word zero n h = omega arith
number-word (suc w) n h =
    let high : n / 2 ^ w < 2 = div_below n (2 ^ w) 2 (pow_pos w) (omega (arith, twice w)) in
    let low : number_of (word w n) ≡ n % 2 ^ w
    = ap number_of (sym (word-low w n)) ∙ number-word w (n % 2 ^ w) (mod_below n (2 ^ w) (pow_pos w)) in
    let bit : n / 2 ^ w % 2 * 2 ^ length (word w n) ≡ n / 2 ^ w * 2 ^ w
    = ap (λ k. k * 2 ^ length (word w n)) (mod-eq_of_lt high) ∙ ap (λ k. n / 2 ^ w * 2 ^ k) (length-word w n) in
    omega (arith, shr_split n w)

-- two numbers of one width are one where their words are
pub word-injective : (w m n : ℕ) → m < 2 ^ w → n < 2 ^ w → word w m ≡ word w n → m ≡ n
word-injective w m n p q e = sym (number-word w m p) ∙ ap number_of e ∙ number-word w n q

-- whole octets in front
pub take-bits : (n : ℕ) (xs : List ℕ) → take (8 * n) (bits xs) ≡ bits (take n xs)
take-bits zero xs = refl
take-bits (suc n) [] = take_all (8 * suc n) [] (omega arith)
take-bits (suc n) (x ∷ xs) =
    let e : 8 * suc n ≡ length (word 8 x) + 8 * n = omega (arith, length-word 8 x) in
    ap (λ k. take k (word 8 x ++ bits xs)) e ∙ take-append-add (word 8 x) (bits xs) (8 * n) ∙ ap (λ k. word 8 x ++ k) (take-bits n xs)

pub drop-bits : (n : ℕ) (xs : List ℕ) → drop (8 * n) (bits xs) ≡ bits (drop n xs)
drop-bits zero xs = refl
drop-bits (suc n) [] = drop_all (8 * suc n) [] (omega arith)
drop-bits (suc n) (x ∷ xs) =
    let e : 8 * suc n ≡ length (word 8 x) + 8 * n = omega (arith, length-word 8 x) in
    ap (λ k. drop k (word 8 x ++ bits xs)) e ∙ drop-append-add (word 8 x) (bits xs) (8 * n) ∙ drop-bits n xs

-- an octet's upper 7 bits, and its last one
pub word-last : (n : ℕ) → word 8 n ≡ word 7 (n / 2) ++ n % 2 ∷ []
word-last n = word-split 7 1 n ∙ ap (λ k. word 7 (n / 2) ++ k % 2 ∷ []) (omega arith)

pub AreOctets-items : (xs : List ℕ) → ((i : ℕ) → get_or xs i 0 < 256) → AreOctets xs
AreOctets-items [] h = tt
AreOctets-items (x ∷ xs) h = (h 0, AreOctets-items xs (λ i. h (suc i)))

-- octets are told by their bits
pub bits-injective : (xs ys : List ℕ) → AreOctets xs → AreOctets ys → bits xs ≡ bits ys → xs ≡ ys
bits-injective [] [] p q e = refl
bits-injective [] (y ∷ ys) p q e = absurd (cc)
bits-injective (x ∷ xs) [] p q e = absurd (cc)
bits-injective (x ∷ xs) (y ∷ ys) p q e =
    let front : word 8 x ≡ word 8 y = sym (take_at (word 8 x) (bits xs) 8 refl) ∙ ap (take 8) e ∙ take_at (word 8 y) (bits ys) 8 refl in
    let head : x ≡ y = word-injective 8 x y p.0 q.0 front in
    let tail : xs ≡ ys = bits-injective xs ys p.1 q.1 (ap (drop 8) e) in
    λ i. head i ∷ tail i

-- a word of 8 bits in three parts
pub word-parts : (o c r n : ℕ) → o + c + r ≡ 8 → word 8 n ≡ word o (n / 2 ^ (c + r)) ++ (word c (n / 2 ^ r) ++ word r n)
word-parts o c r n e =
    let f : 8 ≡ o + (c + r) = omega arith in
    ap (λ k. word k n) f ∙ word-split o (c + r) n ∙ ap (λ k. word o (n / 2 ^ (c + r)) ++ k) (word-split c r n)

-- the octet i of a list, with those before it and those after it
pub bits-at : (xs : List ℕ) (i : ℕ) → i < length xs → bits xs ≡ bits (take i xs) ++ (word 8 (get_or xs i 0) ++ bits (drop (i + 1) xs))
bits-at xs i h =
    ap bits (sym (take-append-drop i xs)) ∙ bits-append (take i xs) (drop i xs)
    ∙ ap (λ k. bits (take i xs) ++ bits k) (drop_more xs i 0 h)

-- one more octet
pub bits_more : (xs : List ℕ) (i : ℕ) → i < length xs → bits (take (i + 1) xs) ≡ bits (take i xs) ++ word 8 (get_or xs i 0)
bits_more xs i h =
    ap bits (take_more xs i 0 h) ∙ bits-append (take i xs) (get_or xs i 0 ∷ [])

pub bits-set : (xs : List ℕ) (i y : ℕ) → i < length xs → bits (set xs i y) ≡ bits (take i xs) ++ (word 8 y ++ bits (drop (i + 1) xs))
bits-set xs i y h =
    ap bits (set_split xs i y h) ∙ bits-append (take i xs) (y ∷ drop (suc i) xs)
    ∙ ap (λ k. bits (take i xs) ++ (word 8 y ++ bits (drop k xs))) (sym (add-one i))

-- the bits in front of the last c + r bits of octet i, and its last r bits with those of the octets after it
abbrev pub front : List ℕ → ℕ → ℕ → ℕ → List ℕ
front xs i o w = bits (take i xs) ++ word o (get_or xs i 0 / 2 ^ w)

abbrev pub back : List ℕ → ℕ → ℕ → List ℕ
back xs i r = word r (get_or xs i 0) ++ bits (drop (i + 1) xs)

length-front : (xs : List ℕ) (i o w at : ℕ) → i < length xs → at ≡ 8 * i + o → length (front xs i o w) ≡ at
length-front xs i o w at h e =
    let n : i ≤ length xs = omega arith in
    let x = get_or xs i 0 / 2 ^ w in
    omega (arith, length-append (bits (take i xs)) (word o x), length-bits (take i xs), length-take-le i xs n, length-word o x)

-- octet i is three words; with its c bits in the middle replaced it is y
bits-around : (xs : List ℕ) (i o c r : ℕ) → i < length xs → o + c + r ≡ 8 →
    bits xs ≡ front xs i o (c + r) ++ (word c (get_or xs i 0 / 2 ^ r) ++ back xs i r)
bits-around xs i o c r h e =
    bits-at xs i h ∙ ap (λ k. bits (take i xs) ++ (k ++ bits (drop (i + 1) xs))) (word-parts o c r (get_or xs i 0) e) ∙ simp append_assoc

bits-replaced : (xs : List ℕ) (i o c r p y : ℕ) → i < length xs →
    word 8 y ≡ word o (get_or xs i 0 / 2 ^ (c + r)) ++ (word c p ++ word r (get_or xs i 0)) →
    bits (set xs i y) ≡ front xs i o (c + r) ++ (word c p ++ back xs i r)
bits-replaced xs i o c r p y h e =
    bits-set xs i y h ∙ ap (λ k. bits (take i xs) ++ (k ++ bits (drop (i + 1) xs))) e ∙ simp append_assoc

-- a list in three parts
middle : (all a m z : List ℕ) (at c : ℕ) → all ≡ a ++ (m ++ z) → length a ≡ at → length m ≡ c → take c (drop at all) ≡ m
middle all a m z at c e p q = ap (λ k. take c (drop at k)) e ∙ ap (take c) (drop_at a (m ++ z) at p) ∙ take_at m z c q

outside : (all a m z x : List ℕ) (at c : ℕ) → all ≡ a ++ (m ++ z) → length a ≡ at → length m ≡ c →
    a ++ (x ++ z) ≡ take at all ++ (x ++ drop (at + c) all)
outside all a m z x at c e p q =
    let f : take at all ≡ a = ap (take at) e ∙ take_at a (m ++ z) at p in
    let g : drop (at + c) all ≡ z
    = sym (drop-drop c at all) ∙ ap (λ k. drop c (drop at k)) e ∙ ap (drop c) (drop_at a (m ++ z) at p) ∙ drop_at m z c q in
    λ i. sym f i ++ (x ++ sym g i)

-- c bits from bit `at` on, which lie in octet i, after o of its bits and in front of r of them
pub piece_at : (xs : List ℕ) (at i o c r : ℕ) → at ≡ 8 * i + o → o + c + r ≡ 8 → i < length xs →
    take c (drop at (bits xs)) ≡ word c (get_or xs i 0 / 2 ^ r)
piece_at xs at i o c r e f h =
    let m = word c (get_or xs i 0 / 2 ^ r) in
    middle (bits xs) (front xs i o (c + r)) m (back xs i r) at c (bits-around xs i o c r h f) (length-front xs i o (c + r) at h e) (length-word c (get_or xs i 0 / 2 ^ r))

pub with_piece : (xs : List ℕ) (at i o c r p y : ℕ) → at ≡ 8 * i + o → o + c + r ≡ 8 → i < length xs →
    word 8 y ≡ word o (get_or xs i 0 / 2 ^ (c + r)) ++ (word c p ++ word r (get_or xs i 0)) →
    bits (set xs i y) ≡ take at (bits xs) ++ (word c p ++ drop (at + c) (bits xs))
with_piece xs at i o c r p y e f h g =
    let m = word c (get_or xs i 0 / 2 ^ r) in
    bits-replaced xs i o c r p y h g
    ∙ outside (bits xs) (front xs i o (c + r)) m (back xs i r) (word c p) at c (bits-around xs i o c r h f) (length-front xs i o (c + r) at h e) (length-word c (get_or xs i 0 / 2 ^ r))
