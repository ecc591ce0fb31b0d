-- The marks of 63 slots, read and changed in the bits of a number.
use Rattle.std.proofs.Common.{◌⊎◌, inl, inr, add-zero, ◌≡◌, ℕ, zero, suc, ◌+◌, ◌-◌, ◌*◌, ◌/◌, ◌%◌, ◌^◌, ◌<◌, ◌≤◌, ◌==◌, not, IsTrue, List, [], ◌∷◌, ◌++◌, length, take, drop, set, get_or, replicate, bit_and, bit_or, refl, sym, ◌∙◌, ap, arith, append_assoc, append-nil}
use Rattle.std.proofs.lemmas.Nat.{shl_whole, pow_below, or_lt, one_shl, and_mask, or_block, or_shifted, shr_split, shl_below, and_le_l, pow_pos, mod-pow-add, mod_below, div-mul-add, mod-mul-add, leading_top, div_below}
use Rattle.std.proofs.lemmas.List.{take_at, drop_at, get_or_at, set_at}
use Rattle.std.proofs.lemmas.Nat.Bits.{bit_at_and}
use Rattle.std.proofs.Math.Nat.{div-div-eq-div-mul, mod-eq_of_lt, pow-suc}
use Rattle.std.proofs.lemmas.Bool.{cases_lt, eq-eqb, ne_eqb, eqb-true}
use Rattle.std.proofs.Math.Pow.{pow_mono}
use lib.Count.{count_leading_zeros}
use Rattle.ax_bits.specs.Bits.{word}
use Rattle.ax_bits.proofs.Words.{length-word, twice}
use Rattle.ax_bits.proofs.Pieces.{word-split, word-joined, word-low}
use Rattle.ax_format.specs.Presence.{none_marked}
use Rattle.ax_fspec.specs.Marks.{half, seven, marks_in, common_marks, slots_from, slots_of}

pub length-half : (n : ℕ) → length (half n) ≡ 63
unfolding half
length-half n = length-word 63 n

-- ---- a word of p bits, one bit and r bits

word-bit : (p r n : ℕ) → word (p + suc r) n ≡ word p (n / 2 ^ suc r) ++ (n / 2 ^ r % 2) ∷ word r n
word-bit p r n = word-split p (suc r) n

word-with : (p r q l : ℕ) → l < 2 ^ r → word (p + suc r) (q * 2 ^ suc r + (2 ^ r + l)) ≡ word p q ++ 1 ∷ word r l
word-with p r q l h =
    let below : 2 ^ r + l < 2 ^ suc r = omega (arith, twice r) in
    let e : 2 ^ r + l ≡ 1 * 2 ^ r + l = omega arith in
    let bit : (2 ^ r + l) / 2 ^ r % 2 ≡ 1 = ap (λ k. k % 2) (ap (λ k. k / 2 ^ r) e ∙ div-mul-add 1 (2 ^ r) l h) in
    let low : word r (2 ^ r + l) ≡ word r l = sym (word-low r (2 ^ r + l)) ∙ ap (word r) (ap (λ k. k % 2 ^ r) e ∙ mod-mul-add 1 (2 ^ r) l h) in
    word-joined p (suc r) q (2 ^ r + l) below ∙ (λ i. word p q ++ bit i ∷ low i)

pub half-is : (w n : ℕ) → w ≡ 63 → half n ≡ word w n
unfolding half
half-is w n e = ap (λ k. word k n) (sym e)

-- ---- one mark

-- the bits after the mark at place p
following : (p : ℕ) → p < 63 → p + suc (62 - p) ≡ 63
following p h = omega arith

pub mark_at : (n p : ℕ) → p < 63 → get_or (half n) p 0 ≡ n / 2 ^ (62 - p) % 2
mark_at n p h =
    let r = 62 - p in
    ap (λ k. get_or k p 0) (half-is (p + suc r) n (following p h) ∙ word-bit p r n)
    ∙ get_or_at (word p (n / 2 ^ suc r)) (n / 2 ^ r % 2) (word r n) 0 p (length-word p (n / 2 ^ suc r))

or_zero : (x : ℕ) → bit_or x 0 ≡ x
or_zero x =
    let e : x ≡ x * 2 ^ 0 = omega arith in
    ap (λ k. bit_or k 0) e ∙ or_shifted x 0 0 (omega arith) ∙ omega arith

or_low_bit : (q b : ℕ) → b < 2 → bit_or (q * 2 ^ 1 + b) (0 * 2 ^ 1 + 1) ≡ q * 2 ^ 1 + 1
or_low_bit q zero h = or_block 1 q 0 0 1 (omega arith) (omega arith) ∙ ap (λ k. k * 2 ^ 1 + bit_or 0 1) (or_zero q)
or_low_bit q (suc zero) h = or_block 1 q 0 1 1 (omega arith) (omega arith) ∙ ap (λ k. k * 2 ^ 1 + bit_or 1 1) (or_zero q)
or_low_bit q (suc (suc b)) h = absurd (omega arith)

or_one : (x r : ℕ) → bit_or x (2 ^ r) ≡ x / 2 ^ suc r * 2 ^ suc r + (2 ^ r + x % 2 ^ r)
or_one x r =
    let up = x / 2 ^ r in
    let low = x % 2 ^ r in
    let halves : up ≡ up / 2 * 2 ^ 1 + up % 2 = omega arith in
    let split : x ≡ (up / 2 * 2 ^ 1 + up % 2) * 2 ^ r + low = sym (shr_split x r) ∙ ap (λ k. k * 2 ^ r + low) halves in
    let one : 2 ^ r ≡ (0 * 2 ^ 1 + 1) * 2 ^ r + 0 = omega arith in
    let both : bit_or x (2 ^ r) ≡ (up / 2 * 2 ^ 1 + 1) * 2 ^ r + low
    = (λ i. bit_or (split i) (one i)) ∙ or_block r (up / 2 * 2 ^ 1 + up % 2) (0 * 2 ^ 1 + 1) low 0 (mod_below x (2 ^ r) (pow_pos r)) (pow_pos r)
    ∙ (λ i. or_low_bit (up / 2) (up % 2) (omega arith) i * 2 ^ r + or_zero low i) in
    let upper : x / 2 ^ suc r ≡ up / 2 = ap (λ k. x / k) (pow-suc 2 r) ∙ sym (div-div-eq-div-mul x (2 ^ r) 2) in
    let doubled : x / 2 ^ suc r * 2 ^ suc r ≡ up / 2 * (2 ^ r * 2) = (λ i. upper i * pow-suc 2 r i) in
    omega arith

pub with_mark : (n p : ℕ) → p < 63 → half (bit_or n (2 ^ (62 - p))) ≡ set (half n) p 1
with_mark n p h =
    let r = 62 - p in
    let q = n / 2 ^ suc r in
    let l = n % 2 ^ r in
    half-is (p + suc r) (bit_or n (2 ^ r)) (following p h) ∙ ap (word (p + suc r)) (or_one n r)
    ∙ word-with p r q l (mod_below n (2 ^ r) (pow_pos r)) ∙ ap (λ k. word p q ++ 1 ∷ k) (word-low r n)
    ∙ sym (ap (λ k. set k p 1) (half-is (p + suc r) n (following p h) ∙ word-bit p r n) ∙ set_at (word p q) (n / 2 ^ r % 2) (word r n) 1 p (length-word p q))

-- ---- seven marks

pub seven_at : (n i : ℕ) → i < 9 → take 7 (drop (7 * i) (half n)) ≡ seven (n / 2 ^ (56 - 7 * i))
unfolding seven
seven_at n i h =
    let r = 56 - 7 * i in
    let q = n / 2 ^ (7 + r) in
    let e : 7 * i + (7 + r) ≡ 63 = omega arith in
    ap (λ k. take 7 (drop (7 * i) k)) (half-is (7 * i + (7 + r)) n e ∙ word-split (7 * i) (7 + r) n)
    ∙ ap (take 7) (drop_at (word (7 * i) q) (word (7 + r) n) (7 * i) (length-word (7 * i) q) ∙ word-split 7 r n)
    ∙ take_at (word 7 (n / 2 ^ r)) (word r n) 7 (length-word 7 (n / 2 ^ r))

-- the marks after those of octet i
pub after_the_seventh : (n i : ℕ) → i < 9 → drop (7 * i + 7) (half n) ≡ word (56 - 7 * i) n
after_the_seventh n i h =
    let r = 56 - 7 * i in
    let q = n / 2 ^ r in
    let e : 7 * i + 7 + r ≡ 63 = omega arith in
    ap (drop (7 * i + 7)) (half-is (7 * i + 7 + r) n e ∙ word-split (7 * i + 7) r n) ∙ drop_at (word (7 * i + 7) q) (word r n) (7 * i + 7) (length-word (7 * i + 7) q)

-- ---- no mark

none_marked-cons : (x w n m : ℕ) (xs : List ℕ) → x < 2 → m ≡ x * 2 ^ w + n → none_marked xs ≡ (n == 0) → none_marked (x ∷ xs) ≡ (m == 0)
none_marked-cons zero w n m xs h e f = f ∙ ap (λ k. k == 0) (let g : n ≡ m = omega arith in g)
none_marked-cons (suc x) w n m xs h e f =
    let lone : x ≡ 0 = omega arith in
    let full : m ≡ 2 ^ w + n = e ∙ ap (λ k. suc k * 2 ^ w + n) lone ∙ omega arith in
    sym (ne_eqb m 0 (λ z. absurd (omega (arith, pow_pos w))))

pub none_marked-word : (w n : ℕ) → none_marked (word w n) ≡ (n % 2 ^ w == 0)
none_marked-word zero n = sym (eq-eqb (n % 1) 0 (omega arith))
none_marked-word (suc w) n =
    let whole : n % 2 ^ suc w ≡ n / 2 ^ w % 2 * 2 ^ w + n % 2 ^ w
    = ap (λ k. n % 2 ^ k) (let e : suc w ≡ 1 + w = omega arith in e) ∙ mod-pow-add n 1 w in
    none_marked-cons (n / 2 ^ w % 2) w (n % 2 ^ w) (n % 2 ^ suc w) (word w n) (omega arith) whole (none_marked-word w n)

-- whether a mark stands after those of octet i
pub none_after_seven : (n i : ℕ) → i < 9 → none_marked (drop (7 * i + 7) (half n)) ≡ (bit_and n (2 ^ (56 - 7 * i) - 1) == 0)
none_after_seven n i h =
    let r = 56 - 7 * i in
    ap none_marked (after_the_seventh n i h) ∙ none_marked-word r n ∙ ap (λ k. k == 0) (sym (and_mask n r))

pub none_from_seven : (n i : ℕ) → i < 9 → none_marked (drop (7 * i) (half n)) ≡ (n % 2 ^ (63 - 7 * i) == 0)
none_from_seven n i h =
    let r = 63 - 7 * i in
    let q = n / 2 ^ r in
    let e : 7 * i + r ≡ 63 = omega arith in
    ap (λ k. none_marked (drop (7 * i) k)) (half-is (7 * i + r) n e ∙ word-split (7 * i) r n)
    ∙ ap none_marked (drop_at (word (7 * i) q) (word r n) (7 * i) (length-word (7 * i) q)) ∙ none_marked-word r n

pub none_half : (n : ℕ) → n < 2 ^ 63 → none_marked (half n) ≡ (n == 0)
none_half n h = ap none_marked (half-is 63 n refl) ∙ none_marked-word 63 n ∙ ap (λ k. k == 0) (mod-eq_of_lt h)

-- seven marks written where there were none, and none after them
pub with_seven : (n i m : ℕ) → i < 9 → m < 128 → IsTrue (none_marked (drop (7 * i) (half n))) →
    half (bit_or n (m * 2 ^ (56 - 7 * i))) ≡ take (7 * i) (half n) ++ (seven m ++ word (56 - 7 * i) 0)
unfolding seven
with_seven n i m h f none =
    let r = 56 - 7 * i in
    let q = n / 2 ^ (7 + r) in
    let e : 7 * i + (7 + r) ≡ 63 = omega arith in
    let w : 63 - 7 * i ≡ 7 + r = omega arith in
    let zero_low : n % 2 ^ (7 + r) ≡ 0
    = ap (λ k. n % 2 ^ k) (sym w) ∙ eqb-true (n % 2 ^ (63 - 7 * i)) 0 (sym (none_from_seven n i h) ∙ none) in
    let high : n ≡ q * 2 ^ (7 + r) = omega (arith, shr_split n (7 + r)) in
    let small : m * 2 ^ r < 2 ^ (7 + r) = shl_below m 7 r f in
    let joined : bit_or n (m * 2 ^ r) ≡ q * 2 ^ (7 + r) + m * 2 ^ r = ap (λ k. bit_or k (m * 2 ^ r)) high ∙ or_shifted q (7 + r) (m * 2 ^ r) small in
    let low : m * 2 ^ r ≡ m * 2 ^ r + 0 = omega arith in
    let front : word (7 * i) q ≡ take (7 * i) (half n)
    = sym (ap (take (7 * i)) (half-is (7 * i + (7 + r)) n e ∙ word-split (7 * i) (7 + r) n) ∙ take_at (word (7 * i) q) (word (7 + r) n) (7 * i) (length-word (7 * i) q)) in
    half-is (7 * i + (7 + r)) (bit_or n (m * 2 ^ r)) e ∙ ap (word (7 * i + (7 + r))) joined
    ∙ word-joined (7 * i) (7 + r) q (m * 2 ^ r) small
    ∙ (λ k. front k ++ (ap (word (7 + r)) low ∙ word-joined 7 r m 0 (pow_pos r)) k)

-- ---- the first mark

zero_above : (r l : ℕ) → l < 2 ^ r → l / 2 ^ r ≡ 0
zero_above r l h = let e : l / 2 ^ r < 1 = div_below l (2 ^ r) 1 (pow_pos r) (omega arith) in omega arith

pub zeros : (w : ℕ) → word w 0 ≡ replicate w 0
zeros zero = refl
zeros (suc w) = λ i. (zero_above w 0 (pow_pos w) i % 2) ∷ zeros w i

pub first_mark_at : (n p : ℕ) → p < 63 → 2 ^ (62 - p) ≤ n → n < 2 ^ (63 - p) →
    (half n ≡ replicate p 0 ++ 1 ∷ word (62 - p) n) × (half (n - 2 ^ (62 - p)) ≡ replicate p 0 ++ 0 ∷ word (62 - p) n)
first_mark_at n p h low high =
    let r = 62 - p in
    let l = n - 2 ^ r in
    let top : 63 - p ≡ suc r = omega arith in
    let double : 2 ^ (63 - p) ≡ 2 ^ r + 2 ^ r = ap (λ k. 2 ^ k) top ∙ twice r in
    let less : l < 2 ^ r = omega arith in
    let below : l < 2 ^ suc r = omega (arith, twice r) in
    let whole : n ≡ 0 * 2 ^ suc r + (2 ^ r + l) = omega arith in
    let same : n % 2 ^ r ≡ l = ap (λ k. k % 2 ^ r) (let e : n ≡ 1 * 2 ^ r + l = omega arith in e) ∙ mod-mul-add 1 (2 ^ r) l less in
    let rest : word r l ≡ word r n = ap (word r) (sym same) ∙ word-low r n in
    let lone : l ≡ 0 * 2 ^ suc r + l = omega arith in (
      half-is (p + suc r) n (following p h) ∙ ap (word (p + suc r)) whole ∙ word-with p r 0 l less ∙ (λ i. zeros p i ++ 1 ∷ rest i),
      half-is (p + suc r) l (following p h) ∙ ap (word (p + suc r)) lone ∙ word-joined p (suc r) 0 l below
          ∙ (λ i. zeros p i ++ (zero_above r l less i % 2) ∷ rest i),
    )

-- ---- the slots of marks

pub slots-zeros : (s p : ℕ) (x : List ℕ) → slots_from s (replicate p 0 ++ x) ≡ slots_from (s + p) x
slots-zeros s zero x = ap (λ k. slots_from k x) (sym (add-zero s))
slots-zeros s (suc p) x = slots-zeros (s + 1) p x ∙ ap (λ k. slots_from k x) (let e : s + 1 + p ≡ s + suc p = omega arith in e)

slots_at : (x y z : List ℕ) (s p : ℕ) → x ≡ replicate p 0 ++ 1 ∷ z → y ≡ replicate p 0 ++ 0 ∷ z → (b : List ℕ) → slots_from s (x ++ b) ≡ (s + p) ∷ slots_from s (y ++ b)
slots_at x y z s p e f b =
    let front : slots_from s (x ++ b) ≡ (s + p) ∷ slots_from (s + p + 1) (z ++ b)
    = ap (λ k. slots_from s (k ++ b)) e ∙ ap (slots_from s) (append_assoc (replicate p 0) (1 ∷ z) b) ∙ slots-zeros s p (1 ∷ (z ++ b)) in
    let rest : slots_from s (y ++ b) ≡ slots_from (s + p + 1) (z ++ b)
    = ap (λ k. slots_from s (k ++ b)) f ∙ ap (slots_from s) (append_assoc (replicate p 0) (0 ∷ z) b) ∙ slots-zeros s p (0 ∷ (z ++ b)) in
    front ∙ ap (λ k. (s + p) ∷ k) (sym rest)

-- the first slot of two halves, and the others
pub first_of_first : (a b p : ℕ) → p < 63 → 2 ^ (62 - p) ≤ a → a < 2 ^ (63 - p) → slots_of (marks_in a b) ≡ (1 + p) ∷ slots_of (marks_in (a - 2 ^ (62 - p)) b)
first_of_first a b p h low high =
    let split = first_mark_at a p h low high in
    slots_at (half a) (half (a - 2 ^ (62 - p))) (word (62 - p) a) 1 p split.0 split.1 (half b)

slots_of_zero : (s : ℕ) (b : List ℕ) → slots_from s (half 0 ++ b) ≡ slots_from (s + 63) b
slots_of_zero s b = ap (λ k. slots_from s (k ++ b)) (half-is 63 0 refl ∙ zeros 63) ∙ slots-zeros s 63 b

pub first_of_second : (b p : ℕ) → p < 63 → 2 ^ (62 - p) ≤ b → b < 2 ^ (63 - p) → slots_of (marks_in 0 b) ≡ (64 + p) ∷ slots_of (marks_in 0 (b - 2 ^ (62 - p)))
first_of_second b p h low high =
    let split = first_mark_at b p h low high in
    slots_of_zero 1 (half b)
    ∙ ap (slots_from 64) (sym (append-nil (half b)))
    ∙ slots_at (half b) (half (b - 2 ^ (62 - p))) (word (62 - p) b) 64 p split.0 split.1 []
    ∙ ap (λ k. (64 + p) ∷ slots_from 64 k) (append-nil (half (b - 2 ^ (62 - p))))
    ∙ ap (λ k. (64 + p) ∷ k) (sym (slots_of_zero 1 (half (b - 2 ^ (62 - p)))))

pub none_of_zero : slots_of (marks_in 0 0) ≡ []
none_of_zero = slots_of_zero 1 (half 0) ∙ ap (slots_from 64) (sym (append-nil (half 0))) ∙ slots_of_zero 64 []

-- ---- the marks of two words

shared_word : (w a b : ℕ) → word w (bit_and a b) ≡ common_marks (word w a) (word w b)
shared_word zero a b = refl
shared_word (suc w) a b = λ i. bit_at_and a b w i ∷ shared_word w a b i

pub shared_half : (a b : ℕ) → half (bit_and a b) ≡ common_marks (half a) (half b)
unfolding half
shared_half a b = shared_word 63 a b

pub shared_fits : (a b : ℕ) → a < 2 ^ 63 → bit_and a b < 2 ^ 63
shared_fits a b h = omega (arith, and_le_l a b)

pub ruleset sharing = (shared_half, shared_fits)

-- ---- what the code computes

pub bit_set : (n p : ℕ) → p < 63 → (bit_and (n / 2 ^ (62 - p)) 1 ≡ get_or (half n) p 0)
bit_set n p h = and_mask (n / 2 ^ (62 - p)) 1 ∙ sym (mark_at n p h)

pub shifted_one : (p : ℕ) → p < 63 → 1 * 2 ^ (62 - p) % 2 ^ 64 ≡ 2 ^ (62 - p)
shifted_one p h = let e : 62 - p < 64 = omega arith in one_shl (62 - p) 64 e

pub marked_by_shift : (n p : ℕ) → p < 63 → half (bit_or n (1 * 2 ^ (62 - p) % 2 ^ 64)) ≡ set (half n) p 1
marked_by_shift n p h = ap (λ k. half (bit_or n k)) (shifted_one p h) ∙ with_mark n p h

pub marked_below : (n p : ℕ) → p < 63 → n < 2 ^ 63 → bit_or n (1 * 2 ^ (62 - p) % 2 ^ 64) < 2 ^ 63
marked_below n p h f =
    let e : 62 - p < 63 = omega arith in
    let less : 2 ^ (62 - p) < 2 ^ 63 = pow_below (62 - p) 63 e in
    rw (shifted_one p h) (or_lt 63 n (2 ^ (62 - p)) f less)

pub taken_by_shift : (n p : ℕ) → p < 63 → n - 1 * 2 ^ (62 - p) % 2 ^ 64 ≡ n - 2 ^ (62 - p)
taken_by_shift n p h = ap (λ k. n - k) (shifted_one p h)

pub may_take : (n p : ℕ) → p < 63 → 2 ^ (62 - p) ≤ n → 1 * 2 ^ (62 - p) % 2 ^ 64 ≤ n
may_take n p h low = rw (shifted_one p h) low

pub ruleset places = (bit_set, marked_by_shift, marked_below, taken_by_shift, may_take)

seven-low : (n : ℕ) → seven (bit_and n 127) ≡ seven n
unfolding seven
seven-low n = ap (word 7) (and_mask n 7) ∙ word-low 7 n

pub seven_marks_read : (n i : ℕ) → i < 9 → seven (bit_and (n / 2 ^ (56 - 7 * i)) 127) ≡ take 7 (drop (7 * i) (half n))
seven_marks_read n i h = seven-low (n / 2 ^ (56 - 7 * i)) ∙ sym (seven_at n i h)

pub ruleset seven_read = (seven_marks_read)

shifted_seven : (m i : ℕ) → m < 128 → m * 2 ^ (56 - 7 * i) % 2 ^ 64 ≡ m * 2 ^ (56 - 7 * i)
shifted_seven m i h = let e : 7 + (56 - 7 * i) ≤ 64 = omega arith in shl_whole m 7 (56 - 7 * i) 64 h e

pub seven_marks_written : (n i m : ℕ) → i < 9 → m < 128 → IsTrue (none_marked (drop (7 * i) (half n))) →
    half (bit_or n (m * 2 ^ (56 - 7 * i) % 2 ^ 64)) ≡ take (7 * i) (half n) ++ (seven m ++ word (56 - 7 * i) 0)
seven_marks_written n i m h f none = ap (λ k. half (bit_or n k)) (shifted_seven m i f) ∙ with_seven n i m h f none

pub seven_marks_fit : (n i m : ℕ) → i < 9 → m < 128 → n < 2 ^ 63 → bit_or n (m * 2 ^ (56 - 7 * i) % 2 ^ 64) < 2 ^ 63
seven_marks_fit n i m h f g =
    let e : 7 + (56 - 7 * i) ≤ 63 = omega arith in
    let small : m * 2 ^ (56 - 7 * i) < 2 ^ 63 = omega (arith, shl_below m 7 (56 - 7 * i) f, pow_mono e) in
    rw (shifted_seven m i f) (or_lt 63 n (m * 2 ^ (56 - 7 * i)) g small)

pub ruleset seven_written = (seven_marks_written, seven_marks_fit)

pub marked_by_mask : (n i : ℕ) → i < 9 → not (bit_and n (1 * 2 ^ (56 - 7 * i) % 2 ^ 64 - 1) == 0) ≡ not (none_marked (drop (7 * i + 7) (half n)))
marked_by_mask n i h =
    let e : 56 - 7 * i < 64 = omega arith in
    ap (λ k. not (bit_and n (k - 1) == 0)) (one_shl (56 - 7 * i) 64 e) ∙ ap not (sym (none_after_seven n i h))

pub ruleset marked_following = (marked_by_mask)

record Leads (a z : ℕ) : Type 0 where
  some : 1 ≤ z
  low : 2 ^ (62 - (z - 1)) ≤ a
  high : a < 2 ^ (63 - (z - 1))

leads_by : (a z j : ℕ) → z + suc j ≡ 64 → 2 ^ j ≤ a → a < 2 ^ suc j → (j < 63) ⊎ (63 ≤ j) → a < 2 ^ 63 → Leads a z
leads_by a z j e low high (inl lt) h =
    let p : 62 - (z - 1) ≡ j = omega arith in
    let q : 63 - (z - 1) ≡ suc j = omega arith in
    record {
      some = omega arith;
      low = rw p low;
      high = rw q high;
    }
leads_by a z j e low high (inr ge) h = absurd (omega (arith, pow_mono ge))

leads : (a : ℕ) → 0 < a → a < 2 ^ 63 → Leads a (count_leading_zeros 64 a)
leads a some h =
    let fits : a < 2 ^ 64 = omega arith in
    let t = leading_top 64 a some fits in
    leads_by a (count_leading_zeros 64 a) t.0 t.1 t.2 t.3 (cases_lt t.0 63) h

pub lead_some : (a : ℕ) → 0 < a → a < 2 ^ 63 → 1 ≤ count_leading_zeros 64 a
lead_some a some h = (leads a some h).some

pub lead_low : (a : ℕ) → 0 < a → a < 2 ^ 63 → 2 ^ (62 - (count_leading_zeros 64 a - 1)) ≤ a
lead_low a some h = (leads a some h).low

pub lead_high : (a : ℕ) → 0 < a → a < 2 ^ 63 → a < 2 ^ (63 - (count_leading_zeros 64 a - 1))
lead_high a some h = (leads a some h).high

pub ruleset leading = (lead_some, lead_low, lead_high)
