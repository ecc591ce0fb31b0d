-- What one more octet does to a number that is read, and to bits that are written.
use Rattle.std.proofs.Common.{◌≡◌, ℕ, ◌+◌, ◌-◌, ◌*◌, ◌/◌, ◌%◌, ◌^◌, ◌<◌, ◌≤◌, List, ◌++◌, length, take, drop, set, get_or, sym, ◌∙◌, ap, arith, append_assoc, length-append, bit_and, bit_or, lit<}
use Rattle.std.proofs.lemmas.Nat.{shr-shr, shl_below, mul-add-lt, pow-add, one_shl, and_mask, or_shifted, mod_below, pow_pos, shr_below}
use Rattle.std.proofs.lemmas.List.{take_at, drop_at, drop-drop, length-take-le}
use Rattle.std.proofs.Math.Nat.{mod-eq_of_lt, pow-le-pow_right}
use Rattle.std.proofs.Math.Seq.{take-add}
use Rattle.ax_bits.specs.Bits.{word, bits}
use Rattle.ax_bits.proofs.Pieces.{word-joined, word-split, word-low, piece_at, with_piece}
use Rattle.ax_bits.proofs.Words.{length-word}

pub one_bit : (k : ℕ) → k < 128 → 1 * 2 ^ k % 2 ^ 128 ≡ 2 ^ k
one_bit k h = one_shl k 128 h

pub bit_bound : (k : ℕ) → k < 128 → 2 ^ k ≤ 2 ^ 127
bit_bound k h = let e : k ≤ 127 = omega arith in pow-le-pow_right (lit< tt) e

-- what a mask of k ones leaves, and what a shift makes room for
pub mask_low : (n k : ℕ) → k ≤ 8 → bit_and n (1 * 2 ^ k % 2 ^ 128 - 1) ≡ n % 2 ^ k
mask_low n k h =
    let lt : k < 128 = omega arith in
    ap (λ m. bit_and n (m - 1)) (one_shl k 128 lt) ∙ and_mask n k

pub mask_octet : (n k : ℕ) → k ≤ 8 → bit_and n (1 * 2 ^ k % 2 ^ 32 - 1) ≡ n % 2 ^ k
mask_octet n k h =
    let lt : k < 32 = omega arith in
    ap (λ m. bit_and n (m - 1)) (one_shl k 32 lt) ∙ and_mask n k

pub make_room : (n k piece : ℕ) → n * 2 ^ k < 2 ^ 128 → piece < 2 ^ k → bit_or (n * 2 ^ k % 2 ^ 128) piece ≡ n * 2 ^ k + piece
make_room n k piece h p = ap (λ m. bit_or m piece) (mod-eq_of_lt h) ∙ or_shifted n k piece p

pub room_above : (n j k : ℕ) → n < 2 ^ j → j + k ≤ 128 → n * 2 ^ k < 2 ^ 128
room_above n j k h e =
    let a : n * 2 ^ k < 2 ^ (j + k) = shl_below n j k h in
    let b : 2 ^ (j + k) ≤ 2 ^ 128 = pow-le-pow_right (lit< tt) e in
    omega arith

-- a number of n bits and one of c bits
pub joined_below : (n c value piece : ℕ) → value < 2 ^ n → piece < 2 ^ c → value * 2 ^ c + piece < 2 ^ (n + c)
joined_below n c value piece h p = omega (arith, pow-add 2 n c, mul-add-lt value (2 ^ c) piece (2 ^ n) h p)

-- the next c bits, in one octet with r bits after them
pub next_piece : (xs : List ℕ) (from c r : ℕ) → from % 8 + c + r ≡ 8 → from / 8 < length xs →
    word c (get_or xs (from / 8) 0 / 2 ^ r % 2 ^ c) ≡ take c (drop from (bits xs))
next_piece xs from c r e h =
    let x = get_or xs (from / 8) 0 in
    word-low c (x / 2 ^ r) ∙ sym (piece_at xs from (from / 8) (from % 8) c r (omega arith) e h)

-- a number of n bits, and the next c bits
pub read_more : (all : List ℕ) (at n c value piece : ℕ) → piece < 2 ^ c → word n value ≡ take n (drop at all) → word c piece ≡ take c (drop (at + n) all) →
    word (n + c) (value * 2 ^ c + piece) ≡ take (n + c) (drop at all)
read_more all at n c value piece h e f =
    word-joined n c value piece h ∙ (λ i. e i ++ f i)
    ∙ ap (λ k. take n (drop at all) ++ take c k) (sym (drop-drop n at all)) ∙ sym (take-add n c (drop at all))

-- all with x from number `at` on
abbrev pub overwritten : List ℕ → ℕ → List ℕ → ℕ → List ℕ
overwritten all at x n = take at all ++ (x ++ drop (at + n) all)

pub overwrite_more : (all now later x y : List ℕ) (at n c : ℕ) → length x ≡ n → at ≤ length all →
    now ≡ overwritten all at x n → later ≡ overwritten now (at + n) y c → later ≡ overwritten all at (x ++ y) (n + c)
overwrite_more all now later x y at n c p h e f =
    let whole : now ≡ (take at all ++ x) ++ drop (at + n) all = e ∙ sym (append_assoc (take at all) x (drop (at + n) all)) in
    let k : length (take at all ++ x) ≡ at + n = omega (arith, length-append (take at all) x, length-take-le at all h) in
    let a : take (at + n) now ≡ take at all ++ x = ap (take (at + n)) whole ∙ take_at (take at all ++ x) (drop (at + n) all) (at + n) k in
    let b : drop (at + n) now ≡ drop (at + n) all = ap (drop (at + n)) whole ∙ drop_at (take at all ++ x) (drop (at + n) all) (at + n) k in
    let z : drop (at + n + c) now ≡ drop (at + (n + c)) all
    = sym (drop-drop c (at + n) now) ∙ ap (drop c) b ∙ drop-drop c (at + n) all ∙ ap (λ j. drop j all) (omega arith) in
    f ∙ (λ i. a i ++ (y ++ z i)) ∙ simp append_assoc

-- the upper bits of a number, and the next c of them
pub upper_more : (n c left value : ℕ) → word n (value / 2 ^ (left + c)) ++ word c (value / 2 ^ left % 2 ^ c) ≡ word (n + c) (value / 2 ^ left)
upper_more n c left value =
    let a : value / 2 ^ (left + c) ≡ value / 2 ^ left / 2 ^ c = sym (shr-shr value left c) in
    ap (λ k. word n k ++ word c (value / 2 ^ left % 2 ^ c)) a
    ∙ ap (λ k. word n (value / 2 ^ left / 2 ^ c) ++ k) (word-low c (value / 2 ^ left))
    ∙ sym (word-split n c (value / 2 ^ left))

-- an octet with p in place of its c bits above the b lowest
abbrev pub patched : ℕ → ℕ → ℕ → ℕ → ℕ
patched x b c p = x / 2 ^ (c + b) * 2 ^ (c + b) + (p * 2 ^ b + x % 2 ^ b)

low_part_below : (x b c p : ℕ) → p < 2 ^ c → p * 2 ^ b + x % 2 ^ b < 2 ^ (c + b)
low_part_below x b c p h = omega (arith, pow-add 2 c b, mul-add-lt p (2 ^ b) (x % 2 ^ b) (2 ^ c) h (mod_below x (2 ^ b) (pow_pos b)))

pub patched_below : (x b c p : ℕ) → x < 256 → p < 2 ^ c → b + c ≤ 8 → patched x b c p < 256
patched_below x b c p h g e =
    let k = 8 - (c + b) in
    let whole : k + (c + b) ≡ 8 = omega arith in
    let size : 2 ^ k * 2 ^ (c + b) ≡ 256 = sym (pow-add 2 k (c + b)) ∙ ap (λ j. 2 ^ j) whole in
    let q : x / 2 ^ (c + b) < 2 ^ k = shr_below x k (c + b) (rw whole h) in
    omega (arith, mul-add-lt (x / 2 ^ (c + b)) (2 ^ (c + b)) (p * 2 ^ b + x % 2 ^ b) (2 ^ k) q (low_part_below x b c p g))

pub patched_by_shifts : (x b c p : ℕ) → x < 256 → p < 2 ^ c → b + c ≤ 8 →
    x / 2 ^ (c + b) * 2 ^ (c + b) % 2 ^ 32 + p * 2 ^ b % 2 ^ 32 + bit_and x (1 * 2 ^ b % 2 ^ 32 - 1) ≡ patched x b c p
patched_by_shifts x b c p h g e =
    let all : patched x b c p < 256 = patched_below x b c p h g e in
    let high : x / 2 ^ (c + b) * 2 ^ (c + b) % 2 ^ 32 ≡ x / 2 ^ (c + b) * 2 ^ (c + b) = mod-eq_of_lt (omega arith) in
    let mid : p * 2 ^ b % 2 ^ 32 ≡ p * 2 ^ b = mod-eq_of_lt (omega arith) in
    let low : bit_and x (1 * 2 ^ b % 2 ^ 32 - 1) ≡ x % 2 ^ b = mask_octet x b (omega arith) in
    omega arith

pub patched_fits : (x b c p : ℕ) → x < 256 → p < 2 ^ c → b + c ≤ 8 →
    x / 2 ^ (c + b) * 2 ^ (c + b) % 2 ^ 32 + p * 2 ^ b % 2 ^ 32 + bit_and x (1 * 2 ^ b % 2 ^ 32 - 1) < 256
patched_fits x b c p h g e = rw (patched_by_shifts x b c p h g e) (patched_below x b c p h g e)

pub ruleset patches = (patched_by_shifts, patched_fits)

pub word-patched : (x o c b p : ℕ) → p < 2 ^ c → o + c + b ≡ 8 → word 8 (patched x b c p) ≡ word o (x / 2 ^ (c + b)) ++ (word c p ++ word b x)
word-patched x o c b p h e =
    let f : 8 ≡ o + (c + b) = omega arith in
    ap (λ k. word k (patched x b c p)) f
    ∙ word-joined o (c + b) (x / 2 ^ (c + b)) (p * 2 ^ b + x % 2 ^ b) (low_part_below x b c p h)
    ∙ ap (λ k. word o (x / 2 ^ (c + b)) ++ k) (word-joined c b p (x % 2 ^ b) (mod_below x (2 ^ b) (pow_pos b)) ∙ ap (λ k. word c p ++ k) (word-low b x))

-- c bits written from bit `from` on, which lie in one octet with r bits after them
pub next_written : (xs : List ℕ) (from c r p : ℕ) → from % 8 + c + r ≡ 8 → from / 8 < length xs → p < 2 ^ c →
    bits (set xs (from / 8) (patched (get_or xs (from / 8) 0) r c p)) ≡ overwritten (bits xs) from (word c p) c
next_written xs from c r p e h g =
    let x = get_or xs (from / 8) 0 in
    with_piece xs from (from / 8) (from % 8) c r p (patched x r c p) (omega arith) e h (word-patched x (from % 8) c r p g e)

-- c more bits of a value, of which n are written and `left` follow
pub put_more : (all now : List ℕ) (at n c left r value : ℕ) →
    (at + n) % 8 + c + r ≡ 8 → (at + n) / 8 < length now → at ≤ length all →
    bits now ≡ overwritten all at (word n (value / 2 ^ (left + c))) n →
    bits (set now ((at + n) / 8) (patched (get_or now ((at + n) / 8) 0) r c (value / 2 ^ left % 2 ^ c))) ≡ overwritten all at (word (n + c) (value / 2 ^ left)) (n + c)
put_more all now at n c left r value e h g f =
    let piece = value / 2 ^ left % 2 ^ c in
    let later = set now ((at + n) / 8) (patched (get_or now ((at + n) / 8) 0) r c piece) in
    let below : piece < 2 ^ c = mod_below (value / 2 ^ left) (2 ^ c) (pow_pos c) in
    overwrite_more all (bits now) (bits later) (word n (value / 2 ^ (left + c))) (word c piece) at n c (length-word n (value / 2 ^ (left + c))) g f (next_written now (at + n) c r piece e h below)
    ∙ ap (λ k. overwritten all at k (n + c)) (upper_more n c left value)
