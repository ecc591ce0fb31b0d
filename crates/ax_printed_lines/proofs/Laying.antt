-- Bits that are laid, piece by piece.
use Rattle.std.proofs.Common.{◌≡◌, ℕ, suc, ◌+◌, ◌-◌, ◌*◌, ◌/◌, ◌%◌, ◌^◌, ◌<◌, ◌≤◌, List, [], ◌∷◌, ◌++◌, length, take, set, refl, sym, ◌∙◌, ap, subst, arith, append_assoc, append-nil, lit<, length-take-le}
use Rattle.std.proofs.lemmas.List.{take_more_set, take_at, take-take}
use Rattle.std.proofs.lemmas.Nat.{shl_below, shr_below, pow_pos, mul-mod_first}
use Rattle.std.proofs.Math.Seq.{take-append-add}
use Rattle.std.specs.Int.{w64, to_be_bytes, bytes_high_first, byte_at}
use Rattle.std.proofs.Math.Nat.{pow-le-pow_right, pow-suc, mul_assoc, mul_comm}
use Rattle.ax_bits.specs.Bits.{word, bits}
use Rattle.ax_bits.proofs.Pieces.{word-split, word-low, word-joined, take-bits}
use Rattle.ax_bits.proofs.Steps.{joined_below as below_joined}
use Rattle.ax_bits.proofs.Words.{bits-append, length-word}
use Rattle.ax_printed_lines.specs.Laid.{laid, Lays}
use Rattle.ax_printed_lines.specs.declared.laid.LaidBits.{LaidBits}

-- ---- bits after others

pub lays_none : (out : LaidBits) → Lays out out []
lays_none out = sym (append-nil (laid out))

pub lays_more : (old now new : LaidBits) (x y z : List ℕ) → z ≡ x ++ y → Lays old now x → Lays now new y → Lays old new z
lays_more old now new x y z e p q = q ∙ ap (λ k. k ++ y) p ∙ append_assoc (laid old) x y ∙ ap (λ k. laid old ++ k) (sym e)

-- ---- a value

pub joined_fits : (held value width before : ℕ) → held < 2 ^ before → before + width ≤ 63 → value < 2 ^ width → held * 2 ^ width + value < 2 ^ 64
joined_fits held value width before h few lt =
    let a : held * 2 ^ width < 2 ^ (before + width) = shl_below held before width h in
    let b : 2 ^ (before + width) ≤ 2 ^ 63 = pow-le-pow_right (lit< tt) few in
    let c : 2 ^ width ≤ 2 ^ 63 = pow-le-pow_right (lit< tt) (let e : width ≤ 63 = omega (arith, few) in e) in
    omega (arith, a, b, c, lt)

pub joined_below : (held value width before : ℕ) → held < 2 ^ before → value < 2 ^ width → held * 2 ^ width + value < 2 ^ (before + width)
joined_below held value width before h lt = below_joined before width held value h lt

-- one octet of a number of left bits, which has k bits after it
pub one_octet : (buffer before : List ℕ) (count left k number x : ℕ) → count < length buffer → left ≡ 8 + k → x ≡ number / 2 ^ k % 256 → bits (take count buffer) ++ word left number ≡ before → bits (take (count + 1) (set buffer count x)) ++ word k number ≡ before
one_octet buffer before count left k number x lt size is e =
    let octets : bits (take (count + 1) (set buffer count x)) ≡ bits (take count buffer) ++ word 8 x = ap bits (take_more_set buffer count x lt) ∙ bits-append (take count buffer) (x ∷ []) in
    let upper : word 8 x ≡ word 8 (number / 2 ^ k) = ap (word 8) is ∙ word-low 8 (number / 2 ^ k) in
    let whole : word left number ≡ word 8 x ++ word k number = ap (λ w. word w number) size ∙ word-split 8 k number ∙ ap (λ w. w ++ word k number) (sym upper) in
    ap (λ w. w ++ word k number) octets ∙ append_assoc (bits (take count buffer)) (word 8 x) (word k number) ∙ ap (λ w. bits (take count buffer) ++ w) (sym whole) ∙ e

-- what is laid once the value is held with the bits before it
pub value_laid : (front : List ℕ) (above width held value number : ℕ) → value < 2 ^ width → number ≡ held * 2 ^ width + value → front ++ word (above + width) number ≡ (front ++ word above held) ++ word width value
value_laid front above width held value number lt is =
    ap (λ n. front ++ word (above + width) n) is ∙ ap (λ w. front ++ w) (word-joined above width held value lt) ∙ sym (append_assoc front (word above held) (word width value))

-- what is laid stays, where the lowest bits alone are held
pub low_held : (back all : List ℕ) (left kept number : ℕ) → kept ≡ number % 2 ^ left → back ++ word left number ≡ all → back ++ word left kept ≡ all
low_held back all left kept number low e = ap (λ w. back ++ w) (ap (word left) low ∙ word-low left number) ∙ e

-- ---- a wide value

pub lower_part : (width value : ℕ) → 32 < width → word width value ≡ word (width - 32) (value / 2 ^ 32) ++ word 32 (value % 2 ^ 32)
lower_part width value lt =
    let size : width ≡ width - 32 + 32 = omega (arith, lt) in
    ap (λ w. word w value) size ∙ word-split (width - 32) 32 value ∙ ap (λ w. word (width - 32) (value / 2 ^ 32) ++ w) (sym (word-low 32 value))

pub zeros_in_front : (width value : ℕ) → 56 < width → value < 2 ^ 56 → word width value ≡ word (width - 56) 0 ++ word 56 value
zeros_in_front width value lt few =
    let size : width ≡ width - 56 + 56 = omega (arith, lt) in
    ap (λ w. word w value) size ∙ ap (word (width - 56 + 56)) (let z : value ≡ 0 * 2 ^ 56 + value = omega arith in z) ∙ word-joined (width - 56) 56 0 value few

pub upper_below : (width value : ℕ) → 32 < width → value < 2 ^ width → value / 2 ^ 32 < 2 ^ (width - 32)
upper_below width value lt few = shr_below value (width - 32) 32 (subst (λ w. value < 2 ^ w) (let e : width ≡ width - 32 + 32 = omega (arith, lt) in e) few)

-- ---- whole octets of a number that is stored at once

one_byte : (k n byte : ℕ) (lower : List ℕ) → byte ≡ n / 2 ^ (8 * k) % 256 → bits lower ≡ word (8 * k) n → bits (byte ∷ lower) ≡ word (8 * (k + 1)) n
one_byte k n byte lower is e =
    let size : 8 * (k + 1) ≡ 8 + 8 * k = omega arith in
    let upper : word 8 byte ≡ word 8 (n / 2 ^ (8 * k)) = ap (word 8) is ∙ word-low 8 (n / 2 ^ (8 * k)) in
    (λ i. upper i ++ e i) ∙ sym (ap (λ w. word w n) size ∙ word-split 8 (8 * k) n)

eight_bytes : (n : ℕ) → bits (to_be_bytes w64 n) ≡ word 64 n
eight_bytes n =
    let b0 = one_byte 0 n (byte_at 0 n) [] (omega arith) refl in
    let b1 = one_byte 1 n (byte_at 1 n) (bytes_high_first 1 n) refl b0 in
    let b2 = one_byte 2 n (byte_at 2 n) (bytes_high_first 2 n) refl b1 in
    let b3 = one_byte 3 n (byte_at 3 n) (bytes_high_first 3 n) refl b2 in
    let b4 = one_byte 4 n (byte_at 4 n) (bytes_high_first 4 n) refl b3 in
    let b5 = one_byte 5 n (byte_at 5 n) (bytes_high_first 5 n) refl b4 in
    let b6 = one_byte 6 n (byte_at 6 n) (bytes_high_first 6 n) refl b5 in
    one_byte 7 n (byte_at 7 n) (bytes_high_first 7 n) refl b6

-- the first octets of a number that is shifted up to the front of 64 bits
shifted_front : (width number stored : ℕ) → width < 64 → stored ≡ number * 2 ^ (64 - width) % 2 ^ 64 → bits (take (width / 8) (to_be_bytes w64 stored)) ++ word (width % 8) number ≡ word width number
shifted_front width number stored lt is =
    let q = width / 8 in
    let r = width % 8 in
    let low = 64 - width in
    let all : 64 ≡ width + low = omega (arith, lt) in
    let parts : width ≡ 8 * q + r = omega arith in
    let whole : word 64 stored ≡ word width number ++ word low 0 =
    ap (word 64) is ∙ word-low 64 (number * 2 ^ low) ∙ ap (λ w. word w (number * 2 ^ low)) all ∙ ap (word (width + low)) (let z : number * 2 ^ low ≡ number * 2 ^ low + 0 = omega arith in z) ∙ word-joined width low number 0 (pow_pos low) in
    let split : word width number ≡ word (8 * q) (number / 2 ^ r) ++ word r number = ap (λ w. word w number) parts ∙ word-split (8 * q) r number in
    let front : take (8 * q) (word 64 stored) ≡ word (8 * q) (number / 2 ^ r) =
    ap (take (8 * q)) (whole ∙ ap (λ k. k ++ word low 0) split ∙ append_assoc (word (8 * q) (number / 2 ^ r)) (word r number) (word low 0)) ∙ take_at (word (8 * q) (number / 2 ^ r)) (word r number ++ word low 0) (8 * q) (length-word (8 * q) (number / 2 ^ r)) in
    ap (λ k. k ++ word r number) (sym (take-bits q (to_be_bytes w64 stored)) ∙ ap (take (8 * q)) (eight_bytes stored) ∙ front) ∙ sym split

-- a shift after another by one bit
pub shifted_twice : (number width : ℕ) → width < 64 → number * 2 % 2 ^ 64 * 2 ^ (63 - width) % 2 ^ 64 ≡ number * 2 ^ (64 - width) % 2 ^ 64
shifted_twice number width lt =
    let size : 64 - width ≡ suc (63 - width) = omega (arith, lt) in
    let twice : number * 2 * 2 ^ (63 - width) ≡ number * 2 ^ (64 - width) = mul_assoc number 2 (2 ^ (63 - width)) ∙ ap (λ m. number * m) (mul_comm 2 (2 ^ (63 - width)) ∙ sym (pow-suc 2 (63 - width)) ∙ sym (ap (λ k. 2 ^ k) size)) in
    mul-mod_first (number * 2) (2 ^ (63 - width)) (2 ^ 64) ∙ ap (λ m. m % 2 ^ 64) twice

-- after a front
pub stored_after : (old new : List ℕ) (from width number stored : ℕ) → width < 64 → from ≤ length old → stored ≡ number * 2 ^ (64 - width) % 2 ^ 64 → take (from + 8) new ≡ take from old ++ to_be_bytes w64 stored
    → bits (take (from + width / 8) new) ++ word (width % 8) number ≡ bits (take from old) ++ word width number
stored_after old new from width number stored lt within is e =
    let q = width / 8 in
    let bytes = to_be_bytes w64 stored in
    let short : take (from + q) new ≡ take from old ++ take q bytes =
    sym (take-take (from + q) (from + 8) new (omega (arith, lt))) ∙ ap (take (from + q)) e ∙ ap (λ n. take (n + q) (take from old ++ bytes)) (sym (length-take-le from old within)) ∙ take-append-add (take from old) bytes q in
    ap (λ k. k ++ word (width % 8) number) (ap bits short ∙ bits-append (take from old) (take q bytes)) ∙ append_assoc (bits (take from old)) (bits (take q bytes)) (word (width % 8) number) ∙ ap (λ k. bits (take from old) ++ k) (shifted_front width number stored lt is)
