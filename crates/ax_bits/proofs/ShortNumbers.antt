-- Numbers that a few octets spell, and those of some of their bits.
use Rattle.std.proofs.Common.{◌≡◌, ℕ, ◌+◌, ◌-◌, ◌*◌, ◌/◌, ◌%◌, ◌^◌, ◌<◌, ◌≤◌, List, [], ◌∷◌, ◌++◌, length-drop, length, take, drop, get_or, refl, sym, ◌∙◌, ap, arith, subst, bit_and, bit_or, lit<}
use Rattle.std.proofs.lemmas.List.{get_or-drop, drop-drop, take-take, take_at, drop_at, take_all, drop-take}
use Rattle.std.proofs.lemmas.Nat.{one_shl, and_mask, or_shifted, shl_below}
use Rattle.std.proofs.Math.Nat.{mod-eq_of_lt, pow-le-pow_right}
use Rattle.ax_bits.proofs.Pieces.{word-split, word-low, word-joined, take-bits, drop-bits, bits_more}
use Rattle.ax_bits.proofs.Steps.{joined_below}
use Rattle.ax_bits.proofs.Words.{length-word}
use Rattle.ax_bits.specs.Bits.{word, bits}
use Rattle.std.specs.Int.{w64, from_be_bytes}

abbrev AreBytes : List ℕ → Type 0
AreBytes octets = (i : ℕ) → get_or octets i 0 < 256

pub mask_wide : (n k : ℕ) → k ≤ 56 → bit_and n (1 * 2 ^ k % 2 ^ 64 - 1) ≡ n % 2 ^ k
mask_wide n k h =
    let lt : k < 64 = omega arith in
    ap (λ m. bit_and n (m - 1)) (one_shl k 64 lt) ∙ and_mask n k

-- one more octet
pub octet_joined : (n k x : ℕ) → n < 2 ^ (8 * k) → k < 8 → x < 256 → bit_or (n * 2 ^ 8 % 2 ^ 64) x ≡ n * 2 ^ 8 + x
octet_joined n k x h lt b =
    let a : n * 2 ^ 8 < 2 ^ (8 * k + 8) = shl_below n (8 * k) 8 h in
    let c : 2 ^ (8 * k + 8) ≤ 2 ^ 64 = pow-le-pow_right (lit< tt) (let e : 8 * k + 8 ≤ 64 = omega arith in e) in
    let d : n * 2 ^ 8 < 2 ^ 64 = omega arith in
    ap (λ m. bit_or m x) (mod-eq_of_lt d) ∙ or_shifted n 8 x b

-- the first k octets are joined
pub record IsJoined (octets : List ℕ) (k n : ℕ) : Type 0 where
  pub number : word (8 * k) n ≡ bits (take k octets)
  pub below : n < 2 ^ (8 * k)

pub joined_none : (octets : List ℕ) → IsJoined octets 0 0
joined_none octets = record { number = refl; below = omega arith }

pub joined_more : (octets : List ℕ) (k n x : ℕ) → IsJoined octets k n → k < length octets → length octets ≤ 8 → x ≡ get_or octets k 0 → x < 256 → IsJoined octets (k + 1) (bit_or (n * 2 ^ 8 % 2 ^ 64) x)
joined_more octets k n x h lt few is b =
    let e : bit_or (n * 2 ^ 8 % 2 ^ 64) x ≡ n * 2 ^ 8 + x = octet_joined n k x h.below (omega arith) b in
    let w : 8 * (k + 1) ≡ 8 * k + 8 = omega arith in record {
      number = (λ i. word (w i) (e i)) ∙ word-joined (8 * k) 8 n x b ∙ (λ i. h.number i ++ word 8 (is i)) ∙ sym (bits_more octets k lt);
      below = subst (λ m. m < 2 ^ (8 * (k + 1))) (sym e) (subst (λ j. n * 2 ^ 8 + x < 2 ^ j) (sym w) (joined_below (8 * k) 8 n x h.below b));
    }

pub joined_all : (octets : List ℕ) (k n : ℕ) → IsJoined octets k n → length octets ≤ k → k ≤ length octets → (word (8 * length octets) n ≡ bits octets) × (n < 2 ^ (8 * length octets))
joined_all octets k n h a b =
    let e : k ≡ length octets = omega arith in
    (ap (λ m. word (8 * m) n) (sym e) ∙ h.number ∙ ap bits (take_all k octets a), subst (λ m. n < 2 ^ (8 * m)) e h.below)

pub ruleset joins = (joined_none, mask_wide)

-- the number of the first k octets, and of one more
joined_next : (octets : List ℕ) (k n x : ℕ) → word (8 * k) n ≡ bits (take k octets) → k < length octets → x ≡ get_or octets k 0 → x < 256 → word (8 * (k + 1)) (n * 256 + x) ≡ bits (take (k + 1) octets)
joined_next octets k n x h lt is b =
    let w : 8 * (k + 1) ≡ 8 * k + 8 = omega arith in
    ap (λ w. word w (n * 256 + x)) w ∙ word-joined (8 * k) 8 n x b ∙ (λ i. h i ++ word 8 (is i)) ∙ sym (bits_more octets k lt)

-- the w bits of a number of k octets that stand after o others and before r
pub across : (body : List ℕ) (at w o r k n : ℕ) → 8 * k ≡ o + w + r → o ≡ at % 8 → word (8 * k) n ≡ bits (take k (drop (at / 8) body)) → word w (n / 2 ^ r % 2 ^ w) ≡ take w (drop at (bits body))
across body at w o r k n e p h =
    let m = n / 2 ^ r in
    let front : word (o + w) m ≡ word o (m / 2 ^ w) ++ word w m = word-split o w m in
    let whole : word (o + w + r) n ≡ word (o + w) m ++ word r n = word-split (o + w) r n in
    let held : bits (take k (drop (at / 8) body)) ≡ take (o + w + r) (drop (8 * (at / 8)) (bits body))
    = sym (take-bits k (drop (at / 8) body)) ∙ (λ i. take (e i) (sym (drop-bits (at / 8) body) i)) in
    let both : word (o + w) m ++ word r n ≡ take (o + w + r) (drop (8 * (at / 8)) (bits body)) = sym whole ∙ ap (λ j. word j n) (sym e) ∙ h ∙ held in
    let cut : word (o + w) m ≡ take (o + w) (drop (8 * (at / 8)) (bits body))
    = sym (take_at (word (o + w) m) (word r n) (o + w) (length-word (o + w) m)) ∙ ap (take (o + w)) both ∙ take-take (o + w) (o + w + r) (drop (8 * (at / 8)) (bits body)) (omega arith) in
    word-low w m ∙ sym (drop_at (word o (m / 2 ^ w)) (word w m) o (length-word o (m / 2 ^ w))) ∙ ap (drop o) (sym front ∙ cut)
    ∙ drop-take o w (drop (8 * (at / 8)) (bits body)) ∙ ap (take w) (drop-drop o (8 * (at / 8)) (bits body)) ∙ ap (λ j. take w (drop j (bits body))) (let q : 8 * (at / 8) + o ≡ at = omega arith in q)

-- the number of eight octets
eight : (octets : List ℕ) (n : ℕ) → 8 ≤ length octets → AreBytes octets → n ≡ from_be_bytes w64 (get_or octets 0 0 ∷ get_or octets 1 0 ∷ get_or octets 2 0 ∷ get_or octets 3 0 ∷ get_or octets 4 0 ∷ get_or octets 5 0 ∷ get_or octets 6 0 ∷ get_or octets 7 0 ∷ []) → word 64 n ≡ bits (take 8 octets)
eight octets n long bytes e =
    let b0 = get_or octets 0 0 in
    let b1 = get_or octets 1 0 in
    let b2 = get_or octets 2 0 in
    let b3 = get_or octets 3 0 in
    let b4 = get_or octets 4 0 in
    let b5 = get_or octets 5 0 in
    let b6 = get_or octets 6 0 in
    let b7 = get_or octets 7 0 in
    let n1 = 0 * 256 + b0 in
    let n2 = n1 * 256 + b1 in
    let n3 = n2 * 256 + b2 in
    let n4 = n3 * 256 + b3 in
    let n5 = n4 * 256 + b4 in
    let n6 = n5 * 256 + b5 in
    let n7 = n6 * 256 + b6 in
    let n8 = n7 * 256 + b7 in
    let h1 = joined_next octets 0 0 b0 refl (omega (arith, long)) refl (bytes 0) in
    let h2 = joined_next octets 1 n1 b1 h1 (omega (arith, long)) refl (bytes 1) in
    let h3 = joined_next octets 2 n2 b2 h2 (omega (arith, long)) refl (bytes 2) in
    let h4 = joined_next octets 3 n3 b3 h3 (omega (arith, long)) refl (bytes 3) in
    let h5 = joined_next octets 4 n4 b4 h4 (omega (arith, long)) refl (bytes 4) in
    let h6 = joined_next octets 5 n5 b5 h5 (omega (arith, long)) refl (bytes 5) in
    let h7 = joined_next octets 6 n6 b6 h6 (omega (arith, long)) refl (bytes 6) in
    let h8 = joined_next octets 7 n7 b7 h7 (omega (arith, long)) refl (bytes 7) in
    let same : n ≡ n8 = e ∙ omega arith in
    ap (word 64) same ∙ h8

-- the number of the w bits from bit `at` on, out of the eight octets in which they begin
pub taken : (body : List ℕ) (at w n : ℕ) → at / 8 + 8 ≤ length body → w ≤ 56 → AreBytes body
    → n ≡ from_be_bytes w64 (get_or body (at / 8) 0 ∷ get_or body (at / 8 + 1) 0 ∷ get_or body (at / 8 + 2) 0 ∷ get_or body (at / 8 + 3) 0 ∷ get_or body (at / 8 + 4) 0 ∷ get_or body (at / 8 + 5) 0 ∷ get_or body (at / 8 + 6) 0 ∷ get_or body (at / 8 + 7) 0 ∷ [])
    → word w (bit_and (n / 2 ^ (64 - at % 8 - w)) (1 * 2 ^ w % 2 ^ 64 - 1)) ≡ take w (drop at (bits body))
taken body at w n within narrow bytes e =
    ap (word w) (mask_wide (n / 2 ^ (64 - at % 8 - w)) w narrow)
    ∙ across body at w (at % 8) (64 - at % 8 - w) 8 n (omega arith) refl (eight (drop (at / 8) body) n (omega (arith, within, length-drop (at / 8) body)) bytes_there (e ∙ each))
  where
    bytes_there : AreBytes (drop (at / 8) body)
    bytes_there i = subst (λ x. x < 256) (sym (get_or-drop (at / 8) body i 0)) (bytes (at / 8 + i))

    each : from_be_bytes w64 (get_or body (at / 8) 0 ∷ get_or body (at / 8 + 1) 0 ∷ get_or body (at / 8 + 2) 0 ∷ get_or body (at / 8 + 3) 0 ∷ get_or body (at / 8 + 4) 0 ∷ get_or body (at / 8 + 5) 0 ∷ get_or body (at / 8 + 6) 0 ∷ get_or body (at / 8 + 7) 0 ∷ [])
        ≡ from_be_bytes w64 (get_or (drop (at / 8) body) 0 0 ∷ get_or (drop (at / 8) body) 1 0 ∷ get_or (drop (at / 8) body) 2 0 ∷ get_or (drop (at / 8) body) 3 0 ∷ get_or (drop (at / 8) body) 4 0 ∷ get_or (drop (at / 8) body) 5 0 ∷ get_or (drop (at / 8) body) 6 0 ∷ get_or (drop (at / 8) body) 7 0 ∷ [])
    each =
        let there : (i : ℕ) → get_or body (at / 8 + i) 0 ≡ get_or (drop (at / 8) body) i 0 = λ i. sym (get_or-drop (at / 8) body i 0) in
        λ j. from_be_bytes w64 ((ap (λ k. get_or body k 0) (let z : at / 8 ≡ at / 8 + 0 = omega arith in z) ∙ there 0) j ∷ there 1 j ∷ there 2 j ∷ there 3 j ∷ there 4 j ∷ there 5 j ∷ there 6 j ∷ there 7 j ∷ [])
