-- The greatest power of two that divides a number, and one that divides a power of two as well.
use Rattle.std.proofs.Common.{◌≡◌, ℕ, zero, suc, ◌+◌, ◌-◌, ◌*◌, ◌/◌, ◌%◌, ◌^◌, ◌<◌, ◌≤◌, ◌==◌, Bool, true, false, refl, sym, ◌∙◌, ap, subst, arith}
use Rattle.std.specs.Int.{◌∣◌, w64}
use Rattle.std.specs.Int.Count.{count_trailing_zeros}
use lib.Count.{under}
use Rattle.std.proofs.lemmas.Bool.{eqb-true, eqb-false}
use Rattle.std.proofs.lemmas.Nat.{trailing_le}
use Rattle.std.proofs.lemmas.Nat.Bits.{bit_at-trailing_zeros}
use Rattle.std.proofs.lemmas.Nat.Gcd.{dvd_refl}
use Rattle.std.proofs.Math.Nat.{dvd-mul_left_of_dvd, dvd-mul_right, dvd-add_iff_right, pow-succ', mul_assoc, mul_comm, mul-add, mul-one, div-div-eq-div-mul}
use Rattle.ax_text_form.specs.Remarks.{common_divisor}
use Rattle.ax_text_form.proofs.Divisors.{greatest_is}

-- ---- the twos of a number and what is left of it

even_count : (k n : ℕ) → n % 2 ≡ 0 → count_trailing_zeros (suc k) n ≡ suc (count_trailing_zeros k (n / 2))
unfolding count_trailing_zeros
even_count k n e = ap (λ r. under r (count_trailing_zeros k (n / 2))) e

odd_count : (k n : ℕ) → n % 2 ≡ 1 → count_trailing_zeros (suc k) n ≡ 0
unfolding count_trailing_zeros
odd_count k n e = ap (λ r. under r (count_trailing_zeros k (n / 2))) e

no_count : (n : ℕ) → count_trailing_zeros 0 n ≡ 0
unfolding count_trailing_zeros
no_count n = refl

-- of k digits, the c lowest are 0, and what stands above them is odd, where c is less than k
record Twos (k n c : ℕ) : Type 0 where
  pub whole : n ≡ 2 ^ c * (n / 2 ^ c)
  pub odd : c < k → n / 2 ^ c % 2 ≡ 1

none : (k n : ℕ) → (0 < k → n % 2 ≡ 1) → Twos k n 0
none k n h = record { whole = omega arith; odd = λ lt. let e = h lt in omega (arith, e) }

one_more : (k n c : ℕ) → n % 2 ≡ 0 → Twos k (n / 2) c → Twos (suc k) n (suc c)
one_more k n c e t =
    let rest : n / 2 / 2 ^ c ≡ n / 2 ^ suc c = div-div-eq-div-mul n 2 (2 ^ c) ∙ ap (λ p. n / p) (sym (pow-succ' 2 c)) in
    let twice : n ≡ 2 * (n / 2) = omega (arith, e) in record {
      whole = twice ∙ ap (λ x. 2 * x) t.whole ∙ sym (mul_assoc 2 (2 ^ c) (n / 2 / 2 ^ c)) ∙ (λ i. sym (pow-succ' 2 c) i * rest i);
      odd = λ lt. ap (λ x. x % 2) (sym rest) ∙ t.odd (omega (arith, lt));
    }

twos_next : (k n : ℕ) (t : Bool) → (n % 2 == 0) ≡ t → Twos k (n / 2) (count_trailing_zeros k (n / 2)) → Twos (suc k) n (count_trailing_zeros (suc k) n)
twos_next k n true e h = let even = eqb-true (n % 2) 0 e in subst (Twos (suc k) n) (sym (even_count k n even)) (one_more k n (count_trailing_zeros k (n / 2)) even h)
twos_next k n false e h =
    let other : n % 2 ≡ 0 → ⊥ = eqb-false (n % 2) 0 e in
    let odd : n % 2 ≡ 1 = omega (arith, other) in
    subst (Twos (suc k) n) (sym (odd_count k n odd)) (none (suc k) n (λ lt. odd))

twos : (k n : ℕ) → Twos k n (count_trailing_zeros k n)
twos zero n = subst (Twos 0 n) (sym (no_count n)) (none 0 n (λ lt. absurd (omega (arith, lt))))
twos (suc k) n = twos_next k n (n % 2 == 0) refl (twos k (n / 2))

-- ---- divisors

-- more twos
raised : (i t m d : ℕ) → d ∣ 2 ^ t * m → d ∣ 2 ^ (i + t) * m
raised zero t m d p = subst (λ n. d ∣ 2 ^ n * m) (let e : t ≡ 0 + t = omega arith in e) p
raised (suc i) t m d p =
    let e : suc (i + t) ≡ suc i + t = omega arith in
    subst (λ n. d ∣ 2 ^ n * m) e (subst (λ x. d ∣ x) (sym (ap (λ x. x * m) (pow-succ' 2 (i + t)) ∙ mul_assoc 2 (2 ^ (i + t)) m)) (dvd-mul_left_of_dvd d (raised i t m d p) 2))

-- what divides a power of two and an odd multiple of its half divides the half
one_down : (n m d : ℕ) → m % 2 ≡ 1 → d ∣ 2 ^ n * m → d ∣ 2 ^ suc n → d ∣ 2 ^ n
one_down n m d odd p q =
    let r = m / 2 in
    let is : m ≡ r * 2 + 1 = omega (arith, odd) in
    let moved : 2 ^ n * (r * 2) ≡ r * (2 * 2 ^ n) = sym (mul_assoc (2 ^ n) r 2) ∙ ap (λ x. x * 2) (mul_comm (2 ^ n) r) ∙ mul_assoc r (2 ^ n) 2 ∙ ap (λ x. r * x) (mul_comm (2 ^ n) 2) in
    let split : 2 ^ n * m ≡ r * 2 ^ suc n + 2 ^ n
    = ap (λ x. 2 ^ n * x) is ∙ mul-add (2 ^ n) (r * 2) 1 ∙ (λ i. moved i + mul-one (2 ^ n) i) ∙ ap (λ x. r * x + 2 ^ n) (sym (pow-succ' 2 n)) in
    (dvd-add_iff_right d (dvd-mul_left_of_dvd d q r)).1 (subst (λ x. d ∣ x) split p)

lowered : (i t m d : ℕ) → m % 2 ≡ 1 → d ∣ 2 ^ t * m → d ∣ 2 ^ (i + t) → d ∣ 2 ^ t
lowered zero t m d odd p q = subst (λ n. d ∣ 2 ^ n) (let e : 0 + t ≡ t = omega arith in e) q
lowered (suc i) t m d odd p q =
    let e : suc i + t ≡ suc (i + t) = omega arith in
    lowered i t m d odd p (one_down (i + t) m d odd (raised i t m d p) (subst (λ n. d ∣ 2 ^ n) e q))

-- ---- the greatest that divides both

module _ (a b : ℕ) (some : 0 < b) (one : b / 2 ^ count_trailing_zeros 64 b ≡ 1) where
  power : b ≡ 2 ^ count_trailing_zeros 64 b
  power = (twos 64 b).whole ∙ ap (λ x. 2 ^ count_trailing_zeros 64 b * x) one ∙ mul-one (2 ^ count_trailing_zeros 64 b)

  pub twos_of_second : count_trailing_zeros 64 b ≤ count_trailing_zeros 64 a → 2 ^ count_trailing_zeros 64 b ≡ common_divisor b a b
  twos_of_second le =
      let j = count_trailing_zeros 64 b in
      let u = count_trailing_zeros 64 a in
      let m = a / 2 ^ u in
      let e : u - j + j ≡ u = omega (arith, le) in
      greatest_is a b (2 ^ j) some (
        subst (λ x. 2 ^ j ∣ x) (ap (λ n. 2 ^ n * m) e ∙ sym (twos 64 a).whole) (raised (u - j) j m (2 ^ j) (dvd-mul_right (2 ^ j) m)),
        subst (λ x. 2 ^ j ∣ x) (sym power) (dvd_refl (2 ^ j)),
        λ d p q. subst (λ x. d ∣ x) power q,
      )

  pub twos_of_first : count_trailing_zeros 64 a < count_trailing_zeros 64 b → 2 ^ count_trailing_zeros 64 a ≡ common_divisor b a b
  twos_of_first lt =
      let j = count_trailing_zeros 64 b in
      let u = count_trailing_zeros 64 a in
      let m = a / 2 ^ u in
      let most = trailing_le 64 b in
      let e : j - u + u ≡ j = omega (arith, lt) in
      greatest_is a b (2 ^ u) some (
        subst (λ x. 2 ^ u ∣ x) (sym (twos 64 a).whole) (dvd-mul_right (2 ^ u) m),
        subst (λ x. 2 ^ u ∣ x) (mul-one (2 ^ (j - u + u)) ∙ ap (λ n. 2 ^ n) e ∙ sym power) (raised (j - u) u 1 (2 ^ u) (dvd-mul_right (2 ^ u) 1)),
        λ d p q. lowered (j - u) u m d ((twos 64 a).odd (omega (arith, lt, most))) (subst (λ x. d ∣ x) (twos 64 a).whole p) (subst (λ x. d ∣ x) (power ∙ ap (λ n. 2 ^ n) (sym e)) q),
      )

-- a number that is not 0 has fewer twos than bits
pub few_twos : (n : ℕ) → 0 < n → n < 2 ^ 64 → count_trailing_zeros 64 n < 64
few_twos n some lt = (bit_at-trailing_zeros w64 n some lt).0
