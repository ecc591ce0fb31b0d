-- Greatest common divisors, and what divides the same multiple of both.
use Rattle.std.proofs.Common.{◌≡◌, ℕ, zero, suc, ◌+◌, ◌*◌, ◌/◌, ◌%◌, ◌≤◌, refl, sym, ap, subst, arith}
use Rattle.std.specs.Int.{◌∣◌, IsGcd}
use Rattle.std.proofs.lemmas.Nat.{div-add-mod', mod_below}
use Rattle.std.proofs.lemmas.Nat.Gcd.{IsGcd-from_zero, IsGcd-from_mod, same_from_IsGcd}
use Rattle.std.proofs.Math.Nat.{dvd-add_iff_right, dvd-mul_left_of_dvd}

-- the numbers have the divisors of those at the start
pub record KeepsDivisors (a b x y : ℕ) : Type 0 where
  pub back : (g : ℕ) → IsGcd x y g → IsGcd a b g

pub divisors_first : (a b : ℕ) → KeepsDivisors a b a b
divisors_first a b = record { back = λ g h. h }

pub divisors_next : (a b x y r : ℕ) → KeepsDivisors a b x y → r ≡ x % y → KeepsDivisors a b y r
divisors_next a b x y r h e = record { back = λ g k. h.back g (IsGcd-from_mod x y g (subst (λ n. IsGcd y n g) e k)) }

pub divisors_last : (a b x y : ℕ) → KeepsDivisors a b x y → y ≡ 0 → IsGcd a b x
divisors_last a b x y h e = h.back x (IsGcd-from_zero x y e)

pub ruleset divisors = (divisors_first, divisors_next, divisors_last)

-- ---- what divides c times each of two numbers divides c times their greatest common divisor

record Shares (a b : ℕ) : Type 0 where
  greatest : ℕ
  is : IsGcd a b greatest
  multiples : (k c : ℕ) → k ∣ c * a → k ∣ c * b → k ∣ c * greatest

rest_of : (k c a b : ℕ) → k ∣ c * a → k ∣ c * b → k ∣ c * (a % b)
rest_of k c a b p q =
    let scaled : c * (a / b * b + a % b) ≡ c * a = ap (λ n. c * n) (div-add-mod' a b) in
    let whole : a / b * (c * b) + c * (a % b) ≡ c * a = omega (arith, scaled) in
    (dvd-add_iff_right k (dvd-mul_left_of_dvd k q (a / b))).1 (subst (λ n. k ∣ n) (sym whole) p)

shares_zero : (a b : ℕ) → b ≡ 0 → Shares a b
shares_zero a b e = record { greatest = a; is = IsGcd-from_zero a b e; multiples = λ k c p q. p }

shares_next : (a b : ℕ) → Shares b (a % b) → Shares a b
shares_next a b s = record { greatest = s.greatest; is = IsGcd-from_mod a b s.greatest s.is; multiples = λ k c p q. s.multiples k c q (rest_of k c a b p q) }

shares : (n a b : ℕ) → b ≤ n → Shares a b
shares zero a b le = shares_zero a b (omega (arith, le))
shares (suc n) a zero le = shares_zero a zero refl
shares (suc n) a (suc b) le = shares_next a (suc b) (shares n (suc b) (a % suc b) (let less = mod_below a (suc b) (omega arith) in omega (arith, le, less)))

pub divides_multiple : (a b g k c : ℕ) → IsGcd a b g → k ∣ c * a → k ∣ c * b → k ∣ c * g
divides_multiple a b g k c h p q =
    let s = shares b a b (omega arith) in subst (λ n. k ∣ c * n) (same_from_IsGcd a b s.greatest g s.is h) (s.multiples k c p q)
