-- Greatest common divisors.
use Rattle.std.proofs.Common.{◌≡◌, ℕ, zero, suc, ◌%◌, ◌<◌, ◌≤◌, ◌==◌, Bool, true, false, ◌&&◌, cond, eq-eqb, refl, sym, subst, arith}
use Rattle.std.specs.Int.{IsGcd}
use Rattle.std.proofs.lemmas.Bool.{and_parts, and_from, eqb-true, eqb-false}
use Rattle.std.proofs.lemmas.Nat.Gcd.{IsGcd-from_zero, IsGcd-from_mod, le_from_IsGcd, le_of_dvd, dvd_of_mod-eq-zero, mod-eq-zero_of_dvd}
use Rattle.ax_text_form.specs.Remarks.{common_divisor}

-- the numbers have the divisors of those at the start
pub record KeepsDivisors (a b x y : ℕ) : Type 0 where
  pub back : (g : ℕ) → IsGcd x y g → IsGcd a b g

pub divisors_first : (a b : ℕ) → KeepsDivisors a b a b
divisors_first a b = record { back = λ g h. h }

pub divisors_next : (a b x y r : ℕ) → KeepsDivisors a b x y → r ≡ x % y → KeepsDivisors a b y r
divisors_next a b x y r h e = record { back = λ g k. h.back g (IsGcd-from_mod x y g (subst (λ n. IsGcd y n g) e k)) }

pub divisors_last : (a b x y : ℕ) → KeepsDivisors a b x y → y ≡ 0 → IsGcd a b x
divisors_last a b x y h e = h.back x (IsGcd-from_zero x y e)

pub ruleset divisors = (divisors_first, divisors_next, divisors_last)

-- ---- the greatest number that divides both

positive : (g b : ℕ) → 0 < b → b % g ≡ 0 → 0 < g
positive zero b some e = absurd (omega (arith, e))
positive (suc g) b some e = omega arith

pub some_divisor : (a b g : ℕ) → 0 < b → IsGcd a b g → 0 < g
some_divisor a b g some h = positive g b some (mod-eq-zero_of_dvd g h.1)

abbrev divides_both : ℕ → ℕ → ℕ → Bool
divides_both a b d = a % d == 0 && b % d == 0

divides : (a b g : ℕ) → IsGcd a b g → divides_both a b g ≡ true
divides a b g h = and_from _ _ (eq-eqb (a % g) 0 (mod-eq-zero_of_dvd g h.0)) (eq-eqb (b % g) 0 (mod-eq-zero_of_dvd g h.1))

no_greater : (a b g d : ℕ) → 0 < b → IsGcd a b g → divides_both a b d ≡ true → d ≤ g
no_greater a b g d some h e =
    let p = and_parts _ _ e in le_from_IsGcd a b g d h (some_divisor a b g some h) (dvd_of_mod-eq-zero d (eqb-true (a % d) 0 p.0)) (dvd_of_mod-eq-zero d (eqb-true (b % d) 0 p.1))

down_choice : (n a b g : ℕ) (t : Bool) → divides_both a b (suc n) ≡ t → 0 < b → IsGcd a b g → g ≤ suc n → (g ≤ n → common_divisor n a b ≡ g) → cond t (suc n) (common_divisor n a b) ≡ g
down_choice n a b g true e some h le next = let most = no_greater a b g (suc n) some h e in omega (arith, most, le)
down_choice n a b g false e some h le next = next (below (g == suc n) refl)
  where
    below : (t : Bool) → (g == suc n) ≡ t → g ≤ n
    below true f = let yes : divides_both a b (suc n) ≡ true = subst (λ d. divides_both a b d ≡ true) (eqb-true g (suc n) f) (divides a b g h) in absurd cc
    below false f = let no : g ≡ suc n → ⊥ = eqb-false g (suc n) f in omega (arith, le, no)

down : (n a b g : ℕ) → 0 < b → IsGcd a b g → g ≤ n → common_divisor n a b ≡ g
down zero a b g some h le = absurd (omega (arith, le, some_divisor a b g some h))
down (suc n) a b g some h le = down_choice n a b g (divides_both a b (suc n)) refl some h le (λ less. down n a b g some h less)

pub greatest_is : (a b g : ℕ) → 0 < b → IsGcd a b g → g ≡ common_divisor b a b
greatest_is a b g some h = sym (down b a b g some h (le_of_dvd some h.1))

-- the numerator was first made less than the denominator
pub greatest_less : (a b g : ℕ) → 0 < b → IsGcd b (a % b) g → g ≡ common_divisor b a b
greatest_less a b g some h = greatest_is a b g some (IsGcd-from_mod a b g h)

pub some_less : (a b g : ℕ) → 0 < b → IsGcd b (a % b) g → 0 < g
some_less a b g some h = some_divisor a b g some (IsGcd-from_mod a b g h)

pub ruleset greatest = (greatest_is, some_divisor, greatest_less, some_less)
