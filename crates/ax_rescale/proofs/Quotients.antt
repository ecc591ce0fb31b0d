-- A quotient of two products without their common divisors.
use Rattle.std.proofs.Common.{◌≡◌, ℕ, zero, suc, ◌*◌, ◌/◌, ◌%◌, ◌^◌, ◌<◌, ◌≢◌, refl, sym, ◌∙◌, subst, arith}
use Rattle.std.specs.Int.{◌∣◌, IsGcd}
use Rattle.std.proofs.lemmas.Nat.Gcd.{mod-eq-zero_of_dvd, dvd_of_mod-eq-zero}
use Rattle.std.proofs.Math.Nat.{div-mul_cancel, dvd-mul_left, dvd_of_mul-dvd-mul_right, pos_of_dvd_of_pos, eq_of_mul-eq-mul_right}
use Rattle.ax_rescale.proofs.Divisors.{divides_multiple}

pub some_common : (a b g : ℕ) → 0 < b → IsGcd a b g → 0 < g
some_common a b g some h = pos_of_dvd_of_pos h.1 some

some_factor : (x y : ℕ) → 0 < x * y → 0 < x
some_factor zero y some = absurd (omega (arith, some))
some_factor (suc x) y some = omega arith

pub some_left : (a b g : ℕ) → 0 < b → IsGcd a b g → 0 < b / g
some_left a b g some h = some_factor (b / g) g (subst (λ n. 0 < n) (sym (div-mul_cancel g h.1)) some)

-- the whole quotient, times what is left of the factor
pub is_exact : (n a b g s : ℕ) → IsGcd a b g → n % (b / g) ≡ 0 → s ≡ n / (b / g) * (a / g) → s * b ≡ n * a
is_exact n a b g s h whole is =
    products n s (a / g) (b / g) (n / (b / g)) g a b (div-mul_cancel g h.0) (div-mul_cancel g h.1) (div-mul_cancel (b / g) (dvd_of_mod-eq-zero (b / g) whole)) is
  where
    products : (n s p q k g a b : ℕ) → p * g ≡ a → q * g ≡ b → k * q ≡ n → s ≡ k * p → s * b ≡ n * a
    products n s p q k g a b ea eb en es =
        (λ i. es i * sym eb i) ∙ turned k p q g ∙ (λ i. en i * ea i)
      where
        turned : (k p q g : ℕ) → k * p * (q * g) ≡ k * q * (p * g)
        turned k p q g = omega arith

-- where there is such a number, what is left of the divisor divides
pub not_exact : (n a b g s : ℕ) → 0 < b → IsGcd a b g → s * b ≡ n * a → n % (b / g) ≡ 0
not_exact n a b g s some h e =
    let at_a : b ∣ n * a = subst (λ m. b ∣ m) e (dvd-mul_left b s) in
    let at_g : b ∣ n * g = divides_multiple a b g b n h at_a (dvd-mul_left b n) in
    mod-eq-zero_of_dvd (b / g) (dvd_of_mul-dvd-mul_right {k = g} (b / g) {n = n} (some_common a b g some h) (subst (λ m. m ∣ n * g) (sym (div-mul_cancel g h.1)) at_g))

-- and it is that one
pub only_exact : (n a b g s : ℕ) → 0 < b → IsGcd a b g → s * b ≡ n * a → s ≡ n / (b / g) * (a / g)
only_exact n a b g s some h e =
    eq_of_mul-eq-mul_right b some s (n / (b / g) * (a / g)) (e ∙ sym (is_exact n a b g (n / (b / g) * (a / g)) h (not_exact n a b g s some h e) refl))

pub none_whole : (n a b g : ℕ) → 0 < b → IsGcd a b g → n % (b / g) ≢ 0 → (s : ℕ) → s < 2 ^ 128 → s * b ≡ n * a → ⊥
none_whole n a b g some h never s lt e = never (not_exact n a b g s some h e)

pub none_short : (n a b g : ℕ) → 0 < b → IsGcd a b g → (n / (b / g) * (a / g) < 2 ^ 128 → ⊥) → (s : ℕ) → s < 2 ^ 128 → s * b ≡ n * a → ⊥
none_short n a b g some h never s lt e = never (subst (λ m. m < 2 ^ 128) (only_exact n a b g s some h e) lt)

pub ruleset quotients = (some_common, some_left, is_exact, none_whole, none_short)
