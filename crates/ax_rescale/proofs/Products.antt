-- Products of numbers with a sign by numbers above 0.
use Rattle.std.proofs.Common.{◌≡◌, ℕ, zero, suc, ◌*◌, ◌<◌, refl, sym, ◌∙◌, ap, arith, ℤ, pos, negsuc}
use Rattle.std.specs.Prelude.{◌*ℤ◌, neg_ℤ, nat_abs}
use Rattle.std.proofs.lemmas.Int.{unsigned_abs-mul}
use Rattle.ax_rescale.specs.Rescaled.{with_sign_of}

abs_neg : (n : ℕ) → nat_abs (neg_ℤ (pos n)) ≡ n
abs_neg zero = refl
abs_neg (suc n) = refl

some_product : (n a : ℕ) → 0 < a → 0 < suc n * a
some_product n a some = omega (arith, some)

-- sizes with one sign, whose products by two numbers are equal
pub same_products : (z : ℤ) (s a b : ℕ) → 0 < a → s * b ≡ nat_abs z * a → with_sign_of z s *ℤ pos b ≡ z *ℤ pos a
same_products (pos n) s a b some e = ap pos e
same_products (negsuc n) zero a b some e = absurd (let more = some_product n a some in omega (arith, e, more))
same_products (negsuc n) (suc s) a b some e = ap (λ k. neg_ℤ (pos k)) e

-- products that are equal are of sizes whose products are
pub size_products : (x z : ℤ) (a b : ℕ) → x *ℤ pos b ≡ z *ℤ pos a → nat_abs x * b ≡ nat_abs z * a
size_products x z a b e = sym (unsigned_abs-mul x (pos b)) ∙ ap nat_abs e ∙ unsigned_abs-mul z (pos a)

not_both : (n m : ℕ) → 0 < m → pos n ≡ neg_ℤ (pos m) → ⊥
not_both n zero some e = omega (arith, some)
not_both n (suc m) some e = absurd cc

-- and one sign, but for 0
pub same_sign : (x z : ℤ) (a b : ℕ) → 0 < a → 0 < b → x *ℤ pos b ≡ z *ℤ pos a → x ≡ with_sign_of z (nat_abs x)
same_sign (pos m) (pos n) a b p q e = refl
same_sign (negsuc m) (negsuc n) a b p q e = refl
same_sign (pos m) (negsuc n) a b p q e = absurd (not_both (m * b) (suc n * a) (some_product n a p) e)
same_sign (negsuc m) (pos n) a b p q e = absurd (not_both (n * a) (suc m * b) (some_product m b q) (sym e))

pub with_own_sign : (z : ℤ) → with_sign_of z (nat_abs z) ≡ z
with_own_sign (pos n) = refl
with_own_sign (negsuc n) = refl
