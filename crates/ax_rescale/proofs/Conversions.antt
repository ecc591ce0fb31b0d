-- The converted number, from its size and its sign.
use Rattle.std.proofs.Common.{◌≡◌, ℕ, zero, suc, ◌-◌, ◌*◌, ◌^◌, ◌<◌, ◌≤◌, Bool, true, false, cond, sym, ◌∙◌, ap, subst, arith, ℤ, pos, negsuc, ◌-ℤ◌, lit<, if◌then◌else◌}
use Rattle.std.specs.Prelude.{◌*ℤ◌, nat_abs, nat_lt, Option, Some, None, IfNone}
use Rattle.std.proofs.lemmas.Bool.{lt-ltb}
use Rattle.std.proofs.Math.Nat.{pow-le-pow_right, eq_of_mul-eq-mul_right}
use Rattle.ax_format.specs.declared.content.Sign.{Sign}
use Rattle.ax_format.specs.declared.content.Sign.TheVariants.{Unsigned, Signed}
use Rattle.ax_format.specs.declared.content.Scale.{Scale}
use Rattle.ax_rescale.proofs.Products.{same_products, size_products, same_sign}
use Rattle.ax_format.specs.Signs.{by_sign}
use Rattle.ax_rescale.specs.Rescaled.{IsConverted, IsSpelled, with_sign_of}

pub some_of : (a b : ℕ) → 0 < a → 0 < b → 0 < a * b
some_of zero b p q = absurd (omega (arith, p))
some_of (suc a) b p q = omega (arith, q)

pub converted : (w : ℕ) (old : Scale) (n u : ℕ) (new : Scale) (z y : ℤ) (s m : ℕ) → 0 < old.num → 0 < new.den
    → z ≡ by_sign old.sign w n → s * (new.num * old.den) ≡ nat_abs z * (old.num * new.den) → y ≡ with_sign_of z s → IsSpelled new.sign u y m → IsConverted w old n u new m
converted w old n u new z y s m p q ez es ey h = record {
  fits = h.fits;
  same = ap (λ x. x *ℤ pos (new.num * old.den)) (h.means ∙ ey) ∙ same_products z s (old.num * new.den) (new.num * old.den) (some_of old.num new.den p q) es ∙ ap (λ x. x *ℤ pos (old.num * new.den)) ez;
}

-- the size of a converted number
size_of : (w : ℕ) (old : Scale) (n u : ℕ) (new : Scale) (z : ℤ) (m : ℕ) → z ≡ by_sign old.sign w n → IsConverted w old n u new m → nat_abs (by_sign new.sign u m) * (new.num * old.den) ≡ nat_abs z * (old.num * new.den)
size_of w old n u new z m ez h = size_products (by_sign new.sign u m) z (old.num * new.den) (new.num * old.den) (h.same ∙ ap (λ x. x *ℤ pos (old.num * new.den)) (sym ez))

wide : (u : ℕ) → u ≤ 64 → 2 ^ u ≤ 2 ^ 64
wide u le = pow-le-pow_right (lit< tt) {i = u} {j = 64} le

pub less : (a b : ℕ) → a < b → pos a -ℤ pos b ≡ negsuc (b - suc a)
less a zero lt = absurd (omega (arith, lt))
less a (suc b) lt = ap (λ t. cond t (negsuc (suc b - suc a)) (pos (a - suc b))) (lt-ltb a (suc b) lt)

either : (u m : ℕ) (t : Bool) → m < 2 ^ u → nat_abs (if t then pos m else (pos m -ℤ pos (2 ^ u))) ≤ 2 ^ u
either u m true lt = omega (arith, lt)
either u m false lt = subst (λ z. nat_abs z ≤ 2 ^ u) (sym (less m (2 ^ u) lt)) (omega (arith, lt))

pub least_bits : (sign : Sign) (u m : ℕ) → m < 2 ^ u → nat_abs (by_sign sign u m) ≤ 2 ^ u
least_bits Unsigned u m lt = omega (arith, lt)
least_bits Signed u m lt = either u m (nat_lt m (2 ^ (u - 1))) lt

-- no converted number is longer than 64 bits
short_size : (sign : Sign) (u m : ℕ) → u ≤ 64 → m < 2 ^ u → nat_abs (by_sign sign u m) ≤ 2 ^ 64
short_size sign u m le lt = let p = least_bits sign u m lt in let q = wide u le in omega (arith, p, q)

pub none_exact : (w : ℕ) (old : Scale) (n u : ℕ) (new : Scale) (z : ℤ) → u ≤ 64 → z ≡ by_sign old.sign w n
    → ((s : ℕ) → s < 2 ^ 128 → s * (new.num * old.den) ≡ nat_abs z * (old.num * new.den) → ⊥) → (m : ℕ) → IsConverted w old n u new m → ⊥
none_exact w old n u new z le ez never m h =
    let short = short_size new.sign u m le h.fits in
    never (nat_abs (by_sign new.sign u m)) (omega (arith, short)) (size_of w old n u new z m ez h)

-- the size is the one that was found
found_size : (w : ℕ) (old : Scale) (n u : ℕ) (new : Scale) (z : ℤ) (s m : ℕ) → 0 < new.num → 0 < old.den → z ≡ by_sign old.sign w n
    → s * (new.num * old.den) ≡ nat_abs z * (old.num * new.den) → IsConverted w old n u new m → nat_abs (by_sign new.sign u m) ≡ s
found_size w old n u new z s m p q ez es h =
    eq_of_mul-eq-mul_right (new.num * old.den) (some_of new.num old.den p q) (nat_abs (by_sign new.sign u m)) s (size_of w old n u new z m ez h ∙ sym es)

pub none_short : (w : ℕ) (old : Scale) (n u : ℕ) (new : Scale) (z : ℤ) (s : ℕ) → u ≤ 64 → 0 < new.num → 0 < old.den → z ≡ by_sign old.sign w n
    → s * (new.num * old.den) ≡ nat_abs z * (old.num * new.den) → 2 ^ 64 < s → (m : ℕ) → IsConverted w old n u new m → ⊥
none_short w old n u new z s le p q ez es long m h =
    let short = short_size new.sign u m le h.fits in
    let found = found_size w old n u new z s m p q ez es h in
    omega (arith, short, found, long)

pub none_spelled : (w : ℕ) (old : Scale) (n u : ℕ) (new : Scale) (z y : ℤ) (s : ℕ) → 0 < old.num → 0 < new.den → 0 < new.num → 0 < old.den → z ≡ by_sign old.sign w n
    → s * (new.num * old.den) ≡ nat_abs z * (old.num * new.den) → y ≡ with_sign_of z s → ((m : ℕ) → IsSpelled new.sign u y m → ⊥) → (m : ℕ) → IsConverted w old n u new m → ⊥
none_spelled w old n u new z y s a b p q ez es ey never m h =
    let x : ℤ = by_sign new.sign u m in
    let sign : x ≡ with_sign_of z (nat_abs x) = same_sign x z (old.num * new.den) (new.num * old.den) (some_of old.num new.den a b) (some_of new.num old.den p q) (h.same ∙ ap (λ k. k *ℤ pos (old.num * new.den)) (sym ez)) in
    never m (record { fits = h.fits; means = sign ∙ ap (with_sign_of z) (found_size w old n u new z s m p q ez es h) ∙ sym ey })

pub none_where : (found : Option ℕ) (P Q : Type 0) → (P → Q) → IfNone found P → IfNone found Q
none_where None P Q f h = f h
none_where (Some m) P Q f h = h

pub ruleset conversions = (converted, none_exact, none_short, none_spelled)
