-- There is one converted number at most.
use Rattle.std.proofs.Common.{◌≡◌, ℕ, suc, ◌-◌, ◌*◌, ◌^◌, ◌<◌, Bool, true, false, sym, ◌∙◌, ap, arith, ℤ, pos, negsuc, ◌-ℤ◌, if◌then◌else◌}
use Rattle.std.specs.Prelude.{◌*ℤ◌, nat_abs, nat_lt}
use Rattle.std.proofs.Math.Nat.{eq_of_mul-eq-mul_right}
use Rattle.ax_format.specs.declared.content.Scale.{Scale}
use Rattle.ax_format.specs.declared.content.Sign.{Sign}
use Rattle.ax_format.specs.declared.content.Sign.TheVariants.{Unsigned, Signed}
use Rattle.ax_rescale.proofs.Conversions.{less, some_of}
use Rattle.ax_rescale.proofs.Products.{same_sign, size_products, with_own_sign}
use Rattle.ax_format.specs.Signs.{by_sign}
use Rattle.ax_rescale.specs.Rescaled.{IsConverted, with_sign_of}

-- products by one number are equal only where the factors are
one_factor : (x z : ℤ) (b : ℕ) → 0 < b → x *ℤ pos b ≡ z *ℤ pos b → x ≡ z
one_factor x z b some e =
    let size : nat_abs x ≡ nat_abs z = eq_of_mul-eq-mul_right b some (nat_abs x) (nat_abs z) (size_products x z b b e) in
    same_sign x z b b some some e ∙ ap (with_sign_of z) size ∙ with_own_sign z

never_both : (m n u : ℕ) → n < 2 ^ u → pos m ≡ pos n -ℤ pos (2 ^ u) → ⊥
never_both m n u lt e = let f : pos m ≡ negsuc (2 ^ u - suc n) = e ∙ less n (2 ^ u) lt in absurd cc

one_below : (m n u : ℕ) → m < 2 ^ u → n < 2 ^ u → pos m -ℤ pos (2 ^ u) ≡ pos n -ℤ pos (2 ^ u) → m ≡ n
one_below m n u lt mt e =
    let f : negsuc (2 ^ u - suc m) ≡ negsuc (2 ^ u - suc n) = sym (less m (2 ^ u) lt) ∙ e ∙ less n (2 ^ u) mt in
    let g : suc (2 ^ u - suc m) ≡ suc (2 ^ u - suc n) = ap nat_abs f in
    omega (arith, g, lt, mt)

one_way : (u m n : ℕ) (s t : Bool) → m < 2 ^ u → n < 2 ^ u → (if s then pos m else (pos m -ℤ pos (2 ^ u))) ≡ (if t then pos n else (pos n -ℤ pos (2 ^ u))) → m ≡ n
one_way u m n true true lt mt e = ap nat_abs e
one_way u m n true false lt mt e = absurd (never_both m n u mt e)
one_way u m n false true lt mt e = absurd (never_both n m u lt (sym e))
one_way u m n false false lt mt e = one_below m n u lt mt e

one_meaning : (sign : Sign) (u m n : ℕ) → m < 2 ^ u → n < 2 ^ u → by_sign sign u m ≡ by_sign sign u n → m ≡ n
one_meaning Unsigned u m n lt mt e = ap nat_abs e
one_meaning Signed u m n lt mt e = one_way u m n (nat_lt m (2 ^ (u - 1))) (nat_lt n (2 ^ (u - 1))) lt mt e

pub once : (old new : Scale) (w u n m other : ℕ) → 0 < new.num → 0 < old.den → IsConverted w old n u new m → IsConverted w old n u new other → m ≡ other
once old new w u n m other p q h k =
    one_meaning new.sign u m other h.fits k.fits (one_factor (by_sign new.sign u m) (by_sign new.sign u other) (new.num * old.den) (some_of new.num old.den p q) (h.same ∙ sym k.same))
