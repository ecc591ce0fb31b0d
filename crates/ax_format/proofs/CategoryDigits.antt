-- Categories in three digits.
use Rattle.std.proofs.Common.{◌≡◌, ℕ, ◌+◌, ◌*◌, ◌/◌, ◌%◌, ◌<◌, ◌⊎◌, inl, inr, [], ◌∷◌, arith}
use Rattle.ax_format.specs.Paths.{three_digits}

abbrev IsNoDigit : ℕ → Type 0
IsNoDigit x = (x < 48) ⊎ (57 < x)

first_is : (a b c x y z : ℕ) → a ∷ b ∷ c ∷ [] ≡ x ∷ y ∷ z ∷ [] → (a ≡ x) × (b ≡ y) × (c ≡ z)
first_is a b c x y z e = (cc, cc, cc)

no_digit : (x n : ℕ) → IsNoDigit x → x ≡ 48 + n → n < 10 → ⊥
no_digit x n (inl lt) e d = omega (arith, lt, e)
no_digit x n (inr lt) e d = omega (arith, lt, e, d)

pub no_hundreds : (a b c : ℕ) → IsNoDigit a → (n : ℕ) → n < 256 → a ∷ b ∷ c ∷ [] ≡ three_digits n → ⊥
no_hundreds a b c h n lt e = no_digit a (n / 100) h (first_is a b c _ _ _ e).0 (omega (arith, lt))

pub no_tens : (a b c : ℕ) → IsNoDigit b → (n : ℕ) → n < 256 → a ∷ b ∷ c ∷ [] ≡ three_digits n → ⊥
no_tens a b c h n lt e = no_digit b (n / 10 % 10) h (first_is a b c _ _ _ e).1 (omega arith)

pub no_ones : (a b c : ℕ) → IsNoDigit c → (n : ℕ) → n < 256 → a ∷ b ∷ c ∷ [] ≡ three_digits n → ⊥
no_ones a b c h n lt e = no_digit c (n % 10) h (first_is a b c _ _ _ e).2 (omega arith)

pub above : (a b c x y z : ℕ) → a ≡ 48 + x → b ≡ 48 + y → c ≡ 48 + z → y < 10 → z < 10 → 255 < 100 * x + 10 * y + z → (n : ℕ) → n < 256 → a ∷ b ∷ c ∷ [] ≡ three_digits n → ⊥
above a b c x y z p q r s t gt n lt e = let f = first_is a b c _ _ _ e in omega (arith, p, q, r, s, t, gt, lt, f)

pub category : (a b c x y z : ℕ) → a ≡ 48 + x → b ≡ 48 + y → c ≡ 48 + z → y < 10 → z < 10 → a ∷ b ∷ c ∷ [] ≡ three_digits (100 * x + 10 * y + z)
category a b c x y z p q r s t =
    let n = 100 * x + 10 * y + z in
    let f : a ≡ 48 + n / 100 = omega (arith, p, s, t) in
    let g : b ≡ 48 + n / 10 % 10 = omega (arith, q, s, t) in
    let h : c ≡ 48 + n % 10 = omega (arith, r, s, t) in
    (λ i. f i ∷ g i ∷ h i ∷ [])

pub ruleset digits = (no_hundreds, no_tens, no_ones, above, category)
