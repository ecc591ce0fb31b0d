-- The digits of numbers, and what was placed by other names of it.
use Rattle.std.proofs.Common.{◌≡◌, ℕ, zero, suc, ◌+◌, ◌-◌, ◌*◌, ◌/◌, ◌%◌, ◌<◌, ◌≤◌, ◌^◌, Bool, true, ◌&&◌, T, eqb, List, [], ◌∷◌, ◌++◌, get_or, decimal, refl, sym, ◌∙◌, ap, subst, inl, inr, arith, eq-zero-or-pos, eqb→eq, append_assoc}
use Rattle.std.proofs.lemmas.Bool.{cases_lt}
use Rattle.std.proofs.lemmas.Fmt.{decimal_digit, decimal_step}
use lib.Ieee.Fits.{and_l, and_r}
use Rattle.ax_octets.specs.Placed.{Placed, two_last, three_last}
use Rattle.ax_octets.specs.declared.digits.TheConstants.{PAIRS}
use Rattle.ax_octets.proofs.Places.{Placed-then}

-- ---- pairs of digits

abbrev are_pairs : ℕ → Bool
are_pairs zero = true
are_pairs (suc n) = (eqb (get_or PAIRS (2 * n) 0) (48 + n / 10) && eqb (get_or PAIRS (2 * n + 1) 0) (48 + n % 10)) && are_pairs n

pairs_below : (most n : ℕ) → T (are_pairs most) → n < most → (get_or PAIRS (2 * n) 0 ≡ 48 + n / 10) × (get_or PAIRS (2 * n + 1) 0 ≡ 48 + n % 10)
pairs_below zero n t h = absurd (omega arith)
pairs_below (suc most) n t h =
    elim (eq-zero-or-pos (most - n)) [
      | inl z ↦ let e : n ≡ most = omega arith in let a = and_l _ (are_pairs most) t in rw e (eqb→eq _ _ (and_l _ _ a), eqb→eq _ _ (and_r _ _ a))
      | inr g ↦ pairs_below most n (and_r _ (are_pairs most) t) (omega arith)
    ]

-- what stands in the table is the pair of the number
pub pair_at : (n : ℕ) → n < 100 → (get_or PAIRS (2 * n) 0 ≡ 48 + n / 10) × (get_or PAIRS (2 * n + 1) 0 ≡ 48 + n % 10)
pair_at n h = pairs_below 100 n tt h

-- ---- digits of numbers

two_digits : (n : ℕ) → 10 ≤ n → n < 100 → decimal n ≡ two_last n
two_digits n lo hi = rw (decimal_step n lo (omega arith), decimal_digit (n / 10) (omega arith)) refl

three_digits : (n : ℕ) → 100 ≤ n → n < 1000 → decimal n ≡ three_last n
three_digits n lo hi =
    let a : n / 10 / 10 ≡ n / 100 = omega arith in
    let b : n / 10 % 10 ≡ n % 100 / 10 = omega arith in
    let c : n % 10 ≡ n % 100 % 10 = omega arith in
    rw (decimal_step n (omega arith) (omega arith), decimal_step (n / 10) (omega arith) (omega arith), a, decimal_digit (n / 100) (omega arith), b, ← c) refl

by_thousands : (n : ℕ) → 1000 ≤ n → n < 2 ^ 64 → decimal n ≡ decimal (n / 1000) ++ three_last (n % 1000)
by_thousands n lo hi =
    let a : n / 10 / 10 / 10 ≡ n / 1000 = omega arith in
    let b : n / 10 / 10 % 10 ≡ n % 1000 / 100 = omega arith in
    let c : n / 10 % 10 ≡ n % 1000 % 100 / 10 = omega arith in
    let d : n % 10 ≡ n % 1000 % 100 % 10 = omega arith in
    decimal_step n (omega arith) hi ∙ ap (λ t. t ++ (48 + n % 10) ∷ []) (decimal_step (n / 10) (omega arith) (omega arith) ∙ ap (λ t. t ++ (48 + n / 10 % 10) ∷ []) (decimal_step (n / 10 / 10) (omega arith) (omega arith)))
    ∙ append_assoc (decimal (n / 10 / 10 / 10) ++ (48 + n / 10 / 10 % 10) ∷ []) ((48 + n / 10 % 10) ∷ []) ((48 + n % 10) ∷ [])
    ∙ append_assoc (decimal (n / 10 / 10 / 10)) ((48 + n / 10 / 10 % 10) ∷ []) ((48 + n / 10 % 10) ∷ (48 + n % 10) ∷ [])
    ∙ (λ i. decimal (a i) ++ (48 + b i) ∷ (48 + c i) ∷ (48 + d i) ∷ [])

-- what was placed is another name's list
placed_as : {a b xs ys : List ℕ} {i j : ℕ} → xs ≡ ys → Placed a b i xs j → Placed a b i ys j
placed_as {a} {b} {xs} {ys} {i} {j} e p = subst (λ xs. Placed a b i xs j) e p

pub one_placed : {a b : List ℕ} {i j : ℕ} (n : ℕ) → n < 10 → Placed a b i ((48 + n) ∷ []) j → Placed a b i (decimal n) j
one_placed n lt p = placed_as (sym (decimal_digit n lt)) p

pub pair_placed : {a b c : List ℕ} {i j k x y : ℕ} (n : ℕ) → x ≡ 48 + n / 10 → y ≡ 48 + n % 10 → Placed a b i (x ∷ []) j → Placed b c j (y ∷ []) k → Placed a c i (two_last n) k
pair_placed n e f p q = placed_as (λ i. e i ∷ f i ∷ []) (Placed-then p q)

-- a number of two or three digits: its hundreds, where there are any, and the pair of the others
pub hundreds_placed : {a b c : List ℕ} {i j k : ℕ} (n : ℕ) → 10 ≤ n → n < 1000 → (n < 100 → Placed a b i [] j) → (100 ≤ n → Placed a b i ((48 + n / 100) ∷ []) j)
    → Placed b c j (two_last (n % 100)) k → Placed a c i (decimal n) k
hundreds_placed n lo hi none some q =
    elim (cases_lt n 100) [
      | inl lt ↦ let e : n % 100 ≡ n = omega arith in placed_as (ap two_last e ∙ sym (two_digits n lo lt)) (Placed-then (none lt) q)
      | inr ge ↦ placed_as (sym (three_digits n ge hi)) (Placed-then (some ge) q)
    ]

pub thousands_placed : {a b c : List ℕ} {i j k : ℕ} (n : ℕ) → 1000 ≤ n → n < 2 ^ 64 → Placed a b i (decimal (n / 1000)) j → Placed b c j (three_last (n % 1000)) k → Placed a c i (decimal n) k
thousands_placed n lo hi p q = placed_as (sym (by_thousands n lo hi)) (Placed-then p q)
