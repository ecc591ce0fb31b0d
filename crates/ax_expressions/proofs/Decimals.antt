-- Whole numbers in decimal.
use Rattle.std.proofs.Common.{◌≡◌, ℕ, suc, ◌^◌, ◌<◌, ◌≤◌, List, ◌∷◌, Ok, Err, sym, ◌∙◌, ap, subst, arith, lit<, ℤ, pos, negsuc}
use Rattle.std.specs.Prelude.{decimal, Result}
use Rattle.std.specs.Str.{IsUtf8}
use Rattle.std.specs.Str.Parse.{ParsesUnsigned, IsNumeral, digits_value}
use Rattle.std.proofs.lemmas.Fmt.{IsAscii-decimal_wide, parse-decimal_wide, decimal_is_IsNumeral_wide}
use Rattle.std.proofs.lemmas.Str.{IsUtf8-from_ascii}
use Rattle.ax_expressions.specs.Words.{int_text, IsInt, IsIntText}

wide : (n : ℕ) → n < 2 ^ 128 → n < 10 ^ 64
wide n lt = omega (arith, lt)

pub same_decimal : (n m : ℕ) → n < 10 ^ 64 → m < 10 ^ 64 → decimal n ≡ decimal m → n ≡ m
same_decimal n m a b e = sym (decimal_is_IsNumeral_wide n a).1 ∙ ap (digits_value 10) e ∙ (decimal_is_IsNumeral_wide m b).1

pub no_utf8 : (text : List ℕ) → (IsUtf8 text → ⊥) → (n : ℕ) → n < 2 ^ 128 → text ≡ decimal n → ⊥
no_utf8 text h n lt e = h (subst IsUtf8 (sym e) (IsUtf8-from_ascii (decimal n) (IsAscii-decimal_wide n (wide n lt))))

pub no_parse : {E : Type 0} (text written : List ℕ) (e : E) (r : Result ℕ E) → written ≡ text → r ≡ Err e → ParsesUnsigned 128 10 written r → (n : ℕ) → n < 2 ^ 128 → text ≡ decimal n → ⊥
no_parse text written e r same is p n lt h = let ok : r ≡ Ok n = parse-decimal_wide 128 n written r lt (wide n lt) (same ∙ h) p in absurd cc

pub other_text : {E : Type 0} (text written : List ℕ) (m : ℕ) (r : Result ℕ E) → written ≡ text → r ≡ Ok m → ParsesUnsigned 128 10 written r → (text ≡ decimal m → ⊥) → (n : ℕ) → n < 2 ^ 128 → text ≡ decimal n → ⊥
other_text text written m r same is p differs n lt h =
    let ok : r ≡ Ok n = parse-decimal_wide 128 n written r lt (wide n lt) (same ∙ h) p in
    let equal : m ≡ n = cc in differs (h ∙ ap decimal (sym equal))

pub ruleset numbers = no_utf8

-- ---- of at most 38 digits

pub no_size : (text : List ℕ) → ((n : ℕ) → n < 2 ^ 128 → text ≡ decimal n → ⊥) → (n : ℕ) → n < 10 ^ 38 → text ≡ decimal n → ⊥
no_size text none n lt e = none n (omega (arith, lt)) e

pub too_long : (text : List ℕ) (m : ℕ) → text ≡ decimal m → m < 2 ^ 128 → 10 ^ 38 ≤ m → (n : ℕ) → n < 10 ^ 38 → text ≡ decimal n → ⊥
too_long text m is small le n lt e = let same : m ≡ n = same_decimal m n (omega (arith, small)) (omega (arith, lt)) (sym is ∙ e) in omega (arith, same, le, lt)

pub ruleset sizes = (no_size, too_long)

-- ---- with a sign

rest : (a b : ℕ) (x y : List ℕ) → a ∷ x ≡ b ∷ y → x ≡ y
rest a b x y e = cc

-- a numeral doesn't begin with '-'
no_minus : (n : ℕ) (digits : List ℕ) → n < 10 ^ 64 → 45 ∷ digits ≡ decimal n → ⊥
no_minus n digits lt e = let d : IsNumeral 10 (45 ∷ digits) = subst (IsNumeral 10) (sym e) (decimal_is_IsNumeral_wide n lt).0 in omega (arith, d.1.0)

abbrev NoSize : List ℕ → Type 0
NoSize text = (n : ℕ) → n < 10 ^ 38 → text ≡ decimal n → ⊥

-- no digits after the minus
pub bare_minus : (digits : List ℕ) → NoSize digits → IsIntText (45 ∷ digits) → ⊥
bare_minus digits none (pos n, lt, e) = no_minus n digits (omega (arith, lt)) e
bare_minus digits none (negsuc n, lt, e) = none (suc n) lt (rest _ _ _ _ e)

pub minus_zero : (digits : List ℕ) → digits ≡ decimal 0 → IsIntText (45 ∷ digits) → ⊥
minus_zero digits is (pos n, lt, e) = no_minus n digits (omega (arith, lt)) e
minus_zero digits is (negsuc n, lt, e) = let same : 0 ≡ suc n = same_decimal 0 (suc n) (lit< tt) (omega (arith, lt)) (sym is ∙ rest _ _ _ _ e) in omega (arith, same)

-- no minus, and no digits
pub no_digits : (text : List ℕ) → ((digits : List ℕ) → text ≡ 45 ∷ digits → ⊥) → NoSize text → IsIntText text → ⊥
no_digits text other none (pos n, lt, e) = none n lt e
no_digits text other none (negsuc n, lt, e) = other (decimal (suc n)) e

pub ruleset ints = (bare_minus, minus_zero, no_digits)

-- ---- a text is that of one number

pub same_int : (a b : ℤ) → IsInt a → IsInt b → int_text a ≡ int_text b → a ≡ b
same_int (pos n) (pos m) i j e = ap pos (same_decimal n m (omega (arith, i)) (omega (arith, j)) e)
same_int (pos n) (negsuc m) i j e = absurd (no_minus n (decimal (suc m)) (omega (arith, i)) (sym e))
same_int (negsuc n) (pos m) i j e = absurd (no_minus m (decimal (suc n)) (omega (arith, j)) e)
same_int (negsuc n) (negsuc m) i j e = let same : suc n ≡ suc m = same_decimal (suc n) (suc m) (omega (arith, i)) (omega (arith, j)) (rest _ _ _ _ e) in ap negsuc (omega (arith, same))
