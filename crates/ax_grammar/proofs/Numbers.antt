-- Numbers and categories, and the digits that stand for them.
use Rattle.std.proofs.Common.{◌≡◌, ℕ, zero, suc, ◌+◌, ◌/◌, ◌%◌, ◌^◌, ◌<◌, ◌≤◌, Bool, true, false, not, ◌&&◌, List, [], ◌∷◌, length, eqb, Option, Some, None, refl, sym, ◌∙◌, ap, subst, arith, rules, get_or, inl, inr, ◌⊎◌, lit<, lit≤}
use Rattle.std.specs.Prelude.{bytes_eq, decimal, nat_le, nat_lt, ◌==◌}
use Rattle.std.specs.List.{list_all}
use Rattle.std.specs.Option.{option_and_then}
use Rattle.std.proofs.lemmas.Bool.{and_parts, and_from, leb-true, le-leb, eqb-true, eqb-false, ne_eqb, cond-true, not-true, not_from_false, ltb-true, lt-ltb, both_ways}
use Rattle.std.proofs.lemmas.Option.{cond_some}
use Rattle.std.proofs.lemmas.Fmt.{digits_decimal, digits_value-decimal, decimal-digits_value, length-decimal-le, decimal_nonempty, first_decimal, decimal_digit}
use Rattle.std.proofs.lemmas.Str.Parse.{IsNumeralModel, numerals_by_fold, digits_value_short}
use Rattle.std.proofs.Math.Nat.{pow-le-pow_right}
use Rattle.ax_format.specs.Characters.{IsName, is_name_octet}
use Rattle.ax_format.specs.Paths.{three_digits}
use Rattle.ax_grammar.specs.Tests.{is_digit, number_after_digits, has_leading_zero, number_of, if_within, number_within, category_of}

abbrev pub AreDigits : List ℕ → Type 0
AreDigits digits = list_all is_digit digits ≡ true

pub model : IsNumeralModel AreDigits (number_after_digits 0)
model = numerals_by_fold AreDigits (search rules) number_after_digits (search rules)

-- one of more digits has no leading zero where it is 0 alone
zero_alone : (digits : List ℕ) → has_leading_zero digits ≡ false → get_or digits 0 0 ≡ 48 → 0 < length digits → length digits ≡ 1
zero_alone [] h e lt = absurd (omega arith)
zero_alone (x ∷ []) h e lt = refl
zero_alone (x ∷ y ∷ digits) h e lt = absurd (eqb-false x 48 h e)

no_zero : (digits : List ℕ) → (length digits ≡ 1) ⊎ (48 < get_or digits 0 0) → has_leading_zero digits ≡ false
no_zero [] h = refl
no_zero (x ∷ []) h = refl
no_zero (x ∷ y ∷ digits) (inl e) = absurd (omega (arith, e))
no_zero (x ∷ y ∷ digits) (inr lt) = ne_eqb x 48 (λ e. omega (arith, e, lt))

decimal_shape : (n : ℕ) → n < 2 ^ 64 → (length (decimal n) ≡ 1) ⊎ (48 < get_or (decimal n) 0 0)
decimal_shape zero h = inl (ap length (decimal_digit 0 (omega arith)))
decimal_shape (suc n) h = inr (first_decimal (suc n) (omega arith) h)

abbrev number_test : ℕ → List ℕ → Bool
number_test most text = nat_le 1 (length text) && nat_le (length text) most && list_all is_digit text && not (has_leading_zero text)

few : (most n : ℕ) → most ≤ 18 → n < 10 ^ most → n < 2 ^ 64
few most n le h =
    let more : 10 ^ most ≤ 10 ^ 18 = pow-le-pow_right (lit< tt) le in omega (arith, more, h)

pub number_some : (most n : ℕ) → 0 < most → most ≤ 18 → n < 10 ^ most → number_of most (decimal n) ≡ Some n
unfolding number_of
number_some most n pos le h =
    let small = few most n le h in
    cond-true (number_test most (decimal n)) (Some (number_after_digits 0 (decimal n))) None
    (and_from _ _ (and_from _ _ (and_from _ _ (le-leb 1 (length (decimal n)) (decimal_nonempty n small)) (le-leb (length (decimal n)) most (length-decimal-le most n pos h small))) (digits_decimal model n small))
    (not_from_false _ (no_zero (decimal n) (decimal_shape n small))))
    ∙ ap (λ v. Some v) (digits_value-decimal model n small)

pub number_found : (most n : ℕ) (text : List ℕ) → most ≤ 18 → number_of most text ≡ Some n → (n < 10 ^ most) × (text ≡ decimal n)
unfolding number_of
number_found most n text le e =
    let p = cond_some (number_test most text) (number_after_digits 0 text) n e in
    let q = and_parts _ _ p.0 in
    let r = and_parts _ _ q.0 in
    let s = and_parts _ _ r.0 in
    let bound : number_after_digits 0 text < 10 ^ most = digits_value_short model text most r.1 (leb-true (length text) most s.1) in
    let some : 0 < length text = leb-true 1 (length text) s.0 in
    let back : decimal (number_after_digits 0 text) ≡ text = decimal-digits_value model text r.1 some (λ z. zero_alone text (not-true _ q.1) z some) (few most (number_after_digits 0 text) le bound) in
    subst (λ v. (v < 10 ^ most) × (text ≡ decimal v)) p.1 (bound, sym back)

-- ---- numbers from one to another

if_within_found : (least most n m : ℕ) → if_within least most n ≡ Some m → (least ≤ m) × (m ≤ most) × (n ≡ m)
if_within_found least most n m e =
    let p = cond_some (nat_le least n && nat_le n most) n m e in
    let q = and_parts _ _ p.0 in
    subst (λ v. (least ≤ v) × (v ≤ most) × (n ≡ v)) p.1 (leb-true least n q.0, leb-true n most q.1, refl)

pub number_within_some : (least most n : ℕ) → least ≤ n → n ≤ most → n < 10 ^ 18 → number_within least most (decimal n) ≡ Some n
unfolding number_within
number_within_some least most n from to small =
    ap (option_and_then (if_within least most)) (number_some 18 n (lit< tt) (lit≤ tt) small) ∙ cond-true (nat_le least n && nat_le n most) (Some n) None (and_from _ _ (le-leb least n from) (le-leb n most to))

then_within : (least most n : ℕ) (text : List ℕ) (o : Option ℕ) → number_of 18 text ≡ o → option_and_then (if_within least most) o ≡ Some n → (least ≤ n) × (n ≤ most) × (text ≡ decimal n)
then_within least most n text None e h = absurd cc
then_within least most n text (Some m) e h =
    let w = if_within_found least most m n h in (w.0, w.1, (number_found 18 m text (lit≤ tt) e).1 ∙ ap decimal w.2)

pub number_within_found : (least most n : ℕ) (text : List ℕ) → number_within least most text ≡ Some n → (least ≤ n) × (n ≤ most) × (text ≡ decimal n)
unfolding number_within
number_within_found least most n text e = then_within least most n text (number_of 18 text) refl e

-- ---- categories

abbrev category_test : List ℕ → Bool
category_test text = (length text == 3) && list_all is_digit text && nat_lt (number_after_digits 0 text) 256

pub digit : (n : ℕ) → n < 10 → is_digit (48 + n) ≡ true
digit n h = and_from _ _ (le-leb 48 (48 + n) (omega arith)) (le-leb (48 + n) 57 (omega arith))

digit_range : (x : ℕ) → is_digit x ≡ true → (48 ≤ x) × (x ≤ 57)
digit_range x h = let p = and_parts _ _ h in (leb-true 48 x p.0, leb-true x 57 p.1)

pub category_some : (n : ℕ) → n < 256 → category_of (three_digits n) ≡ Some n
unfolding category_of
category_some n h =
    let value : number_after_digits 0 (three_digits n) ≡ n = omega arith in
    cond-true (category_test (three_digits n)) (Some (number_after_digits 0 (three_digits n))) None
    (and_from _ _ (and_from _ _ refl (and_from _ _ (digit (n / 100) (omega arith)) (and_from _ _ (digit (n / 10 % 10) (omega arith)) (and_from _ _ (digit (n % 10) (omega arith)) refl)))) (lt-ltb _ 256 (omega (arith, value, h))))
    ∙ ap (λ v. Some v) value

digits_are : (text : List ℕ) → length text ≡ 3 → list_all is_digit text ≡ true → text ≡ three_digits (number_after_digits 0 text)
digits_are [] e h = absurd (omega (arith, e))
digits_are (a ∷ []) e h = absurd (omega (arith, e))
digits_are (a ∷ b ∷ []) e h = absurd (omega (arith, e))
digits_are (a ∷ b ∷ c ∷ []) e h =
    let p = and_parts _ _ h in
    let q = and_parts _ _ p.1 in
    let r = and_parts _ _ q.1 in
    let x = digit_range a p.0 in
    let y = digit_range b q.0 in
    let z = digit_range c r.0 in
    let n = number_after_digits 0 (a ∷ b ∷ c ∷ []) in
    let first : a ≡ 48 + n / 100 = omega (arith, x, y, z) in
    let second : b ≡ 48 + n / 10 % 10 = omega (arith, x, y, z) in
    let third : c ≡ 48 + n % 10 = omega (arith, x, y, z) in
    ap (λ v. v ∷ b ∷ c ∷ []) first ∙ ap (λ v. (48 + n / 100) ∷ v ∷ c ∷ []) second ∙ ap (λ v. (48 + n / 100) ∷ (48 + n / 10 % 10) ∷ v ∷ []) third
digits_are (a ∷ b ∷ c ∷ d ∷ text) e h = absurd (omega (arith, e))

pub category_found : (n : ℕ) (text : List ℕ) → category_of text ≡ Some n → (n < 256) × (text ≡ three_digits n)
unfolding category_of
category_found n text e =
    let p = cond_some (category_test text) (number_after_digits 0 text) n e in
    let q = and_parts _ _ p.0 in
    let r = and_parts _ _ q.0 in
    subst (λ v. (v < 256) × (text ≡ three_digits v)) p.1 (ltb-true (number_after_digits 0 text) 256 q.1, digits_are text (eqb-true (length text) 3 r.0) r.1)

-- ---- names and numbers are no keywords

and_no : (b c : Bool) → b ≡ false → (b && c) ≡ false
and_no b c e = ap (λ x. x && c) e

other_first : (first x : ℕ) (word rest : List ℕ) → (first ≡ x → ⊥) → bytes_eq (first ∷ word) (x ∷ rest) ≡ false
other_first first x word rest h = and_no (eqb first x) (bytes_eq word rest) (ne_eqb first x h)

digits_no_close : (text : List ℕ) → 0 < length text → list_all is_digit text ≡ true → bytes_eq (125 ∷ []) text ≡ false
digits_no_close [] lt h = absurd (omega arith)
digits_no_close (x ∷ text) lt h = other_first 125 x [] text (λ e. omega (arith, e, digit_range x (and_parts _ _ h).0))

pub number_no_close : (n : ℕ) → n < 10 ^ 18 → bytes_eq (125 ∷ []) (decimal n) ≡ false
number_no_close n h =
    let small : n < 2 ^ 64 = omega (arith, h) in digits_no_close (decimal n) (decimal_nonempty n small) (digits_decimal model n small)

pub name_no_word : (first : ℕ) (word name : List ℕ) → is_name_octet first ≡ false → IsName name → bytes_eq (first ∷ word) name ≡ false
name_no_word first word [] e h = absurd (omega (arith, h.0))
name_no_word first word (x ∷ name) e h = other_first first x word name (λ same. both_ways (is_name_octet x) (ap is_name_octet (sym same) ∙ e) (and_parts _ _ h.2).0)
