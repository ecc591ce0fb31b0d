-- The digits of short numbers, and octets put at a place.
use Rattle.std.proofs.Common.{◌≡◌, ℕ, zero, suc, ◌+◌, ◌-◌, ◌*◌, ◌/◌, ◌%◌, ◌^◌, ◌<◌, ◌≤◌, Bool, true, false, ◌&&◌, T, eqb, List, [], ◌∷◌, ◌++◌, length, take, drop, decimal, refl, sym, ◌∙◌, ap, arith, eqb→eq, append_assoc}
use Rattle.std.proofs.lemmas.Fmt.{decimal_digit, decimal_step}
use Rattle.std.proofs.lemmas.List.{take-take, drop-drop, length-take-le}
use Rattle.std.proofs.Math.Pow.{pow_mono}
use Rattle.std.proofs.Math.Seq.{take-append-add}
use Rattle.ax_text_lines.specs.Prints.{three_last}
use Rattle.ax_text_lines.specs.declared.three_digits.TheConstants.{THREE_DIGITS}
use lib.Ieee.Fits.{and_l, and_r}

pub two_digits : (n : ℕ) → 10 ≤ n → n < 100 → decimal n ≡ (48 + n / 10) ∷ (48 + n % 10) ∷ []
two_digits n lo hi = rw (decimal_step n lo (omega arith), decimal_digit (n / 10) (omega arith)) refl

pub three_digits : (n : ℕ) → 100 ≤ n → n < 1000 → decimal n ≡ three_last n
three_digits n lo hi =
    let a : n / 10 / 10 ≡ n / 100 = omega arith in
    rw (decimal_step n (omega arith) (omega arith), decimal_step (n / 10) (omega arith) (omega arith), a, decimal_digit (n / 100) (omega arith)) refl

pub by_thousands : (n : ℕ) → 1000 ≤ n → n < 2 ^ 64 → decimal n ≡ decimal (n / 1000) ++ three_last (n % 1000)
by_thousands n lo hi =
    let a : n / 10 / 10 / 10 ≡ n / 1000 = omega arith in
    let b : n / 10 / 10 % 10 ≡ n % 1000 / 100 = omega arith in
    let c : n / 10 % 10 ≡ n % 1000 / 10 % 10 = omega arith in
    let d : n % 10 ≡ n % 1000 % 10 = omega arith in
    decimal_step n (omega arith) hi ∙ ap (λ t. t ++ (48 + n % 10) ∷ []) (decimal_step (n / 10) (omega arith) (omega arith) ∙ ap (λ t. t ++ (48 + n / 10 % 10) ∷ []) (decimal_step (n / 10 / 10) (omega arith) (omega arith)))
    ∙ append_assoc (decimal (n / 10 / 10 / 10) ++ (48 + n / 10 / 10 % 10) ∷ []) ((48 + n / 10 % 10) ∷ []) ((48 + n % 10) ∷ [])
    ∙ append_assoc (decimal (n / 10 / 10 / 10)) ((48 + n / 10 / 10 % 10) ∷ []) ((48 + n / 10 % 10) ∷ (48 + n % 10) ∷ [])
    ∙ (λ i. decimal (a i) ++ (48 + b i) ∷ (48 + c i) ∷ (48 + d i) ∷ [])

-- a front of n and one of m more is a front of both
pub put_twice : (first mid last : List ℕ) (a b : List ℕ) (at n m : ℕ) → take n mid ≡ take at first ++ a → take m last ≡ take n mid ++ b → take m last ≡ take at first ++ (a ++ b)
put_twice first mid last a b at n m p q = q ∙ ap (λ t. t ++ b) p ∙ append_assoc (take at first) a b

-- the digits of a number of more than three are those of its thousands and three others
pub thousands_put : (n at end next : ℕ) (old mid new : List ℕ) → 1000 ≤ n → n < 2 ^ 64 → take end mid ≡ take at old ++ decimal (n / 1000) → take next new ≡ take end mid ++ three_last (n % 1000) → take next new ≡ take at old ++ decimal n
thousands_put n at end next old mid new lo hi p q =
    put_twice old mid new (decimal (n / 1000)) (three_last (n % 1000)) at end next p q ∙ ap (λ t. take at old ++ t) (sym (by_thousands n lo hi))

pub ruleset thousands = (thousands_put)

pub eighteen_put : (n at end second third last : ℕ) (old a b c new : List ℕ) → 1000000000 ≤ n → n < 2 ^ 64 → take end a ≡ take at old ++ decimal (n / 1000000000)
    → take second b ≡ take end a ++ three_last (n % 1000000000 / 1000000) → take third c ≡ take second b ++ three_last (n % 1000000000 / 1000 % 1000)
    → take last new ≡ take third c ++ three_last (n % 1000000000 % 1000) → take last new ≡ take at old ++ decimal n
eighteen_put n at end second third last old a b c new lo hi p q r s =
    let high : n / 1000000 / 1000 ≡ n / 1000000000 = omega arith in
    let mid : n / 1000 / 1000 ≡ n / 1000000 = omega arith in
    let x : n / 1000000 % 1000 ≡ n % 1000000000 / 1000000 = omega arith in
    let y : n / 1000 % 1000 ≡ n % 1000000000 / 1000 % 1000 = omega arith in
    let z : n % 1000 ≡ n % 1000000000 % 1000 = omega arith in
    let one = thousands_put (n / 1000000) at end second old a b (omega arith) (omega arith) (p ∙ ap (λ m. take at old ++ decimal m) (sym high)) (q ∙ ap (λ m. take end a ++ three_last m) (sym x)) in
    let two = thousands_put (n / 1000) at second third old b c (omega arith) (omega arith) (one ∙ ap (λ m. take at old ++ decimal m) (sym mid)) (r ∙ ap (λ m. take second b ++ three_last m) (sym y)) in
    thousands_put n at third last old c new (omega arith) hi two (s ∙ ap (λ m. take third c ++ three_last m) (sym z))

pub ruleset eighteen = (eighteen_put)

-- ---- the table of three digits

-- the m numbers from n on stand in front, in three digits each
abbrev are_three : ℕ → ℕ → List ℕ → Bool
are_three zero n xs = true
are_three (suc m) n [] = false
are_three (suc m) n (a ∷ []) = false
are_three (suc m) n (a ∷ b ∷ []) = false
are_three (suc m) n (a ∷ b ∷ c ∷ xs) = ((eqb a (48 + n / 100) && eqb b (48 + n / 10 % 10)) && eqb c (48 + n % 10)) && are_three m (suc n) xs

three_from : (m k n : ℕ) (xs : List ℕ) → T (are_three m n xs) → k < m → drop (3 * k) xs ≡ three_last (n + k) ++ drop (3 * k + 3) xs
three_from zero k n xs t lt = absurd (omega arith)
three_from (suc m) k n [] t lt = absurd t
three_from (suc m) k n (a ∷ []) t lt = absurd t
three_from (suc m) k n (a ∷ b ∷ []) t lt = absurd t
three_from (suc m) zero n (a ∷ b ∷ c ∷ xs) t lt =
    let first = eqb a (48 + n / 100) in
    let second = eqb b (48 + n / 10 % 10) in
    let third = eqb c (48 + n % 10) in
    let all : T ((first && second) && third) = and_l ((first && second) && third) (are_three m (suc n) xs) t in
    let two : T (first && second) = and_l (first && second) third all in
    let e : n ≡ n + 0 = omega arith in
    (λ i. eqb→eq a (48 + n / 100) (and_l first second two) i ∷ eqb→eq b (48 + n / 10 % 10) (and_r first second two) i ∷ eqb→eq c (48 + n % 10) (and_r (first && second) third all) i ∷ xs) ∙ ap (λ n. three_last n ++ xs) e
three_from (suc m) (suc k) n (a ∷ b ∷ c ∷ xs) t lt =
    let e : 3 * suc k ≡ suc (suc (suc (3 * k))) = omega arith in
    let f : suc (suc (suc (3 * k + 3))) ≡ 3 * suc k + 3 = omega arith in
    let g : suc n + k ≡ n + suc k = omega arith in
    let later = and_r ((eqb a (48 + n / 100) && eqb b (48 + n / 10 % 10)) && eqb c (48 + n % 10)) (are_three m (suc n) xs) t in
    ap (λ m. drop m (a ∷ b ∷ c ∷ xs)) e ∙ three_from m k (suc n) xs later (omega arith) ∙ (λ i. three_last (g i) ++ drop (f i) (a ∷ b ∷ c ∷ xs))

digits_from : (n : ℕ) → n < 1000 → drop (3 * n) THREE_DIGITS ≡ three_last n ++ drop (3 * n + 3) THREE_DIGITS
digits_from n lt = let e : 0 + n ≡ n = omega arith in three_from 1000 n 0 THREE_DIGITS tt lt ∙ ap (λ m. three_last m ++ drop (3 * n + 3) THREE_DIGITS) e

-- what stands in the table at the number is its three digits
pub digits_at : (n : ℕ) → n < 1000 → take 3 (drop (3 * n) THREE_DIGITS) ≡ three_last n
digits_at n lt = ap (take 3) (digits_from n lt)

-- the last ones of its digits are before those of the next number
pub last_digits_at : (n count : ℕ) → n < 1000 → 1 ≤ count → count ≤ 3 → take count (drop (3 * n + 3 - count) THREE_DIGITS) ≡ drop (3 - count) (three_last n)
last_digits_at n count lt some few =
    let e : 3 * n + 3 - count ≡ 3 * n + (3 - count) = omega (arith, some, few) in
    ap (λ k. take count (drop k THREE_DIGITS)) e ∙ ap (take count) (sym (drop-drop (3 - count) (3 * n) THREE_DIGITS) ∙ ap (drop (3 - count)) (digits_from n lt)) ∙ front count some few
  where
    front : (count : ℕ) → 1 ≤ count → count ≤ 3 → take count (drop (3 - count) (three_last n ++ drop (3 * n + 3) THREE_DIGITS)) ≡ drop (3 - count) (three_last n)
    front zero some few = absurd (omega (arith, some))
    front (suc zero) some few = refl
    front (suc (suc zero)) some few = refl
    front (suc (suc (suc zero))) some few = refl
    front (suc (suc (suc (suc n)))) some few = absurd (omega (arith, few))

-- ---- how many digits a number has

pub one_digit : (n : ℕ) → n < 10 → drop 2 (three_last n) ≡ decimal n
one_digit n lt = let e : n % 10 ≡ n = omega arith in ap (λ d. (48 + d) ∷ []) e ∙ sym (decimal_digit n lt)

pub two_last_digits : (n : ℕ) → 10 ≤ n → n < 100 → drop 1 (three_last n) ≡ decimal n
two_last_digits n lo hi = let e : n / 10 % 10 ≡ n / 10 = omega arith in ap (λ d. (48 + d) ∷ (48 + n % 10) ∷ []) e ∙ sym (two_digits n lo hi)

pub three_last_digits : (n : ℕ) → 100 ≤ n → n < 1000 → three_last n ≡ decimal n
three_last_digits n lo hi = sym (three_digits n lo hi)

pub ruleset counts = (one_digit, two_last_digits, three_last_digits)

pub one_put : (n at : ℕ) (old new : List ℕ) → n < 10 → take (at + 1) new ≡ take at old ++ (48 + n) ∷ [] → take (at + 1) new ≡ take at old ++ decimal n
one_put n at old new lt p = p ∙ ap (λ t. take at old ++ t) (sym (decimal_digit n lt))

pub ruleset ones = (one_put)

-- of what was put, only a front is kept
pub put_front : (old new all text : List ℕ) (at : ℕ) → at ≤ length old → take (at + length all) new ≡ take at old ++ all → take (length text) all ≡ text → length text ≤ length all → take (at + length text) new ≡ take at old ++ text
put_front old new all text at le p q fits =
    sym (take-take (at + length text) (at + length all) new (omega arith)) ∙ ap (take (at + length text)) p ∙ front
  where
    front : take (at + length text) (take at old ++ all) ≡ take at old ++ text
    front = take-append-add-of ∙ ap (λ t. take at old ++ t) q
      where
        take-append-add-of : take (at + length text) (take at old ++ all) ≡ take at old ++ take (length text) all
        take-append-add-of = ap (λ n. take (n + length text) (take at old ++ all)) (sym (length-take-le at old le)) ∙ take-append-add (take at old) all (length text)

-- the numbers of few bits have one digit
pub three_bits : (w n : ℕ) → n < 2 ^ w → w ≤ 3 → n < 10
three_bits w n lt le = let most : 2 ^ w ≤ 2 ^ 3 = pow_mono le in omega (arith, lt, most)
