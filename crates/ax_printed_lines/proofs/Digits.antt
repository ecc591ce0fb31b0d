-- Numbers that are read digit by digit.
use Rattle.std.proofs.Common.{◌≡◌, ℕ, zero, suc, ◌+◌, ◌-◌, ◌*◌, ◌/◌, ◌%◌, ◌<◌, ◌≤◌, ◌^◌, List, [], ◌∷◌, ◌++◌, length, drop, get_or, sym, ◌∙◌, ap, arith, append_assoc, add-one, lit<}
use Rattle.std.specs.Prelude.{decimal}
use Rattle.std.proofs.lemmas.Fmt.{decimal_digit, decimal_step_wide}
use Rattle.std.proofs.lemmas.List.{drop_more}
use Rattle.std.proofs.Math.Nat.{pow-le-pow_right}
use Rattle.ax_printed_lines.specs.Digits.{DigitsRead}

pub no_digits : (octets : List ℕ) → DigitsRead octets 0 0
no_digits octets = record { read = λ some usual. absurd (omega (arith, some)); some = λ some first. absurd (omega (arith, some)); below = omega arith; first = λ some. absurd (omega (arith, some)) }

one_more : (m d : ℕ) → 0 < m → d < 10 → 10 * m + d < 10 ^ 64 → decimal (10 * m + d) ≡ decimal m ++ (48 + d) ∷ []
one_more m d some lt small =
    let front : (10 * m + d) / 10 ≡ m = omega arith in
    let last : (10 * m + d) % 10 ≡ d = omega arith in
    decimal_step_wide (10 * m + d) (omega arith) small ∙ (λ i. decimal (front i) ++ ((48 + last i) ∷ []))

below_more : (k n d : ℕ) → n < 10 ^ k → d < 10 → 10 * n + d < 10 ^ (k + 1)
below_more k n d h lt = let e : 10 ^ (k + 1) ≡ 10 * 10 ^ k = ap (λ m. 10 ^ m) (add-one k) ∙ omega arith in omega (arith, e, h, lt)

few_digits : (k n : ℕ) → n < 10 ^ k → k ≤ 19 → n < 10 ^ 19
few_digits k n h few = let le : 10 ^ k ≤ 10 ^ 19 = pow-le-pow_right (lit< tt) few in omega (arith, h, le)

-- the octet behind them
module _ (octets : List ℕ) (n d : ℕ) where
  first_digit : DigitsRead octets 0 n → 0 < length octets → 48 ≤ get_or octets 0 0 → get_or octets 0 0 ≤ 57 → d ≡ get_or octets 0 0 - 48 → DigitsRead octets 1 (10 * n + d)
  first_digit r lt low high is =
      let none : n ≡ 0 = omega (arith, r.below) in
      let value : 10 * n + d ≡ d = omega (arith, none) in
      let back : 48 + d ≡ get_or octets 0 0 = omega (arith, low, is) in
      let text : decimal (10 * n + d) ≡ get_or octets 0 0 ∷ [] = ap decimal value ∙ decimal_digit d (omega (arith, high, is)) ∙ ap (λ x. x ∷ []) back in
      record {
        read = λ some usual. (drop_more octets 0 0 lt ∙ ap (λ t. t ++ drop 1 octets) (sym text));
        some = λ some first. omega (arith, first, is);
        below = omega (arith, value, high, is);
        first = λ some. low;
      }

  later_digit : (j : ℕ) → DigitsRead octets (suc j) n → suc j < length octets → suc j < 19 → 48 ≤ get_or octets (suc j) 0 → get_or octets (suc j) 0 ≤ 57 → d ≡ get_or octets (suc j) 0 - 48 → DigitsRead octets (suc j + 1) (10 * n + d)
  later_digit j r lt few low high is =
      let x = get_or octets (suc j) 0 in
      let back : 48 + d ≡ x = omega (arith, low, is) in
      let size : d < 10 = omega (arith, high, is) in
      let bound : n < 10 ^ 19 = few_digits (suc j) n r.below (omega (arith, few)) in
      record {
        read = λ some usual. (
            let first : 49 ≤ get_or octets 0 0 = usual (omega arith) in
            let more : decimal (10 * n + d) ≡ decimal n ++ (48 + d) ∷ [] = one_more n d (r.some (omega arith) first) size (omega (arith, bound, size)) in
            r.read (omega arith) (λ _. first) ∙ ap (λ t. decimal n ++ t) (drop_more octets (suc j) 0 lt ∙ ap (λ k. k ∷ drop (suc j + 1) octets) (sym back)) ∙ sym (append_assoc (decimal n) ((48 + d) ∷ []) (drop (suc j + 1) octets)) ∙ ap (λ t. t ++ drop (suc j + 1) octets) (sym more)
            );
        some = λ some first. (let n_some : 0 < n = r.some (omega arith) first in omega (arith, n_some));
        below = below_more (suc j) n d r.below size;
        first = λ some. r.first (omega arith);
      }

pub digit_more : (octets : List ℕ) (k n d : ℕ) → DigitsRead octets k n → k < length octets → k < 19 → 48 ≤ get_or octets k 0 → get_or octets k 0 ≤ 57 → d ≡ get_or octets k 0 - 48 → DigitsRead octets (k + 1) (10 * n + d)
digit_more octets zero n d r lt few low high is = first_digit octets n d r lt low high is
digit_more octets (suc j) n d r lt few low high is = later_digit octets n d j r lt few low high is

pub number_small : (octets : List ℕ) (k n : ℕ) → DigitsRead octets k n → k ≤ 19 → n < 2 ^ 64
number_small octets k n r few = let b : n < 10 ^ 19 = few_digits k n r.below few in omega (arith, b)

pub next_small : (octets : List ℕ) (k n d : ℕ) → DigitsRead octets k n → k < 19 → d < 10 → 10 * n + d < 2 ^ 64
next_small octets k n d r few lt =
    let le : 10 ^ k ≤ 10 ^ 18 = pow-le-pow_right (lit< tt) (let e : k ≤ 18 = omega (arith, few) in e) in
    omega (arith, r.below, le, lt)

-- what is known of digits that are read
pub digits_stand : (octets : List ℕ) (k n : ℕ) → DigitsRead octets k n → 0 < k → (1 < k → 49 ≤ get_or octets 0 0) → octets ≡ decimal n ++ drop k octets
digits_stand octets k n r = r.read

pub first_stands : (octets : List ℕ) (k n : ℕ) → DigitsRead octets k n → 0 < k → 48 ≤ get_or octets 0 0
first_stands octets k n r = r.first

pub ruleset reading = (no_digits, digits_stand, first_stands, number_small)
