-- Numbers in decimal read digit by digit.
use Rattle.std.proofs.Common.{◌≡◌, ℕ, zero, suc, ◌+◌, ◌*◌, ◌/◌, ◌%◌, ◌^◌, ◌<◌, ◌≤◌, ◌⊎◌, inl, inr, List, [], ◌∷◌, ◌++◌, length, get_or, drop, true, false, sym, ◌∙◌, ap, subst, arith, append_assoc, append-nil, lit<}
use Rattle.std.specs.Prelude.{decimal, ◌==◌}
use Rattle.std.specs.Char.{digit_value}
use Rattle.std.specs.Str.Parse.{AllDigits}
use Rattle.std.proofs.Math.Nat.{pow-le-pow_right}
use Rattle.std.proofs.lemmas.Fmt.{decimal_digit, decimal_step_wide, decimal_by_steps_wide, decimal_is_IsNumeral_wide}
use Rattle.std.proofs.lemmas.List.{length-append, get_or_append_left, drop_more, drop_all}
use Rattle.std.proofs.lemmas.Grind.{pow_more}
use Rattle.std.proofs.lemmas.Str.Parse.{digit_from_value}
use Rattle.ax_block_reader.specs.Languages.{IsNoNumber}
use Rattle.ax_block_reader.proofs.Decimals.{wide}

-- no digit
abbrev pub IsNoDigit : ℕ → Type 0
IsNoDigit x = (x < 48) ⊎ (57 < x)

-- the text of a digit and the octets after it
abbrev pub led : ℕ → List ℕ → List ℕ
led digit octets = (48 + digit) ∷ octets

-- a number above 0 is written by the text up to the octet of that number among at most 18 after the first one
pub record DigitsRead (digit : ℕ) (octets : List ℕ) (i number : ℕ) : Type 0 where
  pub split : led digit octets ≡ decimal number ++ drop i octets
  pub some : 0 < number
  pub few : length octets ≤ 18
  pub below : number < 10 ^ (i + 1)

-- ---- octets that are no digit

digits_after : (front : List ℕ) (c : ℕ) (rest : List ℕ) → AllDigits 10 (front ++ c ∷ rest) → digit_value c < 10
digits_after [] c rest h = h.0
digits_after (x ∷ front) c rest h = digits_after front c rest h.1

no_digit : (c : ℕ) → IsNoDigit c → digit_value c < 10 → ⊥
no_digit c (inl lt) h = let r = digit_from_value c h in omega (arith, r, lt)
no_digit c (inr lt) h = let r = digit_from_value c h in omega (arith, r, lt)

stopped : (text front : List ℕ) (c : ℕ) (rest : List ℕ) → text ≡ front ++ c ∷ rest → IsNoDigit c → IsNoNumber text
stopped text front c rest split h n lt e =
    no_digit c h (digits_after front c rest (subst (AllDigits 10) (sym e ∙ split) (decimal_is_IsNumeral_wide n (wide n lt)).0.1))

pub no_octet : (text : List ℕ) → length text ≡ 0 → IsNoNumber text
no_octet text none n lt e =
    let some = (decimal_is_IsNumeral_wide n (wide n lt)).0.0 in
    let same : length text ≡ length (decimal n) = ap length e in omega (arith, some, same, none)

pub no_first : (text : List ℕ) (c : ℕ) (rest : List ℕ) → text ≡ c ∷ rest → IsNoDigit c → IsNoNumber text
no_first text c rest split = stopped text [] c rest split

next : (octets : List ℕ) (i c : ℕ) → i < length octets → c ≡ get_or octets i 0 → drop i octets ≡ c ∷ drop (i + 1) octets
next octets i c lt is = drop_more octets i 0 lt ∙ ap (λ x. x ∷ drop (i + 1) octets) (sym is)

pub no_later : (digit : ℕ) (octets : List ℕ) (i m c : ℕ) → DigitsRead digit octets i m → i < length octets → c ≡ get_or octets i 0 → IsNoDigit c → IsNoNumber (led digit octets)
no_later digit octets i m c r lt is = stopped _ (decimal m) c _ (r.split ∙ ap (λ l. decimal m ++ l) (next octets i c lt is))

-- ---- zeros in front

leads : (n : ℕ) → n < 10 ^ 64 → (0 < length (decimal n)) × (0 < n → 48 < get_or (decimal n) 0 0)
leads = decimal_by_steps_wide (λ m ds. (0 < length ds) × (0 < m → 48 < get_or ds 0 0)) (λ m l. (omega arith, λ a. omega arith))
    (λ m ds l h. (omega (arith, length-append ds ((48 + m % 10) ∷ [])), λ a. omega (arith, get_or_append_left ds ((48 + m % 10) ∷ []) 0 0 h.0, h.1 (omega arith))))

zero_alone : (c : ℕ) (rest : List ℕ) → c ≡ 48 → (length rest ≡ 0 → ⊥) → (n : ℕ) → n < 2 ^ 128 → c ∷ rest ≡ decimal n → ⊥
zero_alone c rest z some zero lt e =
    let same : length (c ∷ rest) ≡ 1 = ap length (e ∙ decimal_digit 0 (omega arith)) in
    some (omega (arith, same))
zero_alone c rest z some (suc n) lt e =
    let first : c ≡ get_or (decimal (suc n)) 0 0 = ap (λ l. get_or l 0 0) e in
    let above = (leads (suc n) (wide (suc n) lt)).1 (omega arith) in omega (arith, first, above, z)

zero_led : (text : List ℕ) (c d : ℕ) (rest : List ℕ) → text ≡ c ∷ rest → c ≡ 48 + d → d ≡ 0 → (length rest ≡ 0 → ⊥) → IsNoNumber text
zero_led text c d rest split is z some n lt e = zero_alone c rest (omega (arith, is, z)) some n lt (sym split ∙ e)

-- ---- digits

pub first_read : (digit : ℕ) (octets : List ℕ) → 0 < digit → digit < 10 → length octets ≤ 18 → DigitsRead digit octets 0 digit
first_read digit octets some lt few = record {
  split = ap (λ l. l ++ octets) (sym (decimal_digit digit lt));
  some = some;
  few = few;
  below = omega (arith, lt);
}

decimal_more : (m d : ℕ) → 0 < m → d < 10 → 10 * m + d < 10 ^ 64 → decimal (10 * m + d) ≡ decimal m ++ (48 + d) ∷ []
decimal_more m d some lt small =
    let front : (10 * m + d) / 10 ≡ m = omega arith in
    let last : (10 * m + d) % 10 ≡ d = omega arith in
    decimal_step_wide (10 * m + d) (omega arith) small ∙ (λ i. decimal (front i) ++ ((48 + last i) ∷ []))

tenfold : (m d j : ℕ) → d < 10 → m < 10 ^ (j + 1) → 10 * m + d < 10 ^ (j + 1 + 1)
tenfold m d j lt below = let more = pow_more 10 (j + 1) in omega (arith, lt, below, more)

pub bound : (digit : ℕ) (octets : List ℕ) (i m : ℕ) → DigitsRead digit octets i m → i < length octets → m < 10 ^ 18
bound digit octets i m r lt =
    let fewer : i + 1 ≤ 18 = omega (arith, lt, r.few) in
    let high : 10 ^ (i + 1) ≤ 10 ^ 18 = pow-le-pow_right (lit< tt) fewer in
    omega (arith, r.below, high)

pub next_read : (digit : ℕ) (octets : List ℕ) (i m c d : ℕ) → DigitsRead digit octets i m → i < length octets → c ≡ get_or octets i 0 → c ≡ 48 + d → d < 10 → DigitsRead digit octets (i + 1) (10 * m + d)
next_read digit octets i m c d r lt is of below =
    let few = bound digit octets i m r lt in
    let more : decimal (10 * m + d) ≡ decimal m ++ (48 + d) ∷ [] = decimal_more m d r.some below (omega (arith, few, below)) in
    let rest = drop (i + 1) octets in
    record {
      split = r.split ∙ ap (λ l. decimal m ++ l) (next octets i c lt is ∙ ap (λ x. x ∷ rest) of) ∙ sym (append_assoc (decimal m) ((48 + d) ∷ []) rest) ∙ ap (λ l. l ++ rest) (sym more);
      some = omega (arith, r.some);
      few = r.few;
      below = tenfold m d i below r.below;
    }

pub all_read : (digit : ℕ) (octets : List ℕ) (i m : ℕ) → DigitsRead digit octets i m → i ≡ length octets → led digit octets ≡ decimal m
all_read digit octets i m r e = r.split ∙ ap (λ l. decimal m ++ l) (drop_all i octets (omega (arith, e))) ∙ append-nil (decimal m)

pub ruleset digits = (no_later, first_read, next_read, all_read, bound)

-- ---- the whole text

zero_read : (text : List ℕ) (c : ℕ) (rest : List ℕ) → text ≡ c ∷ rest → c ≡ 48 → length rest ≡ 0 → text ≡ decimal 0
zero_read text c [] split is e = split ∙ ap (λ x. x ∷ []) is ∙ sym (decimal_digit 0 (omega arith))
zero_read text c (x ∷ rest) split is e = absurd (omega (arith, e))

some_left : (n : ℕ) → false ≡ (n == 0) → n ≡ 0 → ⊥
some_left n e = grind arith

none_left : (n : ℕ) → true ≡ (n == 0) → n ≡ 0
none_left n e = grind arith

pub zero_and_more : (text : List ℕ) (c d : ℕ) (rest : List ℕ) → text ≡ c ∷ rest → c ≡ 48 + d → d ≡ 0 → false ≡ (length rest == 0) → IsNoNumber text
zero_and_more text c d rest split is z more = zero_led text c d rest split is z (some_left (length rest) more)

pub zero_only : (text : List ℕ) (c d : ℕ) (rest : List ℕ) → text ≡ c ∷ rest → c ≡ 48 + d → d ≡ 0 → true ≡ (length rest == 0) → text ≡ decimal 0
zero_only text c d rest split is z none = zero_read text c rest split (omega (arith, is, z)) (none_left (length rest) none)

pub ruleset short = (no_octet, no_first)
