-- A text is a number below a bound, in decimal, or it isn't.
use Rattle.std.proofs.Common.{◌≡◌, ℕ, ◌<◌, ◌≤◌, ◌^◌, ◌⊎◌, inl, inr, List, sym, ◌∙◌, ap, arith}
use Rattle.std.specs.Prelude.{decimal}
use Rattle.std.specs.Str.Parse.{digits_value}
use Rattle.std.proofs.lemmas.Bool.{cases_lt}
use Rattle.std.proofs.lemmas.Fmt.{decimal_is_IsNumeral_wide}
use Rattle.ax_laws.proofs.Readers.{IsOrNot, same_or_not}

abbrev pub IsNumberBelow : ℕ → List ℕ → Type 0
IsNumberBelow bound text = (n : ℕ) × (n < bound) × (text ≡ decimal n)

-- no other number than this one
value_is : (bound n : ℕ) (text : List ℕ) → bound ≤ 10 ^ 64 → n < bound → text ≡ decimal n → digits_value 10 text ≡ n
value_is bound n text few lt e = ap (digits_value 10) e ∙ (decimal_is_IsNumeral_wide n (omega (arith, few, lt))).1

pub number_or_not : (bound : ℕ) (text : List ℕ) → bound ≤ 10 ^ 64 → IsOrNot (IsNumberBelow bound text)
number_or_not bound text few = by (same_or_not text (decimal (digits_value 10 text))) (cases_lt (digits_value 10 text) bound)
  where
    by : IsOrNot (text ≡ decimal (digits_value 10 text)) → (digits_value 10 text < bound) ⊎ (bound ≤ digits_value 10 text) → IsOrNot (IsNumberBelow bound text)
    by (inl e) (inl lt) = inl (digits_value 10 text, lt, e)
    by (inl e) (inr le) = inr (λ h. omega (arith, le, h.1, value_is bound h.0 text few h.1 h.2))
    by (inr n) order = inr (λ h. n (h.2 ∙ ap decimal (sym (value_is bound h.0 text few h.1 h.2))))
