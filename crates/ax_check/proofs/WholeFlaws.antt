-- The flaws of kinds that are to be whole octets.
use Rattle.std.proofs.Common.{◌≡◌, ℕ, ◌+◌, ◌%◌, ◌==◌, nat_lt, Bool, not, List, ◌++◌, refl, ◌∙◌, ap, arith, append_assoc}
use Rattle.std.proofs.lemmas.Bool.Decides.{nat_tests}
use Rattle.ax_format.specs.Flaws.{is_no_multiple, is_too_wide}
use Rattle.ax_format.specs.Lengths.{capped}

-- ---- the tests

pub broken : (w over : ℕ) → over ≡ w % 8 → not (over == 0) ≡ is_no_multiple 8 w
broken w over e = ap (λ n. not (n == 0)) e

pub broken_unit : (w over : ℕ) → over ≡ w % 8 → not (over == 7) ≡ is_no_multiple 8 (w + 1)
broken_unit w over e = ap not (same (over == 7) ((w + 1) % 8 == 0) refl refl)
  where
    same : (a b : Bool) → (over == 7) ≡ a → ((w + 1) % 8 == 0) ≡ b → (over == 7) ≡ ((w + 1) % 8 == 0)
    same a b p q = grind (arith, nat_tests)

pub broken_part : (w fx over : ℕ) → over ≡ w % 8 → not ((over + fx) % 8 == 0) ≡ is_no_multiple 8 (w + fx)
broken_part w fx over e = ap (λ n. not (n == 0)) (let same : (over + fx) % 8 ≡ (w + fx) % 8 = omega arith in same)

pub passes : (w held_width : ℕ) → held_width ≡ capped w → nat_lt 524256 held_width ≡ is_too_wide w
passes w held_width e = grind (arith, nat_tests)

-- ---- the flaws of a width, then those inside

pub joined : {A : Type 0} (start a b c one all : List A) → one ≡ start ++ (a ++ b) → all ≡ one ++ c → all ≡ start ++ (a ++ b ++ c)
joined start a b c one all p q = q ∙ ap (λ l. l ++ c) p ∙ append_assoc start (a ++ b) c

-- the same, and a third one between
pub joined_third : {A : Type 0} (start a b d c one two all : List A) → one ≡ start ++ (a ++ b) → two ≡ one ++ d → all ≡ two ++ c → all ≡ start ++ (a ++ b ++ d ++ c)
joined_third start a b d c one two all p r q = q ∙ ap (λ l. l ++ c) (r ∙ ap (λ l. l ++ d) p ∙ append_assoc start (a ++ b) d) ∙ append_assoc start (a ++ b ++ d) c

pub ruleset wholes = (broken, passes, joined)

pub ruleset units = (broken_unit, passes, joined)

pub ruleset parts = (broken_part, passes, joined_third)
