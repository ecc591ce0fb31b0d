-- The table of the characters of six bits.
use Rattle.std.proofs.Common.{◌≡◌, ℕ, zero, suc, ◌-◌, ◌<◌, Bool, true, ◌&&◌, T, eqb, get_or, inl, inr, arith, eq-zero-or-pos, eqb→eq}
use lib.Ieee.Fits.{and_l, and_r}
use Rattle.ax_text_form.specs.Remarks.{icao_character}
use Rattle.ax_text_form.specs.declared.characters.TheConstants.{SIX_BITS}

abbrev are_characters : ℕ → Bool
are_characters zero = true
are_characters (suc n) = eqb (get_or SIX_BITS n 0) (icao_character n) && are_characters n

below : (most n : ℕ) → T (are_characters most) → n < most → get_or SIX_BITS n 0 ≡ icao_character n
below zero n t h = absurd (omega arith)
below (suc most) n t h =
    elim (eq-zero-or-pos (most - n)) [
      | inl z ↦ let e : n ≡ most = omega arith in rw e (eqb→eq _ _ (and_l _ (are_characters most) t))
      | inr g ↦ below most n (and_r _ (are_characters most) t) (omega arith)
    ]

-- what stands in the table is the character of the piece
pub character_at : (n : ℕ) → n < 64 → get_or SIX_BITS n 0 ≡ icao_character n
character_at n h = below 64 n tt h
