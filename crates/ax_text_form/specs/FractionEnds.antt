-- The ends of the lines of quantities, that are made before any line is put.
use Rattle.std.specs.Prelude.{ℕ, zero, suc, ◌*◌, ◌/◌, ◌^◌, List, [], ◌∷◌, ◌++◌, codes, decimal}
use Rattle.ax_tokens.specs.Octets.{line_feed}
use Rattle.ax_format.specs.declared.content.Scale.{Scale}
use Rattle.ax_text_form.specs.Remarks.{quoted, reduced_text}

-- a multiple of a unit, the unit, and the end of the line
abbrev pub in_unit : List ℕ → List ℕ → List ℕ
in_unit unit multiple = multiple ++ codes " " ++ quoted unit ++ line_feed ∷ []

-- what comes after the numerator: the denominator, the unit and the end of the line
abbrev pub fraction_end : List ℕ → ℕ → List ℕ
fraction_end unit den = in_unit unit (codes "/" ++ decimal den)

-- those of the denominator divided by the powers of two, by so many, from the first on
abbrev pub fraction_ends : List ℕ → ℕ → ℕ → List (List ℕ)
fraction_ends unit den zero = []
fraction_ends unit den (suc n) = fraction_ends unit den n ++ fraction_end unit (den / 2 ^ n) ∷ []

-- so many times a scale's fraction, in lowest terms, its unit and the end of the line
abbrev pub times_scale : Scale → ℕ → List ℕ
times_scale scale n = in_unit scale.unit (reduced_text (n * scale.num) scale.den)
