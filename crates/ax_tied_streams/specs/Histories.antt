-- What was given to an output and to a report, from call to call.
use Rattle.std.specs.Prelude.{◌≡◌, ℕ, List, [], ◌∷◌, ◌++◌}

-- what one call gave
pub data Piece : Type 0 where
  to_output : List ℕ → Piece
  to_report : List ℕ → Piece

-- the octets that a history gave to the output; the newest piece stands in front
abbrev pub octets_of : List Piece → List ℕ
octets_of [] = []
octets_of (to_output text ∷ earlier) = octets_of earlier ++ text
octets_of (to_report text ∷ earlier) = octets_of earlier

-- the octets of lines that it gave to the report
abbrev pub lines_of : List Piece → List ℕ
lines_of [] = []
lines_of (to_output text ∷ earlier) = lines_of earlier
lines_of (to_report text ∷ earlier) = lines_of earlier ++ text

-- those of lines that nothing was given to the output after
abbrev pub last_lines : List Piece → List ℕ
last_lines [] = []
last_lines (to_output text ∷ earlier) = []
last_lines (to_report text ∷ earlier) = last_lines earlier ++ text

-- at some moment exactly these octets and these lines had been given
pub record HasMoment (history : List Piece) (octets lines : List ℕ) : Type 0 where
  pub later : List Piece
  pub earlier : List Piece
  pub parts : history ≡ later ++ earlier
  pub octets_given : octets_of earlier ≡ octets
  pub lines_given : lines_of earlier ≡ lines
