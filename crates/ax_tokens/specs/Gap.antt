-- What may stand between tokens.
use Rattle.std.specs.Prelude.{◌≡◌, ℕ, List, [], ◌∷◌, ◌++◌, IsTrue}
use Rattle.std.specs.List.{list_all}
use Rattle.ax_tokens.specs.Octets.{hash, line_feed, is_separator, is_comment_octet}

-- a comment ends in front of a line feed, or where the text ends
abbrev pub EndsComment : List ℕ → Type 0
EndsComment [] = Unit {0}
EndsComment (octet ∷ rest) = octet ≡ line_feed

-- octets that stand in front of rest are separators and comments
pub data IsGap (rest : List ℕ) : List ℕ → Type 0 where
  no_octet : IsGap rest []
  separator : (octet : ℕ) (gap : List ℕ) → IsTrue (is_separator octet) → IsGap rest gap → IsGap rest (octet ∷ gap)
  comment : (body gap octets : List ℕ) → octets ≡ hash ∷ (body ++ gap) → IsTrue (list_all is_comment_octet body) → EndsComment (gap ++ rest) → IsGap rest gap → IsGap rest octets
