-- How octets are cut into lines, and where that ends.
use Rattle.std.specs.Prelude.{◌≡◌, ℕ, ◌+◌, ◌<◌, ◌≤◌, ◌⊎◌, List, [], ◌∷◌, ◌++◌, length}
use Rattle.ax_lines.specs.Feeds.{IsNoFeed, IsPlain}

-- how the lines of an input end: with the input, or at the first octet past one of its limits
pub data LinedEnd : Type 0 where
  all_lines : LinedEnd
  input_too_long : LinedEnd
  line_too_long : LinedEnd

-- ---- what comes next, after `before` octets of lines

-- a line and its line feed, within the limits
pub record IsFedLine (line_limit limit before : ℕ) (rest line after : List ℕ) : Type 0 where
  pub split : rest ≡ line ++ (10 ∷ after)
  pub plain : IsPlain line
  pub short : length line ≤ line_limit
  pub within : before + length line < limit

-- the last line, which has no line feed
pub record IsLastLine (line_limit limit before : ℕ) (rest line after : List ℕ) : Type 0 where
  pub split : rest ≡ line
  pub none_following : after ≡ []
  pub some : 0 < length line
  pub plain : IsPlain line
  pub short : length line ≤ line_limit
  pub within : before + length line ≤ limit

-- octet number limit + 1 of the input is there, and no line before it is too long
pub record PassesLimit (line_limit limit before : ℕ) (rest : List ℕ) : Type 0 where
  pub front : List ℕ
  pub octet : ℕ
  pub following : List ℕ
  pub split : rest ≡ front ++ (octet ∷ following)
  pub plain : IsPlain front
  pub short : length front ≤ line_limit
  pub count : before + length front ≡ limit

-- octet number line_limit + 1 of one line is there, within the limit of the input
pub record PassesLine (line_limit limit before : ℕ) (rest : List ℕ) : Type 0 where
  pub front : List ℕ
  pub octet : ℕ
  pub following : List ℕ
  pub split : rest ≡ front ++ (octet ∷ following)
  pub plain : IsPlain front
  pub one_more : IsNoFeed octet
  pub count : length front ≡ line_limit
  pub within : before + length front < limit

-- a line and the octets after it, or an end
pub data NextLine : Type 0 where
  line : List ℕ → List ℕ → NextLine
  end : LinedEnd → NextLine

abbrev pub IsNextLine : ℕ → ℕ → ℕ → List ℕ → NextLine → Type 0
IsNextLine line_limit limit before rest (line octets after) = IsFedLine line_limit limit before rest octets after ⊎ IsLastLine line_limit limit before rest octets after
IsNextLine line_limit limit before rest (end all_lines) = rest ≡ []
IsNextLine line_limit limit before rest (end input_too_long) = PassesLimit line_limit limit before rest
IsNextLine line_limit limit before rest (end line_too_long) = PassesLine line_limit limit before rest

-- this comes next, and nothing else does
pub record IsJustNextLine (line_limit limit before : ℕ) (rest : List ℕ) (part : NextLine) : Type 0 where
  pub is : IsNextLine line_limit limit before rest part
  pub just : (other : NextLine) → IsNextLine line_limit limit before rest other → other ≡ part

-- ---- all lines

-- the octets, with `before` others in front, are cut into these lines, up to this end
abbrev pub Lined : ℕ → ℕ → ℕ → List ℕ → List (List ℕ) → LinedEnd → Type 0
Lined line_limit limit before rest [] e = IsNextLine line_limit limit before rest (end e)
Lined line_limit limit before rest (octets ∷ lines) e =
    (after : List ℕ) × (taken : ℕ) × IsNextLine line_limit limit before rest (line octets after) × (length rest ≡ taken + length after) × Lined line_limit limit (before + taken) after lines e
