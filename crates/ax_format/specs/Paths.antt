-- Paths: names joined by '/' (this project's own rule), and their texts, which begin with the category in three digits.
use Rattle.std.specs.Prelude.{◌≡◌, ℕ, ◌+◌, ◌/◌, ◌%◌, ◌<◌, ◌==◌, if◌then◌else◌, List, [], ◌∷◌, ◌++◌, length, codes}
use Rattle.std.specs.List.{AllByRecursion}
use Rattle.ax_format.specs.Characters.{IsName}

-- texts with '/' between them
abbrev pub joined : List (List ℕ) → List ℕ
joined [] = []
joined (name ∷ []) = name
joined (name ∷ names) = name ++ 47 ∷ joined names

-- one or more names, which joined are the text
pub record IsPathOf (text : List ℕ) (names : List (List ℕ)) : Type 0 where
  pub some : 0 < length names
  pub named : AllByRecursion IsName names
  pub spelled : joined names ≡ text

-- ---- texts of paths

-- a category, as its three decimal digits
abbrev pub three_digits : ℕ → List ℕ
three_digits n = (48 + n / 100) ∷ (48 + n / 10 % 10) ∷ (48 + n % 10) ∷ []

-- a path and one name more
abbrev pub at : List ℕ → List ℕ → List ℕ
at path name = path ++ codes "/" ++ name

-- the category and the names
abbrev pub path_text : ℕ → List (List ℕ) → List ℕ
path_text category names = joined (three_digits category ∷ names)

-- ---- the pieces of a text

abbrev pub onto : List ℕ → List (List ℕ) → List (List ℕ)
onto front [] = front ∷ []
onto front (piece ∷ pieces) = (front ++ piece) ∷ pieces

-- what stands between the slashes of a text, at least one piece, which may be empty
abbrev pub pieces : List ℕ → List (List ℕ)
pieces [] = [] ∷ []
pieces (x ∷ xs) = if x == 47 then [] ∷ pieces xs else onto (x ∷ []) (pieces xs)
