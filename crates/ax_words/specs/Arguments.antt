-- What may stand after a verb, in six shapes (this project's own rules).
use Rattle.std.specs.Prelude.{◌≡◌, ℕ, ◌<◌, ◌≤◌, ◌^◌, List, [], ◌∷◌, length, decimal}
use Rattle.ax_words.specs.declared.shape.Shape.{Shape}
use Rattle.ax_words.specs.declared.shape.Shape.TheVariants.{OneFile, Catalogue, Expression, Editions, Expansion, Numbers}

-- how many words may stand there
abbrev pub TakesCount : Shape → ℕ → Type 0
TakesCount OneFile count = count ≡ 1
TakesCount Catalogue count = 0 < count
TakesCount Expression count = 1 < count
TakesCount Editions count = count ≡ 2
TakesCount Expansion count = count ≡ 2
TakesCount Numbers count = count ≡ 3

-- what the words say: a case for each shape
pub data Arguments : Type 0 where
  one_file : List ℕ → Arguments
  catalogue : List (List ℕ) → Arguments
  expression : List ℕ → List (List ℕ) → Arguments  -- with the files after it
  editions : List ℕ → List ℕ → Arguments  -- the old one and the new one
  expansion : List ℕ → List ℕ → Arguments  -- a category file and its expansion file
  numbers : List ℕ → ℕ → ℕ → Arguments  -- a category file, the seed and the count

abbrev pub shape_of_arguments : Arguments → Shape
shape_of_arguments (one_file file) = OneFile
shape_of_arguments (catalogue files) = Catalogue
shape_of_arguments (expression expr files) = Expression
shape_of_arguments (editions old new) = Editions
shape_of_arguments (expansion spec other) = Expansion
shape_of_arguments (numbers file seed count) = Numbers

-- the words that say them
abbrev pub words_after : Arguments → List (List ℕ)
words_after (one_file file) = file ∷ []
words_after (catalogue files) = files
words_after (expression expr files) = expr ∷ files
words_after (editions old new) = old ∷ new ∷ []
words_after (expansion spec other) = spec ∷ other ∷ []
words_after (numbers file seed count) = file ∷ decimal seed ∷ decimal count ∷ []

-- the numbers and the expression are within their bounds, and where there may be several files there is one
abbrev pub AreInBounds : Arguments → Type 0
AreInBounds (one_file file) = Unit {0}
AreInBounds (catalogue files) = 0 < length files
AreInBounds (expression expr files) = (length expr ≤ 2 ^ 31) × (0 < length files)
AreInBounds (editions old new) = Unit {0}
AreInBounds (expansion spec other) = Unit {0}
AreInBounds (numbers file seed count) = (seed < 2 ^ 64) × (count ≤ 1000000)
