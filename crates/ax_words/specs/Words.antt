-- The shapes of the words of a command line (this project's own rules).
use Rattle.std.specs.Prelude.{◌≡◌, ℕ, ◌<◌, ◌==◌, false, List, [], ◌∷◌, length, drop, Result, Ok, Err}
use Rattle.std.specs.List.{AllByRecursion}
use Rattle.ax_words.specs.Arguments.{words_after, AreInBounds}
use Rattle.ax_words.specs.Verbs.{name_of, Said, of_verb, alone, said}
use Rattle.ax_words.specs.declared.error.WordsError.{WordsError}
use Rattle.ax_words.specs.declared.error.WordsError.TheVariants as ErrorOf
use Rattle.ax_words.specs.declared.line.Line.{Line}

abbrev pub words_said : Said → List (List ℕ)
words_said (of_verb verb arguments) = name_of verb ∷ words_after arguments
words_said (alone word) = word ∷ []

abbrev pub IsSaidInBounds : Said → Type 0
IsSaidInBounds (of_verb verb arguments) = AreInBounds arguments
IsSaidInBounds (alone word) = Unit {0}

-- the words that ask for it
abbrev pub words_of : Line → List (List ℕ)
words_of line = words_said (said line)

-- its numbers and its expression are within their bounds, and where it takes files at all it has one
abbrev pub IsInBounds : Line → Type 0
IsInBounds line = IsSaidInBounds (said line)

-- a word that doesn't begin with `-`
abbrev pub IsPlain : List ℕ → Type 0
IsPlain [] = Unit {0}
IsPlain (octet ∷ rest) = (octet == 45) ≡ false

-- the words ask for the line; none after the first begins with `-`, and there are fewer than 2^32
pub record HasShape (words : List (List ℕ)) (line : Line) : Type 0 where
  pub words_are : words ≡ words_of line
  pub in_bounds : IsInBounds line
  pub plain : AllByRecursion IsPlain (drop 1 words)
  pub few : length words < 4294967296

-- the words ask for no line
abbrev pub HasNoShape : List (List ℕ) → Type 0
HasNoShape words = (line : Line) → HasShape words line → ⊥

-- the line is what the words ask for; Usage comes where they ask for none, and want of memory may come at any words
abbrev pub JudgesWords : List (List ℕ) → Result Line WordsError → Type 0
JudgesWords words (Ok line) = HasShape words line
JudgesWords words (Err ErrorOf.Usage) = HasNoShape words
JudgesWords words (Err ErrorOf.OutOfMemory) = Unit {0}
