-- Line commands: what each does with the lines of an input.
use Rattle.std.specs.Prelude.{◌≡◌, ℕ, ◌+◌, List, [], ◌∷◌, flat_map, sum_by}
use Rattle.std.specs.List.{AllByRecursion}

-- the answer to a line: octets for the output; or nothing, since the line asks for nothing; or a refusal for this fault
pub data LineAnswer (F : Type 0) : Type 0 where
  gives : List ℕ → LineAnswer F
  nothing : LineAnswer F
  refused : F → LineAnswer F

-- a command is the relation of a line to its answer; the line is given without its line feed, by its number from 0
abbrev pub LineCommand : Type 0 → Type 1
LineCommand F = ℕ → List ℕ → LineAnswer F → Type 0

-- no line has two answers
abbrev pub HasOneAnswer : {F : Type 0} → LineCommand F → Type 0
HasOneAnswer c = (number : ℕ) (octets : List ℕ) (a b : LineAnswer _) → c number octets a → c number octets b → a ≡ b

-- what the new command answers the old one answers too
abbrev pub KeepsTo : {F : Type 0} → LineCommand F → LineCommand F → Type 0
KeepsTo old new = (number : ℕ) (octets : List ℕ) (a : LineAnswer _) → new number octets a → old number octets a

abbrev pub octets_in : {F : Type 0} → LineAnswer F → List ℕ
octets_in (gives octets) = octets
octets_in nothing = []
octets_in (refused fault) = []

-- how many results: one or none
abbrev pub results_in : {F : Type 0} → LineAnswer F → ℕ
results_in (gives octets) = 1
results_in nothing = 0
results_in (refused fault) = 0

abbrev pub IsAnswered : {F : Type 0} → LineAnswer F → Type 0
IsAnswered (gives octets) = Unit {0}
IsAnswered nothing = Unit {0}
IsAnswered (refused fault) = ⊥

-- ---- of lines

-- what the answers write
abbrev pub output_of : {F : Type 0} → List (LineAnswer F) → List ℕ
output_of answers = flat_map octets_in answers

abbrev pub results_of : {F : Type 0} → List (LineAnswer F) → ℕ
results_of answers = sum_by results_in answers

-- line by line an answer of the command, where the first line has that number
abbrev pub AreAnswersFrom : {F : Type 0} → LineCommand F → ℕ → List (List ℕ) → List (LineAnswer F) → Type 0
AreAnswersFrom c n [] [] = Unit {0}
AreAnswersFrom c n [] (a ∷ answers) = ⊥
AreAnswersFrom c n (line ∷ lines) [] = ⊥
AreAnswersFrom c n (line ∷ lines) (a ∷ answers) = c n line a × AreAnswersFrom c (n + 1) lines answers

-- the command's answers to the first lines of an input, none of which it refuses
pub record AreAnswered {F : Type 0} (c : LineCommand F) (lines : List (List ℕ)) (answers : List (LineAnswer F)) : Type 0 where
  pub each : AreAnswersFrom c 0 lines answers
  pub none_refused : AllByRecursion IsAnswered answers
