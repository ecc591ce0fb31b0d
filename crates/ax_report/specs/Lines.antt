-- Lines of the report (this project's own rules).
use Rattle.std.specs.Prelude.{ℕ, List, ◌++◌, codes, decimal}

-- a text and a number after it
abbrev pub numbered : List ℕ → ℕ → List ℕ
numbered front n = front ++ decimal n

-- of an entry: what is said of it in one word, the number of its block, the number of the record in the block, and its path
abbrev pub entry_line : List ℕ → ℕ → ℕ → List ℕ → List ℕ
entry_line word block n path = word ++ (numbered (codes " block ") block ++ (numbered (codes " record ") n ++ (codes " " ++ (path ++ codes "\n"))))

-- the rest of such a line, after the word
abbrev pub entry_place : ℕ → ℕ → List ℕ → List ℕ
entry_place block n path = numbered (codes " block ") block ++ (numbered (codes " record ") n ++ (codes " " ++ (path ++ codes "\n")))
