-- Parts of expressions, as languages.
use Rattle.std.specs.Prelude.{◌≡◌, ℤ, [], ◌∷◌, ◌++◌, Result, Ok, Err}
use Rattle.ax_tokens.specs.Stopping.{Texts, Stops, Word, One, Then, Closed}
use Rattle.ax_tokens.specs.declared.stopped.Stopped.{Stopped}
use Rattle.ax_expressions.specs.Words.{IsPathText, IsOpText, IsIntText, path_word, op_text, int_text}
use Rattle.ax_expressions.specs.declared.expr.FullPath.{FullPath}
use Rattle.ax_expressions.specs.declared.expr.Op.{Op}
use Rattle.ax_expressions.specs.Spelling.{opening, closing, IsExpr}

-- a comparison and a number
abbrev pub IsOpAndInt : Texts → Type 0
IsOpAndInt = Then (One IsOpText) (One IsIntText)

-- a path, a comparison and a number
abbrev pub IsComparison : Texts → Type 0
IsComparison = Then (One IsPathText) IsOpAndInt

abbrev pub comparison_texts : FullPath × Op × ℤ → Texts
comparison_texts is = path_word is.0 ∷ op_text is.1 ∷ int_text is.2 ∷ []

-- expressions in braces
abbrev pub IsBraced : Texts → Type 0
IsBraced = Then (Word opening) (Closed IsExpr closing)

-- one expression and the brace after it
abbrev pub IsClosed : Texts → Type 0
IsClosed = Then IsExpr (Word closing)

-- one expression in braces
abbrev pub IsNegated : Texts → Type 0
IsNegated = Then (Word opening) IsClosed

-- what a call of a reader gives: something in form, whose texts stood in front, or where the reader stops
abbrev pub Gives : {X : Type 0} → (X → Type 0) → (X → Texts) → (Texts → Type 0) → Result X Stopped → Texts → Texts → Type 0
Gives R spelled L (Ok x) old new = R x × (old ≡ spelled x ++ new)
Gives R spelled L (Err stopped) old new = Stops stopped L old new
