-- The single tokens of filter expressions (this project's own form).
use Rattle.std.specs.Prelude.{◌≡◌, ℕ, suc, ◌<◌, ◌^◌, List, [], ◌∷◌, length, codes, decimal, bytes_eq, find, Option, ℤ, pos, negsuc}
use Rattle.std.specs.List.{AllByRecursion}
use Rattle.ax_format.specs.Characters.{IsName}
use Rattle.ax_format.specs.Paths.{path_text}
use Rattle.ax_expressions.specs.declared.expr.FullPath.{FullPath}
use Rattle.ax_expressions.specs.declared.expr.Op.{Op}
use Rattle.ax_expressions.specs.declared.expr.Op.TheVariants.{Equal, Unequal, Less, LessOrEqual, Greater, GreaterOrEqual}
use Rattle.ax_expressions.specs.declared.words.FilterKeyword.{FilterKeyword}
use Rattle.ax_expressions.specs.declared.words.FilterKeyword.TheVariants as Word

-- ---- keywords

-- the first word of an expression
abbrev pub keyword_text : FilterKeyword → List ℕ
keyword_text Word.All = codes "all"
keyword_text Word.Any = codes "any"
keyword_text Word.Not = codes "not"
keyword_text Word.Present = codes "present"
keyword_text Word.Is = codes "is"

abbrev pub keywords : List FilterKeyword
keywords = Word.All ∷ Word.Any ∷ Word.Not ∷ Word.Present ∷ Word.Is ∷ []

-- the one of these octets
unfoldable pub keyword_of : List ℕ → Option FilterKeyword
keyword_of text = find (λ word. bytes_eq (keyword_text word) text) keywords

abbrev pub IsKeyword : List ℕ → Type 0
IsKeyword text = (word : FilterKeyword) × (text ≡ keyword_text word)

-- ---- comparisons

abbrev pub op_text : Op → List ℕ
op_text Equal = codes "="
op_text Unequal = codes "!="
op_text Less = codes "<"
op_text LessOrEqual = codes "<="
op_text Greater = codes ">"
op_text GreaterOrEqual = codes ">="

abbrev pub ops : List Op
ops = Equal ∷ Unequal ∷ Less ∷ LessOrEqual ∷ Greater ∷ GreaterOrEqual ∷ []

-- the comparison of a text
unfoldable pub op_of : List ℕ → Option Op
op_of text = find (λ op. bytes_eq (op_text op) text) ops

abbrev pub IsOpText : List ℕ → Type 0
IsOpText text = (op : Op) × (text ≡ op_text op)

-- ---- paths

-- a category, and one or more names
pub record IsPath (path : FullPath) : Type 0 where
  pub category : path.category < 256
  pub some : 0 < length path.names
  pub named : AllByRecursion IsName path.names

-- three digits and the names, joined by '/'
abbrev pub path_word : FullPath → List ℕ
path_word path = path_text path.category path.names

abbrev pub IsPathText : List ℕ → Type 0
IsPathText text = (path : FullPath) × IsPath path × (text ≡ path_word path)

-- ---- whole numbers

-- a number of at most 38 digits
abbrev pub IsInt : ℤ → Type 0
IsInt (pos n) = n < 10 ^ 38
IsInt (negsuc n) = suc n < 10 ^ 38

-- its digits, without leading zeros, after '-' where it is negative
abbrev pub int_text : ℤ → List ℕ
int_text (pos n) = decimal n
int_text (negsuc n) = 45 ∷ decimal (suc n)

abbrev pub IsIntText : List ℕ → Type 0
IsIntText text = (number : ℤ) × IsInt number × (text ≡ int_text number)
