-- Paths that lead nowhere over a catalogue, and the fault of an expression's tokens.
use Rattle.std.specs.Prelude.{◌≡◌, ℕ, ◌+◌, ◌<◌, List, codes, slice_get, Option, Some, None, option_and_then}
use Rattle.ax_check.specs.Places.{place_of, element_at}
use Rattle.ax_format.specs.Specification.{SpecTree, spec_of}
use Rattle.ax_format.specs.Tree.{FixedTree}
use Rattle.ax_format.specs.declared.place.Place.{Place}
use Rattle.ax_tokens.specs.FirstBad.{FirstBad}
use Rattle.ax_tokens.specs.Stopping.{Texts}
use Rattle.ax_expressions.specs.Spelling.{IsExpr}
use Rattle.ax_expressions.specs.Words.{IsPath, path_word}
use Rattle.ax_expressions.specs.declared.error.FilterError.{FilterError}
use Rattle.ax_expressions.specs.declared.error.FilterError.TheVariants.{BadToken, UnknownPath, NotAnElement, OutOfMemory}
use Rattle.ax_expressions.specs.declared.expr.FullPath.{FullPath}

-- ---- where a path leads over a catalogue

-- its place in the specification of its category
abbrev pub place_in : List SpecTree → FullPath → Option Place
place_in catalogue path = option_and_then (λ spec. place_of spec path.names) (spec_of path.category catalogue)

-- the element at that place
abbrev pub element_in : List SpecTree → FullPath → Option FixedTree
element_in catalogue path = option_and_then (λ spec. option_and_then (element_at spec) (place_of spec path.names)) (spec_of path.category catalogue)

-- ---- texts that are paths

-- a path whose category has no specification, or whose names are no place of it
pub record IsUnknown (catalogue : List SpecTree) (text : List ℕ) : Type 0 where
  pub path : FullPath
  pub form : IsPath path
  pub spelled : text ≡ path_word path
  pub nowhere : place_in catalogue path ≡ None

-- a path to a place that isn't an element
pub record IsNoElement (catalogue : List SpecTree) (text : List ℕ) : Type 0 where
  pub path : FullPath
  pub form : IsPath path
  pub spelled : text ≡ path_word path
  pub place : Place
  pub leads : place_in catalogue path ≡ Some place
  pub other : element_in catalogue path ≡ None

-- ---- tokens

-- the token of that number
abbrev pub TokenIs : Texts → ℕ → List ℕ → Type 0
TokenIs texts number text = slice_get texts number ≡ Some text

abbrev pub IsUnknownAt : List SpecTree → Texts → ℕ → Type 0
IsUnknownAt catalogue texts number = (text : List ℕ) × TokenIs texts number text × IsUnknown catalogue text

-- it stands after the word `is`
abbrev pub IsAfterIs : Texts → ℕ → Type 0
IsAfterIs texts number = (before : ℕ) × (number ≡ before + 1) × TokenIs texts before (codes "is")

abbrev pub IsNoElementAt : List SpecTree → Texts → ℕ → Type 0
IsNoElementAt catalogue texts number = (text : List ℕ) × TokenIs texts number text × IsNoElement catalogue text × IsAfterIs texts number

-- each path before that token leads to a place, and each after `is` to an element
abbrev pub PathsLead : List SpecTree → Texts → ℕ → Type 0
PathsLead catalogue texts end = (number : ℕ) → number < end → (IsUnknownAt catalogue texts number → ⊥) × (IsNoElementAt catalogue texts number → ⊥)

-- it stands before each token through which no expression begins
abbrev pub IsBeforeBad : Texts → ℕ → Type 0
IsBeforeBad texts number = (bad : ℕ) → FirstBad IsExpr texts bad → number < bad

-- the fault that a refusal names, which is that of the smallest number; want of memory may come at any tokens
abbrev pub IsFault : List SpecTree → Texts → FilterError → Type 0
IsFault catalogue texts (BadToken token) = FirstBad IsExpr texts token × PathsLead catalogue texts token
IsFault catalogue texts (UnknownPath token) = IsUnknownAt catalogue texts token × PathsLead catalogue texts token × IsBeforeBad texts token
IsFault catalogue texts (NotAnElement token) = IsNoElementAt catalogue texts token × PathsLead catalogue texts token × IsBeforeBad texts token
IsFault catalogue texts OutOfMemory = Unit {0}
