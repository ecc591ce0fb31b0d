-- What the walk over the tokens finds.
use Rattle.std.specs.Prelude.{◌≡◌, ℕ, ◌<◌, Bool, IsTrue, List, Some, Option, MatchOption}
use Rattle.ax_format.specs.Specification.{SpecTree}
use Rattle.ax_format.specs.Tree.{FixedTree}
use Rattle.ax_tokens.specs.Stopping.{Texts}
use Rattle.ax_expressions.specs.Faults.{element_in, IsUnknown, IsNoElement, IsUnknownAt, IsNoElementAt, PathsLead}
use Rattle.ax_expressions.specs.Words.{IsPath, path_word, IsPathText}
use Rattle.ax_expressions.specs.declared.error.FilterError.{FilterError}
use Rattle.ax_expressions.specs.declared.error.FilterError.TheVariants.{BadToken, UnknownPath, NotAnElement, OutOfMemory}
use Rattle.ax_expressions.specs.declared.expr.FullPath.{FullPath}
use Rattle.ax_expressions.specs.declared.faults.Lead.{Lead}
use Rattle.ax_expressions.specs.declared.faults.Lead.TheVariants.{NoPath, Nowhere, ToOther, ToElement}
use Rattle.ax_expressions.specs.declared.faults.PathFault.{PathFault}
use Rattle.ax_expressions.specs.declared.faults.PathFault.TheVariants.{Unknown, NoElement}

-- a path to an element
pub record IsElementPath (catalogue : List SpecTree) (text : List ℕ) : Type 0 where
  pub path : FullPath
  pub form : IsPath path
  pub spelled : text ≡ path_word path
  pub element : FixedTree
  pub leads : element_in catalogue path ≡ Some element

-- where a text leads
abbrev pub IsLeading : List SpecTree → List ℕ → Lead → Type 0
IsLeading catalogue text NoPath = IsPathText text → ⊥
IsLeading catalogue text Nowhere = IsUnknown catalogue text
IsLeading catalogue text ToOther = IsNoElement catalogue text
IsLeading catalogue text ToElement = IsElementPath catalogue text

-- a text leads nowhere, or after `is` to no element
abbrev pub HasFault : List SpecTree → List ℕ → Bool → ℕ → PathFault → Type 0
HasFault catalogue text after_is number (Unknown token) = (token ≡ number) × IsUnknown catalogue text
HasFault catalogue text after_is number (NoElement token) = (token ≡ number) × IsNoElement catalogue text × IsTrue after_is

abbrev pub HasNoFault : List SpecTree → List ℕ → Bool → Type 0
HasNoFault catalogue text after_is = (IsUnknown catalogue text → ⊥) × (IsTrue after_is → IsNoElement catalogue text → ⊥)

-- whether there is one is told of the text of a token
abbrev pub TellsFault : List SpecTree → List ℕ → Bool → ℕ → Option PathFault → Type 0
TellsFault catalogue text after_is number found = MatchOption found (HasNoFault catalogue text after_is) (HasFault catalogue text after_is number)

-- a fault before the end, and none before it
abbrev pub IsFirstFault : List SpecTree → Texts → ℕ → PathFault → Type 0
IsFirstFault catalogue texts end (Unknown token) = (token < end) × IsUnknownAt catalogue texts token × PathsLead catalogue texts token
IsFirstFault catalogue texts end (NoElement token) = (token < end) × IsNoElementAt catalogue texts token × PathsLead catalogue texts token

-- the first fault before the end is told, if there is one
abbrev pub TellsFirstFault : List SpecTree → Texts → ℕ → Option PathFault → Type 0
TellsFirstFault catalogue texts end found = MatchOption found (PathsLead catalogue texts end) (IsFirstFault catalogue texts end)

-- a fault of a path before the end
abbrev pub IsPathFault : List SpecTree → Texts → ℕ → FilterError → Type 0
IsPathFault catalogue texts end (UnknownPath token) = IsFirstFault catalogue texts end (Unknown token)
IsPathFault catalogue texts end (NotAnElement token) = IsFirstFault catalogue texts end (NoElement token)
IsPathFault catalogue texts end (BadToken token) = ⊥
IsPathFault catalogue texts end OutOfMemory = Unit {0}
