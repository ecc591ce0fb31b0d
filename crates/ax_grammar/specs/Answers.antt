-- What tokens spell, and which of them is bad where they spell nothing.
use Rattle.std.specs.Prelude.{◌≡◌, ℕ, List, MatchResult, Result, map}
use Rattle.ax_format.specs.Specification.{SpecTree}
use Rattle.ax_tokens.specs.PlainToken.{PlainToken}
use Rattle.ax_tokens.specs.FirstBad.{FirstBad}
use Rattle.ax_grammar.specs.Spelling.{spelled}
use Rattle.ax_grammar.specs.InRange.{InRange}
use Rattle.ax_grammar.specs.declared.error.SyntaxError.{SyntaxError}
use Rattle.ax_grammar.specs.declared.error.SyntaxError.TheVariants.{BadToken, OutOfMemory}

-- the texts of tokens
abbrev pub texts_of : List PlainToken → List (List ℕ)
texts_of tokens = map (λ t. t.text) tokens

-- the language of a spelling: the texts of the trees that fit
abbrev pub Spelled : {A : Type 0} → (A → Type 0) → (A → List (List ℕ)) → List (List ℕ) → Type 0
Spelled {A} Fits spell texts = (a : A) × Fits a × (texts ≡ spell a)

-- the tokens are the spelling of the tree
pub record SpellsSpec (tokens : List PlainToken) (spec : SpecTree) : Type 0 where
  pub in_range : InRange spec
  pub texts : texts_of tokens ≡ spelled spec

-- the language of category files: the spellings of trees
abbrev pub IsSpec : List (List ℕ) → Type 0
IsSpec texts = Spelled InRange spelled texts

-- the tokens spell no tree; the tokens before this one begin some spelling, and none begins with those and this one. It is
-- the count of the tokens where some spelling begins with all of them
abbrev pub NamesBadToken : List PlainToken → ℕ → Type 0
NamesBadToken tokens token = FirstBad IsSpec (texts_of tokens) token

-- the bad token that an error names; want of memory may come at any tokens
abbrev pub IsBad : List PlainToken → SyntaxError → Type 0
IsBad tokens (BadToken token) = NamesBadToken tokens token
IsBad tokens OutOfMemory = Unit {0}

-- of an answer this holds, or memory ran out
abbrev pub UnlessMemory : {A : Type 0} → Result A SyntaxError → (A → Type 0) → Type 0
UnlessMemory result P = MatchResult result P (λ error. error ≡ OutOfMemory)
