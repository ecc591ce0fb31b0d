-- The language of expansion files: how a tree is spelled, and which token is bad where tokens spell none.
use Rattle.std.specs.Prelude.{◌≡◌, ℕ, ◌<◌, ◌≤◌, List, [], ◌∷◌, ◌++◌, decimal}
use Rattle.ax_format.specs.Paths.{three_digits}
use Rattle.ax_tokens.specs.PlainToken.{PlainToken}
use Rattle.ax_tokens.specs.FirstBad.{FirstBad}
use Rattle.ax_grammar.specs.Answers.{texts_of, Spelled}
use Rattle.ax_grammar.specs.InRange.{IsText, SlotsInRange}
use Rattle.ax_grammar.specs.Keywords.{keyword_text}
use Rattle.ax_grammar.specs.Spelling.{quoted, closed, slots_texts}
use Rattle.ax_grammar.specs.declared.error.SyntaxError.{SyntaxError}
use Rattle.ax_grammar.specs.declared.error.SyntaxError.TheVariants.{BadToken, OutOfMemory}
use Rattle.ax_grammar.specs.declared.keyword.Keyword.TheVariants as Word
use Rattle.ax_expand.specs.Expansion.{ExpansionTree}
use Rattle.ax_expand.specs.declared.form.Form.{Form}
use Rattle.ax_expand.specs.declared.form.Form.TheVariants.{Fx, Fixed}

-- fx, or fixed and the number of octets
abbrev pub form_texts : Form → List (List ℕ)
form_texts Fx = keyword_text Word.Fx ∷ []
form_texts (Fixed n) = keyword_text Word.Fixed ∷ decimal n ∷ []

-- slots in braces
abbrev pub braced_texts : List (List ℕ) → List (List ℕ)
braced_texts texts = keyword_text Word.Open ∷ closed texts

-- the texts of the tokens that spell a tree
abbrev pub expansion_texts : ExpansionTree → List (List ℕ)
expansion_texts x =
    keyword_text Word.Expansion ∷ three_digits x.category ∷ keyword_text Word.Edition ∷ quoted x.edition
    ∷ (form_texts x.form ++ braced_texts (slots_texts x.slots))

-- a file has 1 to 15 octets of marks
abbrev pub FormInRange : Form → Type 0
FormInRange Fx = Unit {0}
FormInRange (Fixed n) = (1 ≤ n) × (n ≤ 15)

-- names are names, texts are texts, and numbers have the digits that the grammar leaves them
pub record ExpansionInRange (x : ExpansionTree) : Type 0 where
  pub category : x.category < 256
  pub edition : IsText x.edition
  pub form : FormInRange x.form
  pub slots : SlotsInRange x.slots

-- the tokens are the spelling of the tree
pub record SpellsExpansion (tokens : List PlainToken) (x : ExpansionTree) : Type 0 where
  pub in_range : ExpansionInRange x
  pub texts : texts_of tokens ≡ expansion_texts x

-- the language of expansion files: the spellings of trees
abbrev pub IsExpansion : List (List ℕ) → Type 0
IsExpansion texts = Spelled ExpansionInRange expansion_texts texts

-- the tokens spell no tree; the tokens before this one begin some spelling, and none begins with those and this one. It is
-- the count of the tokens where some spelling begins with all of them
abbrev pub NamesBadExpansionToken : List PlainToken → ℕ → Type 0
NamesBadExpansionToken tokens token = FirstBad IsExpansion (texts_of tokens) token

-- the bad token that an error names; want of memory may come at any tokens
abbrev pub IsBadExpansion : List PlainToken → SyntaxError → Type 0
IsBadExpansion tokens (BadToken token) = NamesBadExpansionToken tokens token
IsBadExpansion tokens OutOfMemory = Unit {0}
