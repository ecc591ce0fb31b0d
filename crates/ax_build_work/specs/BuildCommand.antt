-- `build`: the canonical form of the block whose text a line is.
use Rattle.std.specs.Prelude.{◌≡◌, ℕ, List, [], ◌∷◌}
use Rattle.ax_block_reader.specs.BlockTexts.{IsBlockText, IsTextOf, IsLongText}
use Rattle.ax_lines.specs.declared.text_fault.TextFault.{TextFault}
use Rattle.ax_lines.specs.declared.text_fault.TextFault.TheVariants.{LineTooLong, BadByte, TooDeep, BadToken, TooLong}
use Rattle.ax_lines.specs.Commands.{LineAnswer, gives, nothing, refused, LineCommand}
use Rattle.ax_format.specs.Blocks.{BlockTree}
use Rattle.ax_format.specs.CanonicalOctets.{canon_over, category_of}
use Rattle.ax_format.specs.Plain.{catalogue_tree}
use Rattle.ax_format.specs.Specification.{SpecTree, spec_of}
use Rattle.ax_format.specs.declared.spec.Spec.{Spec}
use Rattle.ax_tokens.specs.FirstBad.{FirstBad}
use Rattle.ax_tokens.specs.Stopping.{texts_of}
use Rattle.ax_tokens.specs.Faults.{HasBadByte, IsTooDeep}
use Rattle.ax_tokens.specs.Lexing.{AreTokensOf}
use Rattle.ax_tokens.specs.PlainToken.{PlainToken}

-- the braces of a line nest at most this deep
abbrev pub deepest : ℕ
deepest = 20

-- the canonical octets of a block that fits the catalogue
abbrev pub canon_under : List SpecTree → BlockTree → List ℕ
canon_under catalogue block = canon_over (spec_of (category_of block) catalogue) block

-- the tokens are the text of a block, and these are its canonical octets
pub record IsBuiltOf (catalogue : List SpecTree) (tokens : List PlainToken) (octets : List ℕ) : Type 0 where
  pub block : BlockTree
  pub text : IsTextOf catalogue tokens block
  pub canonical : octets ≡ canon_under catalogue block

-- the tokens are no block's text, or that of a block that is too long
abbrev pub IsRefusedFor : List SpecTree → List PlainToken → TextFault → Type 0
IsRefusedFor catalogue tokens LineTooLong = ⊥
IsRefusedFor catalogue tokens (BadByte at) = ⊥
IsRefusedFor catalogue tokens (TooDeep token) = ⊥
IsRefusedFor catalogue tokens (BadToken token) = FirstBad (IsBlockText catalogue) (texts_of tokens) token
IsRefusedFor catalogue tokens (TooLong octets) = IsLongText catalogue tokens octets

-- the answer to one token or more
abbrev pub AnswersSome : List SpecTree → List PlainToken → LineAnswer TextFault → Type 0
AnswersSome catalogue tokens (gives octets) = IsBuiltOf catalogue tokens octets
AnswersSome catalogue tokens nothing = ⊥
AnswersSome catalogue tokens (refused fault) = IsRefusedFor catalogue tokens fault

-- the answer to the tokens of a line: a line without any asks for nothing
abbrev pub AnswersTokens : List SpecTree → List PlainToken → LineAnswer TextFault → Type 0
AnswersTokens catalogue [] answer = answer ≡ nothing
AnswersTokens catalogue (token ∷ tokens) answer = AnswersSome catalogue (token ∷ tokens) answer

-- the answer to a line: by its tokens, or by the first octet or brace for which it has none
pub data AnswersLine (catalogue : List SpecTree) (line : List ℕ) (answer : LineAnswer TextFault) : Type 0 where
  by_tokens : (tokens : List PlainToken) → AreTokensOf line deepest tokens → AnswersTokens catalogue tokens answer → AnswersLine catalogue line answer
  by_octet : (at : ℕ) → HasBadByte line deepest at → answer ≡ refused (BadByte at) → AnswersLine catalogue line answer
  by_brace : (token : ℕ) → IsTooDeep line deepest token → answer ≡ refused (TooDeep token) → AnswersLine catalogue line answer

-- whatever the line's number
abbrev pub build_command : List SpecTree → LineCommand TextFault
build_command catalogue = λ number line answer. AnswersLine catalogue line answer

-- that under the code's catalogue
abbrev pub command_of : List Spec → LineCommand TextFault
command_of catalogue = build_command (catalogue_tree catalogue)
