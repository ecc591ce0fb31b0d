-- What reading and writing a content answers, and what holds of all contents.
use Rattle.std.specs.Prelude.{◌≡◌, ℕ, ◌<◌, ◌⊎◌, ◌↔◌, List, Result, Ok, Err, IsErrOf, MatchResult}
use Rattle.ax_format.specs.Lengths.{capped}
use Rattle.ax_format.specs.Plain.{value_tree}
use Rattle.ax_format.specs.Tree.{SlotsTree, ValueTree}
use Rattle.ax_format.specs.declared.value.Value.{Value}
use Rattle.ax_grammar.specs.declared.error.SyntaxError.{SyntaxError}
use Rattle.ax_grammar.specs.declared.error.SyntaxError.TheVariants as Reading
use Rattle.ax_values.specs.declared.error.EncodeError.{EncodeError}
use Rattle.ax_values.specs.declared.error.EncodeError.TheVariants as Encoding
use Rattle.ax_expand.specs.Content.{SpellsContent, FailsContent}
use Rattle.ax_expand.specs.Expansion.{ExpansionTree, expansion_tree}
use Rattle.ax_expand.specs.declared.expansion.Expansion.{Expansion}
use Rattle.ax_expand.specs.declared.form.Form.{Form}
use Rattle.ax_expand.specs.declared.fault.ContentCause.{ContentCause}
use Rattle.ax_expand.specs.declared.fault.ContentError.{ContentError}
use Rattle.ax_expand.specs.declared.fault.ContentError.TheVariants as Failing

-- a fault that the error names is one of the content
abbrev pub IsContentFault : Form → SlotsTree → List ℕ → ContentError → Type 0
IsContentFault form ss b (Failing.Fault cause bit) = FailsContent form ss b bit cause
IsContentFault form ss b Failing.OutOfMemory = Unit {0}

-- the answer is good, or memory was wanting
abbrev pub IsOrMemory : {A : Type 0} → (A → Type 0) → Result A ContentError → Type 0
IsOrMemory P (Ok a) = P a
IsOrMemory P (Err e) = e ≡ Failing.OutOfMemory

-- the answer is that value, or memory was wanting
abbrev pub ReadsValue : ValueTree → Result Value ContentError → Type 0
ReadsValue v result = IsOrMemory (λ value. value_tree value ≡ v) result

-- the answer is that expansion, or memory was wanting
abbrev pub ReadsExpansion : ExpansionTree → Result Expansion SyntaxError → Type 0
ReadsExpansion x result = MatchResult result (λ found. expansion_tree found ≡ x) (λ error. error ≡ Reading.OutOfMemory)

-- the answer is that fault, or memory was wanting
abbrev pub AnswersFault : {A : Type 0} → ℕ → ContentCause → Result A ContentError → Type 0
AnswersFault p c (Ok a) = ⊥
AnswersFault p c (Err e) = (e ≡ Failing.Fault c p) ⊎ (e ≡ Failing.OutOfMemory)

-- a content is spelled by one value, or fails at one place with one cause, and never both
pub record IsJudgedOnce (form : Form) (ss : SlotsTree) (b : List ℕ) : Type 0 where
  pub some : ((v : ValueTree) × SpellsContent form ss v b) ⊎ ((p : ℕ) × (c : ContentCause) × FailsContent form ss b p c)
  pub one_spelled : (v w : ValueTree) → SpellsContent form ss v b → SpellsContent form ss w b → v ≡ w
  pub one_fault : (p q : ℕ) (c d : ContentCause) → FailsContent form ss b p c → FailsContent form ss b q d → (p ≡ q) × (c ≡ d)
  pub never_both : (v : ValueTree) (p : ℕ) (c : ContentCause) → SpellsContent form ss v b → FailsContent form ss b p c → ⊥

-- ---- of a content of n octets, where 254 fit

abbrev pub IsTooLongWhere : {A : Type 0} → ℕ → Result A EncodeError → Type 0
IsTooLongWhere n result = 254 < n ↔ IsErrOf result (Encoding.TooLong (capped n))

abbrev pub IsTooLongOrMemory : ℕ → EncodeError → Type 0
IsTooLongOrMemory n e = (e ≡ Encoding.TooLong (capped n)) ⊎ (e ≡ Encoding.OutOfMemory)
