-- What decoding answers.
use Rattle.std.specs.Prelude.{◌≡◌, ◌≢◌, ℕ, ◌+◌, ◌-◌, ◌*◌, ◌≤◌, ◌⊎◌, List, length, take, drop, Result, Ok, Err}
use Rattle.ax_bits.specs.Bits.{bits}
use Rattle.ax_format.specs.Blocks.{BlockTree, read_block, opaque_block, IsFramed}
use Rattle.ax_format.specs.Bodies.{SpellsRecord, FailsRecord, SpellsBody, FailsBody}
use Rattle.ax_format.specs.Plain.{spec_tree, value_tree, record_tree, block_tree}
use Rattle.ax_format.specs.Sizes.{longest_body}
use Rattle.ax_format.specs.Specification.{SpecTree}
use Rattle.ax_format.specs.Tree.{ValueTree, EntriesTree}
use Rattle.ax_format.specs.declared.fault.BodyFault.{BodyFault}
use Rattle.ax_format.specs.declared.record.Block.{Block}
use Rattle.ax_format.specs.declared.record.Record.{Record}
use Rattle.ax_format.specs.declared.spec.Spec.{Spec}
use Rattle.ax_format.specs.declared.value.Value.{Value}
use Rattle.ax_values.specs.declared.error.DecodeError.{DecodeError}
use Rattle.ax_values.specs.declared.error.DecodeError.TheVariants as Decoding

-- ---- a record

pub record IsRecordAt (spec : SpecTree) (body : List ℕ) (at end : ℕ) (entries : EntriesTree) : Type 0 where
  pub forwards : at ≤ end
  pub within : end ≤ length body
  pub spelling : SpellsRecord spec entries (bits (take (end - at) (drop at body)))

pub record IsRecordFaultAt (spec : SpecTree) (body : List ℕ) (at : ℕ) (fault : BodyFault) : Type 0 where
  pub place : ℕ
  pub fails : FailsRecord spec (bits (drop at body)) place fault.cause
  pub bit : fault.bit ≡ 8 * at + place

-- ---- a body

-- the block has the records that the body spells
pub record IsReadOf (spec : SpecTree) (category : ℕ) (body : List ℕ) (block : BlockTree) : Type 0 where
  pub records : List EntriesTree
  pub spelled : SpellsBody spec records (bits body)
  pub is : block ≡ read_block category records

pub record IsBodyFault (spec : SpecTree) (body : List ℕ) (fault : BodyFault) : Type 0 where
  pub fails : FailsBody spec (bits body) fault.bit fault.cause

-- ---- answers; want of memory may stand in place of any

-- the answer is good
abbrev pub IsOrMemory : {A : Type 0} → (A → Type 0) → Result A DecodeError → Type 0
IsOrMemory P (Ok a) = P a
IsOrMemory P (Err e) = e ≡ Decoding.OutOfMemory

-- the answer is this value, and this octet after it
abbrev pub AnswersValue : ValueTree → ℕ → Result (Value × ℕ) DecodeError → Type 0
AnswersValue v end answer = IsOrMemory (λ r. (value_tree r.0 ≡ v) × (r.1 ≡ end)) answer

-- the answer is this record, and this octet after it
abbrev pub AnswersRecord : EntriesTree → ℕ → Result (Record × ℕ) DecodeError → Type 0
AnswersRecord entries end answer = IsOrMemory (λ r. (record_tree r.0 ≡ entries) × (r.1 ≡ end)) answer

-- the answer is this block
abbrev pub AnswersBlock : BlockTree → Result Block DecodeError → Type 0
AnswersBlock block answer = IsOrMemory (λ made. block_tree made ≡ block) answer

-- the answer is this fault
abbrev pub AnswersFault : {A : Type 0} → BodyFault → Result A DecodeError → Type 0
AnswersFault fault (Ok a) = ⊥
AnswersFault fault (Err e) = (e ≡ Decoding.Fault fault) ⊎ (e ≡ Decoding.OutOfMemory)

-- a fault that the error names is such a one
abbrev pub IsFaultOf : (BodyFault → Type 0) → DecodeError → Type 0
IsFaultOf F (Decoding.Fault fault) = F fault
IsFaultOf F Decoding.OutOfMemory = Unit {0}

-- ---- a block, by its category and its body

-- where it is of another category, the answer is the opaque block
abbrev pub AnswersOther : Spec → ℕ → List ℕ → Result Block DecodeError → Type 0
AnswersOther spec category body answer = category ≢ spec.category → AnswersBlock (opaque_block category body) answer

-- where its body spells records, the answer is the block of these
abbrev pub AnswersSpelled : Spec → ℕ → List ℕ → Result Block DecodeError → Type 0
AnswersSpelled spec category body answer =
    (records : List EntriesTree) → category ≡ spec.category → SpellsBody (spec_tree spec) records (bits body) → AnswersBlock (read_block category records) answer

-- where its body fails, the answer is the fault
abbrev pub AnswersFaulty : Spec → ℕ → List ℕ → Result Block DecodeError → Type 0
AnswersFaulty spec category body answer = (fault : BodyFault) → category ≡ spec.category → IsBodyFault (spec_tree spec) body fault → AnswersFault fault answer

-- the block that was made has the records that its body spells
abbrev pub IsDecoded : Spec → ℕ → List ℕ → Block → Type 0
IsDecoded spec category body block = IsReadOf (spec_tree spec) category body (block_tree block)

-- what reading it may answer, where it is opaque, and where its body spells records
pub record DecodesAs (spec : Spec) (category : ℕ) (body : List ℕ) (answer : Result Block DecodeError) : Type 0 where
  pub opaque : AnswersOther spec category body answer
  pub where_spelled : AnswersSpelled spec category body answer

-- the octets are a block's, and reading them gives this block
pub record ReadsBack (spec : Spec) (block : Block) (octets : List ℕ) : Type 0 where
  pub category : ℕ
  pub body : List ℕ
  pub framed : IsFramed category body octets
  pub some : 1 ≤ length body
  pub few : length body ≤ longest_body
  pub same : (answer : Result Block DecodeError) → DecodesAs spec category body answer → AnswersBlock (block_tree block) answer
