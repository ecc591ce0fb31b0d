-- Records that are kept, and the canonical block of them.
use Rattle.std.specs.Prelude.{◌≡◌, ℕ, ◌/◌, ◌%◌, ◌+◌, ◌⊎◌, Bool, true, false, List, [], ◌∷◌, ◌++◌, length}
use Rattle.std.specs.Borrow.{Bor}
use Rattle.ax_bits.specs.Bits.{bits, word}
use Rattle.ax_bits.specs.Out.{Appends, Replaces}
use Rattle.ax_bits.specs.declared.output.Out.{Out}
use Rattle.ax_format.specs.Blocks.{read_block}
use Rattle.ax_format.specs.Bodies.{SpellsRecord, SpellsBody, CanonBody}
use Rattle.ax_format.specs.CanonicalOctets.{canon_block}
use Rattle.ax_format.specs.Flaws.{NoFlaw}
use Rattle.ax_format.specs.Specification.{SpecTree}
use Rattle.ax_format.specs.Tree.{EntriesTree}
use Rattle.ax_codec.specs.Standing.{StandsFor}
use Rattle.ax_codec.specs.declared.codec.Codec.{Codec}
use Rattle.ax_walk.specs.RecordsAt.{IsRecordAt}
use Rattle.ax_walk.specs.declared.record.RecordView.{RecordView}

-- ---- which records are asked of

-- records follow one another from the front of the body to this octet
pub data StartsRecord (codec : Codec) (body : List ℕ) : ℕ → Type 0 where
  at_front : StartsRecord codec body 0
  after_one : (at end : ℕ) (octets : List ℕ) → StartsRecord codec body at → IsRecordAt codec body at end octets → StartsRecord codec body end

-- it is the view of one of the body's records
pub record IsOwnRecord (codec : Codec) (body : List ℕ) (one : RecordView) : Type 0 where
  pub under : one.codec.now ≡ codec
  pub at : ℕ
  pub end : ℕ
  pub starts : StartsRecord codec body at
  pub is : IsRecordAt codec body at end one.body.now

-- a call may be made on each of them
abbrev pub MayAskEach : (Bor RecordView → Type 0) → Codec → List ℕ → Type 0
MayAskEach may codec body = (one : Bor RecordView) → IsOwnRecord codec body one.now → may one

-- ---- what is kept

-- a call on a view of the record under that codec gives this answer
pub record Says (call : RecordView → Bool → Type 0) (codec : Codec) (spec : SpecTree) (entries : EntriesTree) (answer : Bool) : Type 0 where
  pub view : RecordView
  pub same : view.codec.now ≡ codec
  pub spells : SpellsRecord spec entries (bits view.body.now)
  pub says : call view answer

-- there is one answer for each record; these are the records with the answer true, in order
abbrev pub Keeps : (EntriesTree → Bool → Type 0) → List EntriesTree → List EntriesTree → Type 0
Keeps says [] ks = ks ≡ []
Keeps says (r ∷ rs) ks = (says r false × Keeps says rs ks) ⊎ ((rest : List EntriesTree) × says r true × (ks ≡ r ∷ rest) × Keeps says rs rest)

-- the canonical octets of the block of these records; none where there is no record
abbrev pub kept_octets : SpecTree → List EntriesTree → List ℕ
kept_octets spec [] = []
kept_octets spec (r ∷ rs) = canon_block spec (read_block spec.category (r ∷ rs))

-- the canonical octets of the kept ones of these records are appended, so many
pub record KeepsOf (call : RecordView → Bool → Type 0) (codec : Codec) (spec : SpecTree) (records : List EntriesTree) (n : ℕ) (old new : Out) : Type 0 where
  pub kept : List EntriesTree
  pub keeps : Keeps (Says call codec spec) records kept
  pub written : Appends old new (bits (kept_octets spec kept))
  pub octets : n ≡ length (kept_octets spec kept)

-- of the records that the body spells, for each specification that the codec stands for
pub record IsCanonicalIf (call : RecordView → Bool → Type 0) (codec : Codec) (body : List ℕ) (n : ℕ) (old new : Out) : Type 0 where
  pub kept : (spec : SpecTree) (records : List EntriesTree) → NoFlaw spec → StandsFor codec spec → SpellsBody spec records (bits body) → KeepsOf call codec spec records n old new

-- ---- while the records are written

abbrev pub are_some : List EntriesTree → Bool
are_some [] = false
are_some (r ∷ rs) = true

-- CAT, and a LEN that isn't known yet, before the first record
abbrev pub front_if : Bool → ℕ → List ℕ
front_if false category = []
front_if true category = word 8 category ++ word 16 0

-- the same and what stands after it; nothing before a record is kept
abbrev pub block_if : Bool → ℕ → List ℕ → List ℕ
block_if false category b = []
block_if true category b = front_if true category ++ b

-- the room for so many bits of records, and for the front where it isn't written
abbrev pub room_for : Bool → ℕ → ℕ
room_for false n = 24 + n
room_for true n = n

-- the kept ones of these records are written one after the other; `some` says whether there is one
pub record KeptWritten (call : RecordView → Bool → Type 0) (codec : Codec) (spec : SpecTree) (records : List EntriesTree) (some : Bool) (old new : Out) : Type 0 where
  pub kept : List EntriesTree
  pub keeps : Keeps (Says call codec spec) records kept
  pub said : are_some kept ≡ some
  pub appends : Appends old new (block_if some codec.category (CanonBody spec kept))

-- of the records that the body spells
pub record IsKeptBody (call : RecordView → Bool → Type 0) (codec : Codec) (body : List ℕ) (some : Bool) (old new : Out) : Type 0 where
  pub appended : (b : List ℕ) × Appends old new (block_if some codec.category b)
  pub written : (spec : SpecTree) (records : List EntriesTree) → NoFlaw spec → StandsFor codec spec → SpellsBody spec records (bits body) → KeptWritten call codec spec records some old new

-- LEN is written again, after CAT
pub record HasLength (n : ℕ) (old new : Out) : Type 0 where
  pub between : Out
  pub high : Replaces old between 1 (n / 256 % 256)
  pub low : Replaces between new 2 (n % 256)
