-- When a fault can be trusted: it is at the earliest bit that tells it, and want of bits is no other fault.
use Rattle.std.specs.Prelude.{◌≡◌, ◌≢◌, ℕ, ◌+◌, ◌*◌, ◌↔◌, List, ◌++◌, take, drop}
use Rattle.ax_bits.specs.Bits.{bits, AreOctets}
use Rattle.ax_format.specs.Bodies.{SpellsRecord, SpellsBody}
use Rattle.ax_format.specs.Specification.{SpecTree}
use Rattle.ax_format.specs.Spelling.{Spells}
use Rattle.ax_format.specs.Telling.{fault_bits}
use Rattle.ax_format.specs.Tree.{KindTree, ValueTree, EntriesTree}
use Rattle.ax_format.specs.declared.fault.BodyCause.{BodyCause}
use Rattle.ax_format.specs.declared.fault.BodyCause.TheVariants.{RunsOut}
use Rattle.ax_format.specs.declared.fault.BodyFault.{BodyFault}

-- ---- what the bits of a call are to be

-- they spell one or more records
abbrev pub SpellRecords : SpecTree → List ℕ → Type 0
SpellRecords spec b = (records : List EntriesTree) × SpellsBody spec records b

-- some of the first of them, perhaps all, spell a value of the kind
abbrev pub BeginWithValue : KindTree → List ℕ → Type 0
BeginWithValue k b = (v : ValueTree) × (x : List ℕ) × (y : List ℕ) × (b ≡ x ++ y) × Spells k v x

-- some of the first of them, perhaps all, spell a record
abbrev pub BeginWithRecord : SpecTree → List ℕ → Type 0
BeginWithRecord spec b = (entries : EntriesTree) × (x : List ℕ) × (y : List ℕ) × (b ≡ x ++ y) × SpellsRecord spec entries x

-- ---- such a fault

-- the bit and the cause of a fault of octets whose bits aren't spelled
pub record IsHonest (Spelled : List ℕ → Type 0) (octets : List ℕ) (bit : ℕ) (cause : BodyCause) : Type 0 where
  -- they run out exactly where some octets can be put after them so that all are spelled
  pub runs_out : cause ≡ RunsOut ↔ ((more : List ℕ) × AreOctets more × Spelled (bits (octets ++ more)))
  -- with any other cause, no bits are spelled that begin with theirs through the named one (with a bad explicit length,
  -- through the whole octet that begins there)
  pub stays : cause ≢ RunsOut → (rest : List ℕ) → Spelled (take (bit + fault_bits cause) (bits octets) ++ rest) → ⊥
  -- their bits before the named one begin bits that are spelled
  pub begins : (rest : List ℕ) × Spelled (take bit (bits octets) ++ rest)

-- the same of what is left of a body from octet `at` on; the fault's bit is one of the body
pub record IsHonestAt (Spelled : List ℕ → Type 0) (body : List ℕ) (at : ℕ) (fault : BodyFault) : Type 0 where
  pub place : ℕ
  pub bit : fault.bit ≡ 8 * at + place
  pub honest : IsHonest Spelled (drop at body) place fault.cause
