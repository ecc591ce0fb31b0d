-- Records and bodies over a specification (data blocks, FSPEC). A record is its entries, by field reference number (FRN).
use Rattle.std.specs.Prelude.{◌≡◌, ℕ, ◌+◌, ◌<◌, List, [], ◌∷◌, ◌++◌, length, flat_map}
use Rattle.ax_format.specs.Canonical.{canon}
use Rattle.ax_format.specs.Failing.{Fails}
use Rattle.ax_format.specs.Shape.{Shape}
use Rattle.ax_format.specs.Specification.{SpecTree, record_kind}
use Rattle.ax_format.specs.Spelling.{Spells}
use Rattle.ax_format.specs.Tree.{EntriesTree, marked}
use Rattle.ax_format.specs.declared.fault.BodyCause.{BodyCause}

-- ---- records

pub record RecordShape (spec : SpecTree) (entries : EntriesTree) : Type 0 where
  pub shape : Shape (record_kind spec) (marked entries)

pub record SpellsRecord (spec : SpecTree) (entries : EntriesTree) (b : List ℕ) : Type 0 where
  pub spells : Spells (record_kind spec) (marked entries) b

abbrev pub CanonRecord : SpecTree → EntriesTree → List ℕ
CanonRecord spec entries = canon (record_kind spec) (marked entries)

pub record FailsRecord (spec : SpecTree) (b : List ℕ) (p : ℕ) (c : BodyCause) : Type 0 where
  pub fails : Fails (record_kind spec) b p c

-- ---- bodies

-- the spellings of records, perhaps none, joined in order
abbrev pub RecordsSpell : SpecTree → List EntriesTree → List ℕ → Type 0
RecordsSpell spec [] b = b ≡ []
RecordsSpell spec (r ∷ rs) b = (x : List ℕ) × (y : List ℕ) × (b ≡ x ++ y) × SpellsRecord spec r x × RecordsSpell spec rs y

-- the spellings of one or more records, joined in order
pub record SpellsBody (spec : SpecTree) (records : List EntriesTree) (b : List ℕ) : Type 0 where
  pub some : 0 < length records
  pub spelled : RecordsSpell spec records b

abbrev pub CanonBody : SpecTree → List EntriesTree → List ℕ
CanonBody spec records = flat_map (λ r. CanonRecord spec r) records

-- some records, perhaps none, are spelled before; more bits are left, and a record fails on them; p is counted from the
-- body's first bit
pub record FailsBody (spec : SpecTree) (b : List ℕ) (p : ℕ) (c : BodyCause) : Type 0 where
  pub records : List EntriesTree
  pub before : List ℕ
  pub left : List ℕ
  pub split : b ≡ before ++ left
  pub spelled : RecordsSpell spec records before
  pub some : 0 < length left
  pub place : ℕ
  pub counted : p ≡ length before + place
  pub fails : FailsRecord spec left place c
