-- What a scanned body is.
use Rattle.std.specs.Prelude.{◌≡◌, ℕ, Bool, IsTrue, List, length, flat_map}
use Rattle.std.specs.List.{AllZip}
use Rattle.std.specs.Coded.{Coded-set, coded_ℕ, coded_list}
use Rattle.ax_bits.specs.Bits.{bits}
use Rattle.ax_format.specs.Bodies.{SpellsRecord, SpellsBody, FailsBody, CanonBody}
use Rattle.ax_format.specs.Flaws.{NoFlaw}
use Rattle.ax_format.specs.Specification.{SpecTree}
use Rattle.ax_format.specs.Tree.{EntriesTree}
use Rattle.ax_format.specs.declared.fault.BodyFault.{BodyFault}
use Rattle.ax_fspec.specs.Honest.{SpellRecords, IsHonest}
use Rattle.ax_codec.specs.Standing.{StandsFor}
use Rattle.ax_codec.specs.declared.codec.Codec.{Codec}

-- where the flag says so, the body is the canonical spelling of the records that it spells, for each specification that the
-- codec stands for
abbrev pub IsLeast : Codec → List ℕ → Bool → Type 0
IsLeast codec body least = (spec : SpecTree) (records : List EntriesTree) → NoFlaw spec → StandsFor codec spec → SpellsBody spec records (bits body) → IsTrue least → CanonBody spec records ≡ bits body

pub IsLeast-prop : (codec : Codec) (body : List ℕ) (least : Bool) → IsProp (IsLeast codec body least)
IsLeast-prop codec body least a b = λ i. λ spec records clean stands spells yes. Coded-set (coded_list coded_ℕ) (CanonBody spec records) (bits body) (a spec records clean stands spells yes) (b spec records clean stands spells yes) i

-- the body spells records of each specification that the codec stands for
pub record SpellsSome (codec : Codec) (body : List ℕ) : Type 0 where
  pub spells : (spec : SpecTree) → NoFlaw spec → StandsFor codec spec → (records : List EntriesTree) × SpellsBody spec records (bits body)

-- the body fails there, for each specification that the codec stands for
pub record FailsThere (codec : Codec) (body : List ℕ) (fault : BodyFault) : Type 0 where
  pub fails : (spec : SpecTree) → NoFlaw spec → StandsFor codec spec → FailsBody spec (bits body) fault.bit fault.cause

-- the fault can be trusted, for each specification that the codec stands for
pub record IsHonestThere (codec : Codec) (body : List ℕ) (fault : BodyFault) : Type 0 where
  pub honest : (spec : SpecTree) → NoFlaw spec → StandsFor codec spec → IsHonest (SpellRecords spec) body fault.bit fault.cause

-- that many records are spelled
pub record CountsRecords (codec : Codec) (body : List ℕ) (count : ℕ) : Type 0 where
  pub counts : (spec : SpecTree) (records : List EntriesTree) → NoFlaw spec → StandsFor codec spec → SpellsBody spec records (bits body) → count ≡ length records

-- under this codec the octets spell the record
abbrev pub IsRecordOf : Codec → SpecTree → EntriesTree → Codec × List ℕ → Type 0
IsRecordOf codec spec entries shown = (shown.0 ≡ codec) × SpellsRecord spec entries (bits shown.1)

-- each of the body's records is spelled by the octets in its place, and these join to the body
pub record SpellEach (codec : Codec) (body : List ℕ) (shown : List (Codec × List ℕ)) : Type 0 where
  pub spells : (spec : SpecTree) (records : List EntriesTree) → NoFlaw spec → StandsFor codec spec → SpellsBody spec records (bits body) → AllZip (IsRecordOf codec spec) records shown
  pub joined : flat_map (λ (s : Codec × List ℕ). s.1) shown ≡ body
