-- What the reader finds is what the definitions say.
use Rattle.std.proofs.Common.{◌≡◌, ℕ, List, [], ◌++◌, length, sym, ◌∙◌, subst, append-nil, arith, ◌<◌}
use Rattle.ax_bits.proofs.Words.{bits-AreBits}
use Rattle.ax_bits.specs.Bits.{AreBits, bits}
use Rattle.ax_format.proofs.BodyReader.{BodyMeets, body_meets}
use Rattle.ax_format.proofs.Failed.{read_failed}
use Rattle.ax_format.proofs.Meets.{Meets, read_meets}
use Rattle.ax_format.proofs.Once.{read_fault}
use Rattle.ax_format.specs.Reader.{read, failed, got, Read, body_read, whole_body, fault_at}
use Rattle.ax_format.specs.Bodies.{SpellsRecord, SpellsBody, FailsBody}
use Rattle.ax_format.specs.Failing.{Fails, IsFault}
use Rattle.ax_format.specs.Sound.{Sound}
use Rattle.ax_format.specs.Specification.{SpecTree, record_kind}
use Rattle.ax_format.specs.Spelling.{Spells, IsSpelling}
use Rattle.ax_format.specs.Tree.{KindTree, ValueTree, EntriesTree, marked}
use Rattle.ax_format.specs.declared.fault.BodyCause.{BodyCause}

pub failed_by_reading : (k : KindTree) (b : List ℕ) (p : ℕ) (c : BodyCause) → Sound k → AreBits b → read k b ≡ failed p c → Fails k b p c
failed_by_reading k b p c sound bit e = subst (Meets (Spells k) (Fails k b) b) e (read_meets k b sound bit)

pub front_by_reading : (k : KindTree) (v : ValueTree) (b y : List ℕ) (n : ℕ) → Sound k → AreBits b → read k b ≡ got v n y → (x : List ℕ) × (b ≡ x ++ y) × (length x ≡ n) × Spells k v x
front_by_reading k v b y n sound bit e = subst (Meets (Spells k) (Fails k b) b) e (read_meets k b sound bit)

pub spelled_by_reading : (k : KindTree) (v : ValueTree) (b : List ℕ) (n : ℕ) → Sound k → AreBits b → read k b ≡ got v n [] → Spells k v b
spelled_by_reading k v b n sound bit e =
    let t = front_by_reading k v b [] n sound bit e in subst (Spells k v) (sym (t.1 ∙ append-nil t.0)) t.3

-- ---- for clauses, of octets

pub spelling : (k : KindTree) (v : ValueTree) (xs : List ℕ) (n : ℕ) → Sound k → read k (bits xs) ≡ got v n [] → IsSpelling k v (bits xs)
spelling k v xs n sound e = record { spells = spelled_by_reading k v (bits xs) n sound (bits-AreBits xs) e }

pub fault : (k : KindTree) (xs : List ℕ) (p : ℕ) (c : BodyCause) → Sound k → read k (bits xs) ≡ failed p c → IsFault k (bits xs) p c
fault k xs p c sound e = record { fails = failed_by_reading k (bits xs) p c sound (bits-AreBits xs) e }

-- octets that fail at a place with a cause fail at no other place and with no other cause
pub only_fault : (k : KindTree) (xs : List ℕ) (p q : ℕ) (c d : BodyCause) → read k (bits xs) ≡ failed q d → IsFault k (bits xs) p c → (p ≡ q) × (c ≡ d)
only_fault k xs p q c d e h = let same : ◌≡◌ {A = Read ValueTree} (failed p c) (failed q d) = sym (read_failed k (bits xs) p c h.fails) ∙ e in (cc, cc)

-- ---- bodies

pub record_by_reading : (spec : SpecTree) (r : EntriesTree) (xs : List ℕ) (n : ℕ) → Sound (record_kind spec) → read (record_kind spec) (bits xs) ≡ got (marked r) n [] → SpellsRecord spec r (bits xs)
record_by_reading spec r xs n sound e = record { spells = spelled_by_reading (record_kind spec) (marked r) (bits xs) n sound (bits-AreBits xs) e }

pub body_spelled_by_reading : (spec : SpecTree) (rs : List EntriesTree) (xs : List ℕ) → Sound (record_kind spec) → 0 < length rs → body_read (length (bits xs)) spec (bits xs) ≡ whole_body rs → SpellsBody spec rs (bits xs)
body_spelled_by_reading spec rs xs sound some e =
    record { some = some; spelled = subst (BodyMeets spec (bits xs)) e (body_meets (length (bits xs)) spec (bits xs) (omega arith) sound (bits-AreBits xs)) }

pub body_failed_by_reading : (spec : SpecTree) (xs : List ℕ) (p : ℕ) (c : BodyCause) → Sound (record_kind spec) → body_read (length (bits xs)) spec (bits xs) ≡ fault_at p c → FailsBody spec (bits xs) p c
body_failed_by_reading spec xs p c sound e = subst (BodyMeets spec (bits xs)) e (body_meets (length (bits xs)) spec (bits xs) (omega arith) sound (bits-AreBits xs))

pub only_body_fault : (spec : SpecTree) (xs : List ℕ) (p q : ℕ) (c d : BodyCause) → body_read (length (bits xs)) spec (bits xs) ≡ fault_at q d → FailsBody spec (bits xs) p c → (p ≡ q) × (c ≡ d)
only_body_fault spec xs p q c d e h = let same : fault_at p c ≡ fault_at q d = sym (read_fault spec (bits xs) p c h) ∙ e in (cc, cc)
