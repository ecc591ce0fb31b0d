-- What is spelled once or fails once.
use Rattle.std.specs.Prelude.{◌≡◌, ℕ, ◌≤◌, ◌⊎◌, List, length, take}
use Rattle.ax_bits.specs.Bits.{bits}
use Rattle.ax_format.specs.Bodies.{SpellsRecord}
use Rattle.ax_format.specs.Specification.{SpecTree}
use Rattle.ax_format.specs.Spelling.{Spells}
use Rattle.ax_format.specs.Tree.{KindTree, ValueTree, EntriesTree}
use Rattle.ax_format.specs.declared.fault.BodyCause.{BodyCause}

-- one thing is spelled, or there is one place and cause of a fault, and never both
pub record IsJudgedOnce {A : Type 0} (S : A → Type 0) (F : ℕ → BodyCause → Type 0) : Type 0 where
  pub some : ((a : A) × S a) ⊎ ((p : ℕ) × (c : BodyCause) × F p c)
  pub one_spelled : (a d : A) → S a → S d → a ≡ d
  pub one_fault : (p q : ℕ) (c d : BodyCause) → F p c → F q d → (p ≡ q) × (c ≡ d)
  pub never_both : (a : A) (p : ℕ) (c : BodyCause) → S a → F p c → ⊥

-- the first n octets spell the value
abbrev pub FrontSpells : KindTree → List ℕ → ValueTree × ℕ → Type 0
FrontSpells k octets front = (front.1 ≤ length octets) × Spells k front.0 (bits (take front.1 octets))

-- the first n octets spell the record
abbrev pub FrontSpellsRecord : SpecTree → List ℕ → EntriesTree × ℕ → Type 0
FrontSpellsRecord spec octets front = (front.1 ≤ length octets) × SpellsRecord spec front.0 (bits (take front.1 octets))
