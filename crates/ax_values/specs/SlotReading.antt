-- What decoding has read, or why it has not.
use Rattle.std.specs.Prelude.{◌≡◌, ℕ, List, [], ◌∷◌, ◌++◌, map}
use Rattle.ax_format.specs.Reader.{Read}
use Rattle.ax_format.specs.Tree.{KindTree, ValueTree, SlotTree, spare_slot, subitem}
use Rattle.ax_format.specs.Plain.{entry_tree}
use Rattle.ax_format.specs.declared.fault.BodyFault.{BodyFault}
use Rattle.ax_format.specs.declared.value.Entry.{Entry}
use Rattle.ax_values.specs.declared.error.DecodeError.{DecodeError}
use Rattle.ax_values.specs.declared.error.DecodeError.TheVariants as Decoding
use Rattle.ax_fspec.specs.Reading.{Gets, FailsAt, kind_read}

-- a value of this kind was read from octet `at` of the body up to octet `end`
abbrev pub IsValueRead : KindTree → List ℕ → ℕ → ℕ → ValueTree → Type 0
IsValueRead k body at end v = Gets (kind_read k body at) body at end v

-- a fault that the error names was met
pub record HasFailed {A : Type 0} (found : Read A) (at : ℕ) (e : DecodeError) : Type 0 where
  pub met : (fault : BodyFault) → e ≡ Decoding.Fault fault → FailsAt found at fault

-- an entry of this slot and number was read from octet `at` of the body up to octet `end`, and put after the others
pub record Adds (k : KindTree) (number : ℕ) (body : List ℕ) (at end : ℕ) (old new : List Entry) : Type 0 where
  pub value : ValueTree
  pub read : IsValueRead k body at end value
  pub entries : map entry_tree new ≡ map entry_tree old ++ (number, value) ∷ []

abbrev pub SlotAdds : SlotTree → ℕ → List ℕ → ℕ → ℕ → List Entry → List Entry → Type 0
SlotAdds spare_slot number body at end old new = (end ≡ at) × (new ≡ old)
SlotAdds (subitem name k) number body at end old new = Adds k number body at end old new

abbrev pub SlotFails : SlotTree → List ℕ → ℕ → DecodeError → Type 0
SlotFails spare_slot body at e = ⊥
SlotFails (subitem name k) body at e = HasFailed (kind_read k body at) at e

-- the same, for clauses
pub record IsSlotRead (slot : SlotTree) (number : ℕ) (body : List ℕ) (at end : ℕ) (old new : List Entry) : Type 0 where
  pub adds : SlotAdds slot number body at end old new

pub record HasSlotFailed (slot : SlotTree) (body : List ℕ) (at : ℕ) (e : DecodeError) : Type 0 where
  pub failed : SlotFails slot body at e
