-- Presence fields over slots.
use Rattle.std.specs.Prelude.{ℕ, List}
use Rattle.ax_fspec.specs.Fields.{MarksSlots, FailsToMark}
use Rattle.ax_fspec.specs.declared.mask.SlotMask.{SlotMask}
use Rattle.ax_format.specs.Tree.{SlotTree}
use Rattle.ax_format.specs.declared.fault.BodyFault.{BodyFault}
use Rattle.ax_fspec.specs.Reading.{IsMaskOf}

-- the octets of the body from `at` up to `end` are a presence field over these slots, and it marks this set
pub record MarksOf (slots : List SlotTree) (body : List ℕ) (at end : ℕ) (marked : List ℕ) : Type 0 where
  pub mask : SlotMask
  pub is : IsMaskOf slots mask
  pub marks : MarksSlots mask body at end marked

-- from octet `at` of the body on stands no presence field over these slots, and this is its fault
pub record FailsToMarkOf (slots : List SlotTree) (body : List ℕ) (at : ℕ) (fault : BodyFault) : Type 0 where
  pub mask : SlotMask
  pub is : IsMaskOf slots mask
  pub fails : FailsToMark mask body at fault
