-- Presence fields over the slots of a mask, within the octets of a body.
use Rattle.std.specs.Prelude.{◌≡◌, ℕ, ◌+◌, ◌-◌, ◌*◌, ◌<◌, ◌≤◌, Bool, List, length, take, drop, IsTrue}
use Rattle.ax_bits.specs.Bits.{bits}
use Rattle.ax_format.specs.Failing.{IsPresence, IsPresenceFault}
use Rattle.ax_format.specs.Presence.{octets_needed, none_marked, least_presence}
use Rattle.ax_format.specs.declared.fault.BodyFault.{BodyFault}
use Rattle.ax_fspec.specs.Marks.{are_marked}
use Rattle.ax_fspec.specs.declared.mask.SlotMask.{SlotMask}

-- for each slot of the mask, whether it is defined
abbrev pub mask_slots : SlotMask → List Bool
mask_slots mask = are_marked (take mask.count mask.defined)

-- b is a presence field over n slots, of which these are defined, and it marks this set
pub record IsFieldOf (n : ℕ) (defined : List Bool) (marked b : List ℕ) : Type 0 where
  pub octets : ℕ
  pub field : IsPresence (octets_needed n) defined (take (7 * octets) marked) b
  pub no_other : IsTrue (none_marked (drop (7 * octets) marked))

-- the octets of the body from `at` up to `end` are a presence field over the mask's slots, and it marks this set
pub record MarksSlots (mask : SlotMask) (body : List ℕ) (at end : ℕ) (marked : List ℕ) : Type 0 where
  pub begins : at < end
  pub within : end ≤ length body
  pub field : IsFieldOf mask.count (mask_slots mask) marked (bits (take (end - at) (drop at body)))
  pub size : length marked ≡ 126

-- from octet `at` of the body on stands no presence field, and this is its fault
pub record FailsToMark (mask : SlotMask) (body : List ℕ) (at : ℕ) (fault : BodyFault) : Type 0 where
  pub place : ℕ
  pub fails : IsPresenceFault (octets_needed mask.count) (mask_slots mask) (bits (drop at body)) place fault.cause
  pub bit : fault.bit ≡ 8 * at + place

-- the least presence field of a set of slots
unfoldable pub least_field : List ℕ → List ℕ
least_field marked = least_presence 18 marked
