-- What is read from an octet of a body on.
use Rattle.std.specs.Prelude.{◌≡◌, ℕ, ◌+◌, ◌-◌, ◌*◌, ◌≤◌, List, Bool, true, false, length, drop, map, take, ◌<◌, ◌^◌}
use Rattle.ax_bits.specs.Bits.{bits, word}
use Rattle.ax_format.specs.Reader.{Read, got, failed, after, read, entries_read}
use Rattle.ax_format.specs.Tree.{KindTree, ValueTree, EntriesTree, SlotTree, SlotsTree, spare_slot, subitem, slots_of, defined_slots}
use Rattle.ax_fspec.specs.Fields.{mask_slots}
use Rattle.ax_fspec.specs.declared.mask.SlotMask.{SlotMask}
use Rattle.ax_format.specs.InBounds.{InBounds}
use Rattle.std.specs.Option.{option_map}
use Rattle.ax_format.specs.Lookup.{item_of_frn}
use Rattle.ax_format.specs.Plain.{item_tree}
use Rattle.ax_format.specs.Specification.{SpecTree, slot_of_item, uap_slot}
use Rattle.ax_format.specs.declared.spec.Spec.{Spec}
use Rattle.ax_format.specs.declared.fault.BodyFault.{BodyFault}
use Rattle.ax_format.specs.Failing.{IsFault}
use Rattle.ax_format.specs.Spelling.{IsSpelling}
use Rattle.ax_format.specs.declared.kind.Counter.{Counter}
use Rattle.ax_format.specs.Widths.{counter_octets, counter_width}

-- a was read, from octet `at` of the body up to octet `end`
pub record Gets {A : Type 0} (found : Read A) (body : List ℕ) (at end : ℕ) (a : A) : Type 0 where
  pub forwards : at ≤ end
  pub within : end ≤ length body
  pub got : found ≡ got a (8 * (end - at)) (bits (drop end body))

-- the fault was met, where reading began at octet `at`
pub record FailsAt {A : Type 0} (found : Read A) (at : ℕ) (fault : BodyFault) : Type 0 where
  pub place : ℕ
  pub failed : found ≡ failed place fault.cause
  pub bit : fault.bit ≡ 8 * at + place

-- what was read up to octet `here` goes in front of what is read from there on
pub record Continues {A B : Type 0} (found : Read B) (at here : ℕ) (front : A → B) (rest : Read A) : Type 0 where
  pub forwards : at ≤ here
  pub same : found ≡ after (8 * (here - at)) front rest

-- what is read of a kind from octet `at` of a body on
unfoldable pub kind_read : KindTree → List ℕ → ℕ → Read ValueTree
kind_read k body at = read k (bits (drop at body))

-- the FX bit of a test
abbrev pub fx_bit : Bool → ℕ
fx_bit true = 1
fx_bit false = 0

-- ---- slots

-- what is read of the marked slots from octet `at` of a body on
unfoldable pub entries_at : SlotsTree → List ℕ → List ℕ → ℕ → Read EntriesTree
entries_at slots marks body at = entries_read 1 slots marks (bits (drop at body))

-- the slot is defined
abbrev pub is_subitem : SlotTree → Bool
is_subitem spare_slot = false
is_subitem (subitem name k) = true

-- the mask of these slots
pub record IsMaskOf (slots : List SlotTree) (mask : SlotMask) : Type 0 where
  pub count : mask.count ≡ length slots
  pub defined : mask_slots mask ≡ defined_slots (slots_of slots)

-- the kind of a subitem is in bounds
abbrev pub SlotInBounds : SlotTree → Type 0
SlotInBounds spare_slot = Unit {0}
SlotInBounds (subitem name k) = InBounds k

-- ---- records

-- the slots of a specification's records
abbrev pub record_slot_list : SpecTree → List SlotTree
record_slot_list spec = map (uap_slot spec.items) spec.uap

-- the slot of a field reference number, by the item that the code finds for it
abbrev pub slot_of_frn : ℕ → Spec → SlotTree
slot_of_frn frn spec = slot_of_item (option_map item_tree (item_of_frn frn spec.uap spec.items))

-- ---- by the definitions

-- the octets of the body from `at` up to `end` spell the value
pub record IsSpelledAt (k : KindTree) (body : List ℕ) (at end : ℕ) (v : ValueTree) : Type 0 where
  pub forwards : at ≤ end
  pub within : end ≤ length body
  pub spelling : IsSpelling k v (bits (take (end - at) (drop at body)))

-- what is left of the body from octet `at` on fails to spell a value of the kind; the fault's bit is one of the body
pub record IsFaultAt (k : KindTree) (body : List ℕ) (at : ℕ) (fault : BodyFault) : Type 0 where
  pub place : ℕ
  pub fails : IsFault k (bits (drop at body)) place fault.cause
  pub bit : fault.bit ≡ 8 * at + place

-- ---- counters

-- the counter at octet `at` is there whole, and spells n
pub record IsCount (size : Counter) (body : List ℕ) (at n : ℕ) : Type 0 where
  pub within : at + counter_octets size ≤ length body
  pub below : n < 2 ^ counter_width size
  pub spells : word (counter_width size) n ≡ bits (take (counter_octets size) (drop at body))
