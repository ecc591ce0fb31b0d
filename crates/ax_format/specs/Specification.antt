-- The plain tree of a specification, and the slots of its records (FSPEC and user application profile).
use Rattle.std.specs.Prelude.{ℕ, ◌==◌, List, map, Option, Some, None, find, bytes_eq}
use Rattle.ax_format.specs.Tree.{KindTree, compound, SlotTree, SlotsTree, spare_slot, subitem, slots_of}
use Rattle.ax_format.specs.declared.spec.UapSlot.{UapSlot}
use Rattle.ax_format.specs.declared.spec.UapSlot.TheVariants as Uap

pub record ItemTree : Type 0 where
  pub name : List ℕ
  pub title : List ℕ
  pub kind : KindTree

pub record SpecTree : Type 0 where
  pub category : ℕ
  pub edition : List ℕ
  pub items : List ItemTree
  pub uap : List UapSlot

-- ---- records over the UAP

-- the first item of that name
abbrev pub first_named : List ℕ → List ItemTree → Option ItemTree
first_named name items = find (λ item. bytes_eq item.name name) items

-- a slot whose name has no item is undefined, as a spare one is
abbrev pub slot_of_item : Option ItemTree → SlotTree
slot_of_item None = spare_slot
slot_of_item (Some item) = subitem item.name item.kind

-- a slot of the UAP has the kind of the first item of its name
abbrev pub uap_slot : List ItemTree → UapSlot → SlotTree
uap_slot items Uap.Spare = spare_slot
uap_slot items (Uap.Item name) = slot_of_item (first_named name items)

-- the slots of a record, by field reference number (FRN)
abbrev pub record_slots : SpecTree → SlotsTree
record_slots spec = slots_of (map (uap_slot spec.items) spec.uap)

-- a record is read as a compound whose slots are the UAP's
abbrev pub record_kind : SpecTree → KindTree
record_kind spec = compound (record_slots spec)

-- ---- catalogues: specifications in order, one for each category; of two the first counts

abbrev pub spec_of : ℕ → List SpecTree → Option SpecTree
spec_of category catalogue = find (λ spec. spec.category == category) catalogue
