-- Members with their values, and the slots of a compound or of a record by their numbers, from 1.
use Rattle.std.specs.Prelude.{ℕ, zero, suc, List, ◌∷◌, Option, Some, None}
use Rattle.ax_format.specs.Paths.{at}
use Rattle.ax_format.specs.Plain.{value_tree}
use Rattle.ax_format.specs.Shape.{NumberShape, FixedShape, Shape}
use Rattle.ax_format.specs.Tree.{MemberTree, named, spare, SlotTree, SlotsTree, no_slots, slot_and, spare_slot, subitem, ValueTree}
use Rattle.ax_format.specs.declared.value.Entry.{Entry}
use Rattle.ax_text_form.specs.ShowText.{kind_lines}
use Rattle.ax_text_form.specs.ValueText.{Texts, kind_onto}

abbrev pub MemberShape : MemberTree → ValueTree → Type 0
MemberShape (named name f) v = FixedShape f v
MemberShape (spare w) v = NumberShape w v

-- the slot after i others; there is none where it is spare
abbrev pub slot_after : ℕ → SlotsTree → SlotTree
slot_after i no_slots = spare_slot
slot_after zero (slot_and s ss) = s
slot_after (suc i) (slot_and s ss) = slot_after i ss

abbrev pub slot_numbered : SlotsTree → ℕ → SlotTree
slot_numbered ss zero = spare_slot
slot_numbered ss (suc i) = slot_after i ss

abbrev pub or_spare : Option SlotTree → SlotTree
or_spare None = spare_slot
or_spare (Some s) = s

-- the slot is defined, and the value has the shape of its kind
abbrev pub SlotShape : SlotTree → ValueTree → Type 0
SlotShape spare_slot v = ⊥
SlotShape (subitem name k) v = Shape k v

-- the name of the slot and its value
abbrev pub slot_onto : SlotTree → ValueTree → Texts → Texts
slot_onto spare_slot v rest = rest
slot_onto (subitem name k) v rest = name ∷ kind_onto k v rest

-- the value at the path of the slot's name
abbrev pub slot_lines : List ℕ → SlotTree → ValueTree → Texts → Texts
slot_lines path spare_slot v rest = rest
slot_lines path (subitem name k) v rest = kind_lines k (at path name) v rest

-- ---- entries of a compound or of a record, by these slots

abbrev pub entry_onto : SlotsTree → Entry → Texts → Texts
entry_onto ss entry = slot_onto (slot_numbered ss entry.slot) (value_tree entry.value)
