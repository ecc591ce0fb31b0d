-- What is written after what was written before.
use Rattle.std.specs.Prelude.{◌≡◌, ℕ, ◌≤◌, List, [], ◌++◌, Option, Some, None}
use Rattle.ax_bits.specs.Out.{Appends}
use Rattle.ax_bits.specs.declared.output.Out.{Out}
use Rattle.ax_format.specs.Canonical.{canon, marks_of}
use Rattle.ax_format.specs.InBounds.{InBounds, SlotsInBounds}
use Rattle.ax_format.specs.Lengths.{slot_kind}
use Rattle.ax_format.specs.Plain.{spec_tree}
use Rattle.ax_format.specs.Presence.{octets_needed, least_presence}
use Rattle.ax_format.specs.Shape.{Shape, EntriesShape}
use Rattle.ax_format.specs.Specification.{record_slots}
use Rattle.ax_format.specs.Tree.{KindTree, ValueTree, SlotsTree, EntriesTree, slot_count}
use Rattle.ax_format.specs.declared.spec.Spec.{Spec}

-- of the whole bits a front is written, and the rest is left
pub record IsWrittenTo (old now : Out) (whole left : List ℕ) : Type 0 where
  pub front : List ℕ
  pub appends : Appends old now front
  pub split : whole ≡ front ++ left

-- the kind of the item of a field reference number (FRN), where there is one
abbrev pub item_kind : Spec → ℕ → Option KindTree
item_kind spec frn = slot_kind (record_slots (spec_tree spec)) frn

-- the value has the shape of the kind of its slot
abbrev pub EntryShape : Option KindTree → ValueTree → Type 0
EntryShape None v = ⊥
EntryShape (Some k) v = InBounds k × Shape k v

abbrev pub entry_canon : Option KindTree → ValueTree → List ℕ
entry_canon None v = []
entry_canon (Some k) v = canon k v

-- the least presence field that marks the slots of these entries
abbrev pub entries_presence : SlotsTree → EntriesTree → List ℕ
entries_presence ss es = least_presence (octets_needed (slot_count ss)) (marks_of 1 ss es)

-- entries in order, each of a defined one of these slots, of which there are 1 to 126, and of its kind's shape
pub record AreEntriesOf (ss : SlotsTree) (es : EntriesTree) : Type 0 where
  pub shape : EntriesShape 1 ss es
  pub some : 1 ≤ slot_count ss
  pub few : slot_count ss ≤ 126
  pub bounds : SlotsInBounds ss
