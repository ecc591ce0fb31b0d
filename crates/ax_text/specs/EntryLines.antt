-- The lines of an entry of a compound or of a record.
use Rattle.std.specs.Prelude.{ℕ, List}
use Rattle.ax_format.specs.Plain.{value_tree}
use Rattle.ax_format.specs.Tree.{SlotsTree}
use Rattle.ax_format.specs.declared.value.Entry.{Entry}
use Rattle.ax_text_form.specs.Slots.{slot_numbered, slot_lines}
use Rattle.ax_text_form.specs.ValueText.{Texts}

-- its value at the path of the name of its slot, one of these
abbrev pub entry_lines : List ℕ → SlotsTree → Entry → Texts → Texts
entry_lines path ss entry = slot_lines path (slot_numbered ss entry.slot) (value_tree entry.value)
