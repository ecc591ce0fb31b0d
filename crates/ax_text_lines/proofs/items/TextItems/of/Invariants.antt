use Rattle.std.proofs.Common.{◌≡◌, length, map, take}
use Rattle.ax_text_lines.specs.HeldText.{text_slot}
use Rattle.ax_format.specs.Plain.{spec_tree}
use Rattle.ax_fspec.specs.Reading.{record_slot_list}
use Rattle.ax_text_lines.proofs.items.TextItems.of.Given as goal

abbrev pub invariant-loop-index : goal.invariant-loop-index
invariant-loop-index l =
    (length l.slots ≡ l.index) × (map text_slot l.slots ≡ take l.index (record_slot_list (spec_tree l.spec)))
