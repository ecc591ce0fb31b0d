-- The plain trees of what is held of kinds: those of the kinds that it was made of.
use Rattle.std.specs.Prelude.{List, map}
use Rattle.ax_format.specs.Plain.{fixed_tree, part_tree}
use Rattle.ax_format.specs.Tree.{MembersTree, KindTree, fixed, extended, counted, by_fx, explicit, compound, SlotsTree, SlotTree, spare_slot, subitem, slots_of}
use Rattle.ax_text_lines.specs.declared.drafting.TextPart.{TextPart}
use Rattle.ax_text_lines.specs.declared.held.TextKind.{TextKind, fold-TextKind}
use Rattle.ax_text_lines.specs.declared.held.TextKind.TheOpen.{TextKind-F, TextSlot-F}
use Rattle.ax_text_lines.specs.declared.held.TextSlot.{TextSlot, fold-TextSlot}

abbrev pub text_part : TextPart → MembersTree
text_part p = part_tree p.part.now

abbrev pub kind_step : TextKind-F KindTree SlotTree → KindTree
kind_step (TextKind-F.Fixed f) = fixed (fixed_tree f.fixed.now)
kind_step (TextKind-F.Extended last ps) = extended last (map text_part ps)
kind_step (TextKind-F.Counted size k) = counted size k.value
kind_step (TextKind-F.ByFx f) = by_fx (fixed_tree f.fixed.now)
kind_step TextKind-F.Explicit = explicit
kind_step (TextKind-F.Compound ss) = compound (slots_of ss)

abbrev pub slot_step : TextSlot-F KindTree SlotTree → SlotTree
slot_step TextSlot-F.Spare = spare_slot
slot_step (TextSlot-F.Named i) = subitem i.name (fixed (fixed_tree i.fixed.now))
slot_step (TextSlot-F.Sub name k) = subitem name k

abbrev pub text_kind : TextKind → KindTree
text_kind k = fold-TextKind KindTree SlotTree kind_step slot_step k

abbrev pub text_slot : TextSlot → SlotTree
text_slot s = fold-TextSlot KindTree SlotTree kind_step slot_step s

abbrev pub text_slots : List TextSlot → SlotsTree
text_slots ss = slots_of (map text_slot ss)
