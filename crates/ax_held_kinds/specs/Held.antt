-- The plain trees of what is held: those of the kinds that it was made of.
use Rattle.std.specs.Prelude.{List, map}
use Rattle.ax_format.specs.Tree.{MembersTree, KindTree, fixed, extended, counted, by_fx, explicit, compound, SlotsTree, SlotTree, spare_slot, subitem, slots_of}
use Rattle.ax_held_kinds.specs.HeldFixed.{held_fixed, held_members}
use Rattle.ax_held_kinds.specs.declared.kinds.HeldKind.{HeldKind, fold-HeldKind}
use Rattle.ax_held_kinds.specs.declared.kinds.HeldKind.TheOpen.{HeldKind-F, HeldSlot-F}
use Rattle.ax_held_kinds.specs.declared.kinds.HeldPart.{HeldPart}
use Rattle.ax_held_kinds.specs.declared.kinds.HeldSlot.{HeldSlot, fold-HeldSlot}

abbrev pub held_part : HeldPart → MembersTree
held_part p = held_members p.members

abbrev pub kind_step : HeldKind-F KindTree SlotTree → KindTree
kind_step (HeldKind-F.Fixed f) = fixed (held_fixed f)
kind_step (HeldKind-F.Extended last ps) = extended last (map held_part ps)
kind_step (HeldKind-F.Counted size k) = counted size k.value
kind_step (HeldKind-F.ByFx f) = by_fx (held_fixed f)
kind_step HeldKind-F.Explicit = explicit
kind_step (HeldKind-F.Compound ss) = compound (slots_of ss)

abbrev pub slot_step : HeldSlot-F KindTree SlotTree → SlotTree
slot_step HeldSlot-F.Spare = spare_slot
slot_step (HeldSlot-F.Sub name k) = subitem name k

abbrev pub held_kind : HeldKind → KindTree
held_kind k = fold-HeldKind KindTree SlotTree kind_step slot_step k

abbrev pub held_slot : HeldSlot → SlotTree
held_slot s = fold-HeldSlot KindTree SlotTree kind_step slot_step s

abbrev pub held_slots : List HeldSlot → SlotsTree
held_slots ss = slots_of (map held_slot ss)
