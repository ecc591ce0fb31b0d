use Rattle.std.proofs.Common.{◌≡◌, map}
use Rattle.ax_fspec.proofs.Marking.{MaskSoFar}
use Rattle.ax_held_kinds.proofs.fields.mask_of.Given as goal

abbrev pub invariant-loop-slot : goal.invariant-loop-slot
invariant-loop-slot g l = record { number : l.number ≡ l.slot-index; mask : MaskSoFar (map g.S.PresenceSlot.tree l.slots) l.slot-index l.defined }
