use Rattle.std.proofs.Common.{◌≡◌, take}
use Rattle.ax_format.proofs.copying.specs.copy_uap.Given as goal

abbrev pub invariant-loop-slot : goal.invariant-loop-slot
invariant-loop-slot l = l.made ≡ take l.slot-index l.slots
