-- What is left of a walk over the slots of a set.
use Rattle.std.specs.Prelude.{ℕ, List}
use Rattle.ax_fspec.specs.Marks.{slots_of}
use Rattle.ax_fspec.specs.declared.slots.MarkedSlots.{MarkedSlots}

abbrev pub slots_left : MarkedSlots → List ℕ
slots_left walk = slots_of walk.left
