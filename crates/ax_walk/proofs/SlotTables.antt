-- The slots of a record or a compound, as a walk over them takes them.
use Rattle.std.proofs.Common.{ℕ, List}
use Rattle.ax_fspec.specs.declared.mask.SlotMask.{SlotMask}
use Rattle.ax_codec.specs.Table.{IsRecordTable}
use Rattle.ax_codec.specs.declared.node.Node.{Node}
use Rattle.ax_walk.proofs.Compounds.{slots_bounds}
use Rattle.ax_walk.specs.Rows.{AreSlots}

pub slots_are : (ns : List Node) (links : List ℕ) (mask : SlotMask) → IsRecordTable ns links mask → AreSlots ns links
slots_are ns links mask h = record { within = h.within; bounds = slots_bounds ns links h.bounds }
