use Rattle.std.proofs.Common.{◌≡◌, drop}
use Rattle.ax_convert_work.proofs.standing.stands_in.Given as goal
use Rattle.ax_rescale.specs.Converts.{stands_in}
use Rattle.ax_walk.specs.Shown.{record_entries}

abbrev pub invariant-loop-slot : goal.invariant-loop-slot
invariant-loop-slot l = stands_in (drop l.slot-index l.slots) (record_entries l.one) ≡ stands_in l.slots (record_entries l.one)
