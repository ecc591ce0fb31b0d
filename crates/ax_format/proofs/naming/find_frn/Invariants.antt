use Rattle.std.proofs.Common.{◌≡◌, ◌+◌, drop}
use Rattle.ax_format.specs.Naming.{frn_of}
use Rattle.ax_format.proofs.naming.find_frn.Given as goal

abbrev pub invariant-loop-slot : goal.invariant-loop-slot
invariant-loop-slot l = (l.before ≡ l.slot-index) × (frn_of (l.before + 1) l.name (drop l.slot-index l.slots) ≡ frn_of 1 l.name l.slots)
