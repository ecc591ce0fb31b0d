use Rattle.std.proofs.Common.{◌-◌, length}
use Rattle.ax_held_kinds.specs.HeldFixed.{held_fixed}
use Rattle.ax_listing.proofs.UnitLines.{RunShown}
use Rattle.ax_listing.proofs.units.show_run.Given as goal

abbrev pub invariant-loop-bit : goal.invariant-loop-bit
invariant-loop-bit l = RunShown (held_fixed l.fixed) l.path l.from.body.now l.from.at l.here l.fn.lister.out.octets l.lister.out.octets l.count

abbrev pub decreases-loop-bit : goal.decreases-loop-bit
decreases-loop-bit l = length l.from.body.now - l.here
