use Rattle.std.proofs.Common.{IsTrue, drop}
use Rattle.ax_model.specs.Presence.{none_marked}
use Rattle.ax_format_tests.proofs.presence.mask.Given as goal

abbrev pub invariant-loop-slot : goal.invariant-loop-slot
invariant-loop-slot l = IsTrue (none_marked (drop l.count l.defined))
