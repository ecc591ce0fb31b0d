use Rattle.std.proofs.Common.{◌≡◌, take}
use Rattle.ax_format.proofs.copying.values.copy_records.Given as goal

abbrev pub invariant-loop-one : goal.invariant-loop-one
invariant-loop-one l = l.made ≡ take l.one-index l.records
