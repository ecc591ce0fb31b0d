use Rattle.std.proofs.Common.{◌≡◌, ◌*◌, ◌≤◌, sum, take}
use Rattle.ax_trial.proofs.block.sum_of.Given as goal

abbrev pub invariant-loop-octet : goal.invariant-loop-octet
invariant-loop-octet l = record { total : l.total ≡ sum (take l.octet-index l.octets); small : l.total ≤ 255 * l.octet-index }
