-- The digits so far are those of the octets passed.
use Rattle.std.proofs.Common.{◌≡◌, take}
use Rattle.ax_vectors.specs.Digits.{without_blanks}
use Rattle.ax_vectors.proofs.hexadecimal.octets.Given as goal

abbrev pub invariant-loop-octet : goal.invariant-loop-octet
invariant-loop-octet l = l.digits.items ≡ without_blanks (take l.octet-index l.octet-items)
