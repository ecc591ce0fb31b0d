use Rattle.ax_bits.proofs.ShortNumbers.{IsJoined}
use Rattle.ax_bits.proofs.short.joined.Given as goal

abbrev pub invariant-loop-octet : goal.invariant-loop-octet
invariant-loop-octet l = IsJoined l.octets l.octet-index l.number
