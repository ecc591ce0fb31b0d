use Rattle.std.proofs.Common.{◌≡◌, take}
use Rattle.ax_block_reader.proofs.octets.listed.Given as goal

abbrev pub invariant-loop-octet : goal.invariant-loop-octet
invariant-loop-octet l = l.made ≡ take l.octet-index l.octets
