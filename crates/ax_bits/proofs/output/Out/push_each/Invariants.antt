use Rattle.std.proofs.Common.{take}
use Rattle.ax_bits.specs.Bits.{bits}
use Rattle.ax_bits.specs.Out.{Appends}
use Rattle.ax_bits.proofs.output.Out.push_each.Given as goal

abbrev pub invariant-loop-octet : goal.invariant-loop-octet
invariant-loop-octet l = Appends l.fn.self l.self (bits (take l.octet-index l.octets))
