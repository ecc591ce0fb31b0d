use Rattle.std.proofs.Common.{◌≡◌, take}
use Rattle.ax_grammar.proofs.reader.text_of.Given as goal

abbrev pub invariant-loop-octet : goal.invariant-loop-octet
invariant-loop-octet l = l.text ≡ take l.octet-index l.octets
