use Rattle.std.proofs.Common.{◌≡◌, ◌++◌, take}
use Rattle.ax_format.proofs.path_text.push_all.Given as goal

abbrev pub invariant-loop-octet : goal.invariant-loop-octet
invariant-loop-octet l = l.text ≡ l.fn.text ++ take l.octet-index l.octets
