use Rattle.ax_block_reader.proofs.ShortNumbers.{DigitsRead}
use Rattle.ax_block_reader.proofs.numbers.number_after.Given as goal

abbrev pub invariant-loop-octet : goal.invariant-loop-octet
invariant-loop-octet l = DigitsRead l.digit l.octets l.octet-index l.number
