use Rattle.std.proofs.Common.{◌≡◌, map}
use Rattle.ax_format.specs.Plain.{kind_tree, slot_tree}
use Rattle.ax_values.proofs.Counting.{CountedSoFar}
use Rattle.ax_values.proofs.Marking.{EntriesSoFar}
use Rattle.ax_values.proofs.kinds.+kind.Given as goal

abbrev pub invariant-decode_marked-loop-slot : goal.invariant-decode_marked-loop-slot
invariant-decode_marked-loop-slot l = record { number : l.number ≡ l.slot-index; entries : EntriesSoFar (map slot_tree l.slots) l.marked l.body l.slot-index l.at l.here l.made }

abbrev pub invariant-decode_counted-loop : goal.invariant-decode_counted-loop
invariant-decode_counted-loop l = CountedSoFar l.fn.size (kind_tree l.inner) l.body l.count l.counter l.at l.here l.made
