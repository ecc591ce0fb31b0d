use Rattle.ax_format.specs.Plain.{spec_tree}
use Rattle.ax_values.proofs.Marking.{EntriesSoFar}
use Rattle.ax_fspec.specs.Reading.{record_slot_list}
use Rattle.ax_values.proofs.records.decode_marked.Given as goal

abbrev pub invariant-loop-index : goal.invariant-loop-index
invariant-loop-index l = EntriesSoFar (record_slot_list (spec_tree l.spec)) l.marked l.body l.index l.at l.here l.made
