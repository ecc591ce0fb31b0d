use Rattle.ax_format.specs.Plain.{spec_tree}
use Rattle.ax_fspec.proofs.Marking.{MaskSoFar}
use Rattle.ax_fspec.specs.Reading.{record_slot_list}
use Rattle.ax_values.proofs.records.record_mask.Given as goal

abbrev pub invariant-loop-index : goal.invariant-loop-index
invariant-loop-index l = MaskSoFar (record_slot_list (spec_tree l.spec)) l.index l.defined
