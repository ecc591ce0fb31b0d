use Rattle.ax_values.proofs.WrittenKinds.{MarksOf}
use Rattle.ax_values.proofs.marks.entry_marks.Given as goal

abbrev pub invariant-loop-entry : goal.invariant-loop-entry
invariant-loop-entry l = MarksOf l.entries l.entry-index l.marks
