use Rattle.ax_format.specs.Plain.{spec_tree}
use Rattle.ax_vectors.proofs.Left.{Left}
use Rattle.ax_vectors.specs.Made.{record_made}
use Rattle.ax_vectors.specs.Making.{times}
use Rattle.ax_vectors.proofs.blocks.make_each_record.Given as goal

abbrev pub invariant-loop-left : goal.invariant-loop-left
invariant-loop-left l = Left (times l.count (record_made (spec_tree l.spec))) (times l.left (record_made (spec_tree l.spec))) l.fn.into l.into l.fn.draws l.draws

abbrev pub decreases-loop-left : goal.decreases-loop-left
decreases-loop-left l = l.left
