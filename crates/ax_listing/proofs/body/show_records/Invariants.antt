use Rattle.std.proofs.Common.{◌-◌, length}
use Rattle.ax_format.specs.Plain.{spec_tree}
use Rattle.ax_listing.proofs.RecordLines.{BodyShown}
use Rattle.ax_listing.proofs.body.show_records.Given as goal

abbrev pub invariant-loop-at : goal.invariant-loop-at
invariant-loop-at l = BodyShown (spec_tree l.items) l.body l.at l.number l.fn.lister.out.octets l.lister.out.octets

abbrev pub decreases-loop-at : goal.decreases-loop-at
decreases-loop-at l = length l.body - l.at
