use Rattle.std.proofs.Common.{ℕ, length}
use Rattle.ax_fspec.specs.Marks.{slots_of}
use Rattle.ax_format.specs.Plain.{spec_tree}
use Rattle.ax_format.specs.Specification.{record_kind}
use Rattle.ax_fspec.specs.Reading.{FailsAt, record_slot_list, kind_read}
use Rattle.ax_listing.proofs.MarkedLines.{MarksShown}
use Rattle.ax_listing.proofs.RecordLines.{items_done}
use Rattle.ax_listing.proofs.records.show_items.Given as goal

abbrev pub invariant-loop-frn : goal.invariant-loop-frn
invariant-loop-frn l =
    (i : ℕ) × MarksShown (items_done (spec_tree l.items.items.now) l.path l.from.body.now l.from.at l.fn.lister.out.octets) (FailsAt (kind_read (record_kind (spec_tree l.items.items.now)) l.from.body.now l.from.at) l.from.at) (record_slot_list (spec_tree l.items.items.now)) l.path l.left l.from.body.now l.here l.lister.out.octets i

abbrev pub decreases-loop-frn : goal.decreases-loop-frn
decreases-loop-frn l = length (slots_of l.left)
