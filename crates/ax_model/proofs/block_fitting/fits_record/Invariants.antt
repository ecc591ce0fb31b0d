use Rattle.std.proofs.Common.{◌≡◌, ◌+◌, drop, map}
use Rattle.ax_format.specs.Fitting.{entries_fit}
use Rattle.ax_format.specs.OfCode.{record_fits}
use Rattle.ax_format.specs.Plain.{item_tree, entries_tree}
use Rattle.ax_format.specs.Specification.{uap_slot}
use Rattle.ax_format.specs.Tree.{slots_of}
use Rattle.ax_model.proofs.block_fitting.fits_record.Given as goal

abbrev pub invariant-loop-slot : goal.invariant-loop-slot
invariant-loop-slot l =
    (l.number ≡ l.slot-index + 1)
    × (record_fits l.spec l.one ≡ entries_fit l.number (slots_of (map (uap_slot (map item_tree l.spec.items)) (drop l.slot-index l.slot-items))) (entries_tree l.rest))
