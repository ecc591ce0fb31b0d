use Rattle.std.proofs.Common.{◌≡◌, length}
use Rattle.ax_edition.specs.Index.{Finds}
use Rattle.ax_edition.specs.SlotItems.{items_tree}
use Rattle.ax_format.specs.Specification.{record_slots, SpecTree}
use Rattle.ax_rescale.specs.Watching.{AreWatched}
use Rattle.ax_rescale.proofs.watches.watch_all.Given as goal

abbrev pub invariant-loop-at : goal.invariant-loop-at
invariant-loop-at l = (length l.made ≡ l.at) × ((olds news : SpecTree) → items_tree l.old ≡ record_slots olds → Finds 1 (record_slots news) l.new → AreWatched olds news l.made l.paths)
