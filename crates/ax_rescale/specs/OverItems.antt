-- Over the items of two editions, as the code holds them.
use Rattle.std.specs.Prelude.{◌≡◌, List, Option}
use Rattle.std.specs.Borrow.{Bor}
use Rattle.ax_edition.specs.Index.{Finds}
use Rattle.ax_edition.specs.SlotItems.{items_tree}
use Rattle.ax_edition.specs.declared.index.Index.{Index}
use Rattle.ax_format.specs.Specification.{SpecTree, record_slots}
use Rattle.ax_format.specs.declared.spec.Item.{Item}

-- what holds of any two editions of which the one has these items, and the index those of the other
abbrev pub OverEditions : List (Option (Bor Item)) → Index → (SpecTree → SpecTree → Type 0) → Type 0
OverEditions items index Holds = (old new : SpecTree) → items_tree items ≡ record_slots old → Finds 1 (record_slots new) index → Holds old new
