-- Small editions of one category whose quantities have other scales, for the worked examples of converted records.
use Rattle.std.specs.Prelude.{ℕ, List, codes}
use Rattle.ax_format.specs.EditionExamples.{one_item}
use Rattle.ax_format.specs.Specification.{SpecTree}
use Rattle.ax_format.specs.Tree.{fixed, number, EntriesTree, no_entries, entry_and}
use Rattle.ax_laws.specs.AlikeExamples.{pieces}

-- item 010 in w bits that count pieces of 1 / den of the unit
abbrev pub counted_in : ℕ → ℕ → List ℕ → SpecTree
counted_in w den unit = one_item (codes "1") (fixed (pieces w den unit))

-- a record of item 010 alone
abbrev pub of_number : ℕ → EntriesTree
of_number n = entry_and 1 (number n) no_entries
