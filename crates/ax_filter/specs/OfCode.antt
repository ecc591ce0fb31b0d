-- What a filter of the code is: an expression over a catalogue.
use Rattle.std.specs.Prelude.{ℕ, Bool, List}
use Rattle.ax_format.specs.Plain.{catalogue_tree}
use Rattle.ax_format.specs.Specification.{SpecTree}
use Rattle.ax_format.specs.Tree.{EntriesTree}
use Rattle.ax_filter.specs.declared.filter.Filter.{Filter}
use Rattle.ax_expressions.specs.Meaning.{holds}
use Rattle.ax_expressions.specs.Tree.{ExprTree, expr_tree}

abbrev pub expression : Filter → ExprTree
expression filter = expr_tree filter.expr

abbrev pub catalogue_of : Filter → List SpecTree
catalogue_of filter = catalogue_tree filter.catalogue.now

-- whether a filter holds of a record of that category with these entries
abbrev pub holds_of : Filter → ℕ → EntriesTree → Bool
holds_of filter category entries = holds (catalogue_of filter) category entries (expression filter)
