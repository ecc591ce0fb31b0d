-- What passes of values, and entries one at a time.
use Rattle.std.specs.Prelude.{ℕ, List, [], ◌∷◌, Option, Some, None}
use Rattle.ax_relation.specs.Moved.{first_lists}
use Rattle.ax_format.specs.Tree.{ValueTree, part_values, marked, EntriesTree, no_entries, entry_and}

-- a compound's entries by the rule; of an extended item so many first parts; another value as it is
abbrev pub value_by : ℕ → (EntriesTree → EntriesTree) → ValueTree → ValueTree
value_by c rule (marked es) = marked (rule es)
value_by c rule (part_values ls) = part_values (first_lists c ls)
value_by c rule v = v

-- an entry for slot t, if there is a value
abbrev pub entry_list : ℕ → Option ValueTree → List (ℕ × ValueTree)
entry_list t None = []
entry_list t (Some v) = (t, v) ∷ []

abbrev pub list_of : EntriesTree → List (ℕ × ValueTree)
list_of no_entries = []
list_of (entry_and t v es) = (t, v) ∷ list_of es
