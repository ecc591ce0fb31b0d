-- Where slot numbers lead in a record.
use Rattle.std.specs.Prelude.{ℕ, Bool, List, [], ◌∷◌, Option, Some, None, option_and_then}
use Rattle.ax_format.specs.At.{slot_value}
use Rattle.ax_format.specs.Placed.{has_part_where}
use Rattle.ax_format.specs.Tree.{ValueTree, marked, EntriesTree}
use Rattle.ax_format.specs.declared.place.Place.{Place}

-- where slot numbers lead from a value
abbrev pub value_below : List ℕ → ValueTree → Option ValueTree
value_below [] v = Some v
value_below (s ∷ steps) (marked es) = option_and_then (value_below steps) (slot_value s es)
value_below (s ∷ steps) _ = None

-- something is there, and has the part
abbrev pub is_there : Place → Option ℕ → EntriesTree → Bool
is_there place part es = has_part_where part (value_below (place.frn ∷ place.steps) (marked es))
