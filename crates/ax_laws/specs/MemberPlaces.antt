-- Places of members, and how many members there are.
use Rattle.std.specs.Prelude.{ℕ, zero, suc, List, [], ◌∷◌, ◌++◌, Option}
use Rattle.ax_format.specs.At.{value_at}
use Rattle.ax_format.specs.Tree.{MembersTree, no_members, member_and, ValueTree, marked, EntriesTree}
use Rattle.ax_format.specs.declared.place.Place.{Place}

-- what stands at the place in a record
abbrev pub standing : EntriesTree → Place → Option ValueTree
standing entries place = value_at (place.frn ∷ place.steps) (marked entries)

-- the place that further steps lead to
abbrev pub below : Place → List ℕ → Place
below place more = record { frn = place.frn; steps = place.steps ++ more }

abbrev pub member_count : MembersTree → ℕ
member_count no_members = 0
member_count (member_and m ms) = suc (member_count ms)

-- the part after p others, of those that a kind has; behind them none
abbrev pub nth_part : ℕ → List MembersTree → MembersTree
nth_part p [] = no_members
nth_part zero (part ∷ ps) = part
nth_part (suc p) (part ∷ ps) = nth_part p ps
