-- What stands at a place in a record (this project's own paths). The value alone says it: no kind and no path is needed.
use Rattle.std.specs.Prelude.{ℕ, zero, suc, ◌==◌, Bool, is_some, if◌then◌else◌, List, [], ◌∷◌, Option, Some, None, option_and_then}
use Rattle.ax_format.specs.Tree.{ValueTree, number, member_values, part_values, marked, ValuesTree, no_values, value_and, ListsTree, no_lists, list_and, EntriesTree, no_entries, entry_and}
use Rattle.ax_format.specs.declared.place.Place.{Place}

-- the value of the slot of a number, if there is an entry for it
abbrev pub slot_value : ℕ → EntriesTree → Option ValueTree
slot_value s no_entries = None
slot_value s (entry_and t v es) = if t == s then Some v else slot_value s es

-- the value of the member after n others
abbrev pub nth_value : ℕ → ValuesTree → Option ValueTree
nth_value n no_values = None
nth_value zero (value_and v vs) = Some v
nth_value (suc n) (value_and v vs) = nth_value n vs

-- the values of the part after n others; of one that isn't present, none
abbrev pub nth_list : ℕ → ListsTree → ValuesTree
nth_list n no_lists = no_values
nth_list zero (list_and vs ls) = vs
nth_list (suc n) (list_and vs ls) = nth_list n ls

-- what stands at these steps in a value: the member of a group by its number from 0, the slot of a compound by its number
-- from 1, the part and then the member of an extended item; nothing inside a counted, by-FX or explicit item
abbrev pub value_at : List ℕ → ValueTree → Option ValueTree
value_at [] v = Some v
value_at (i ∷ steps) (member_values vs) = option_and_then (value_at steps) (nth_value i vs)
value_at (s ∷ steps) (marked es) = option_and_then (value_at steps) (slot_value s es)
value_at (p ∷ i ∷ steps) (part_values ls) = option_and_then (value_at steps) (nth_value i (nth_list p ls))
value_at _ _ = None

abbrev pub number_of_value : ValueTree → Option ℕ
number_of_value (number n) = Some n
number_of_value _ = None

-- the number that stands there, if it is one
abbrev pub number_at : List ℕ → ValueTree → Option ℕ
number_at steps v = option_and_then number_of_value (value_at steps v)

-- ---- in a record, which is read as a compound of the slots of the user application profile (UAP)

-- its item is marked, and within it each slot and part that the steps lead through
abbrev pub is_present : EntriesTree → Place → Bool
is_present entries place = is_some (value_at (place.frn ∷ place.steps) (marked entries))

abbrev pub At : EntriesTree → Place → Option ℕ
At entries place = number_at (place.frn ∷ place.steps) (marked entries)
