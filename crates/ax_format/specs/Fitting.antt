-- Whether a value has a kind's shape, as a test that computes.
use Rattle.std.specs.Prelude.{ℕ, ◌+◌, ◌^◌, ◌==◌, nat_lt, nat_le, Bool, true, false, ◌&&◌, if◌then◌else◌, List, [], ◌∷◌, length}
use Rattle.std.specs.List.{list_all}
use Rattle.ax_format.specs.Tree.{FixedTree, element, group, MembersTree, no_members, member_and, MemberTree, named, spare, KindTree, fixed, extended, counted, by_fx, explicit, compound, SlotsTree, no_slots, slot_and, spare_slot, subitem, ValueTree, number, member_values, part_values, occurrences, content_octets, marked, ValuesTree, no_values, value_and, value_count, ListsTree, no_lists, list_and, EntriesTree, no_entries, entry_and}
use Rattle.ax_format.specs.Widths.{counter_width}
use Rattle.ax_format.specs.declared.kind.Counter.{Counter}

-- ---- fixed kinds

abbrev pub number_fits : ℕ → ValueTree → Bool
number_fits w (number n) = nat_lt n (2 ^ w)
number_fits w _ = false

abbrev mutual
  pub fixed_fits : FixedTree → ValueTree → Bool
  fixed_fits (element w c) v = number_fits w v
  fixed_fits (group ms) (member_values vs) = members_fit ms vs
  fixed_fits (group ms) _ = false

  pub member_fits : MemberTree → ValueTree → Bool
  member_fits (named name f) v = fixed_fits f v
  member_fits (spare w) v = number_fits w v

  pub members_fit : MembersTree → ValuesTree → Bool
  members_fit no_members no_values = true
  members_fit no_members (value_and v vs) = false
  members_fit (member_and m ms) no_values = false
  members_fit (member_and m ms) (value_and v vs) = member_fits m v && members_fit ms vs

-- ---- kinds

abbrev pub list_count : ListsTree → ℕ
list_count no_lists = 0
list_count (list_and vs ls) = list_count ls + 1

-- each list fits its part, as far as there are both
abbrev pub lists_fit : List MembersTree → ListsTree → Bool
lists_fit [] ls = true
lists_fit (p ∷ ps) no_lists = true
lists_fit (p ∷ ps) (list_and vs ls) = members_fit p vs && lists_fit ps ls

abbrev pub parts_fit : List MembersTree → ListsTree → Bool
parts_fit ps ls = nat_lt 0 (list_count ls) && (nat_le (list_count ls) (length ps) && lists_fit ps ls)

abbrev pub each_fits : (ValueTree → Bool) → ValuesTree → Bool
each_fits rule no_values = true
each_fits rule (value_and v vs) = rule v && each_fits rule vs

abbrev mutual
  pub kind_fits : KindTree → ValueTree → Bool
  kind_fits (fixed f) v = fixed_fits f v
  kind_fits (extended last ps) (part_values ls) = parts_fit ps ls
  kind_fits (extended last ps) _ = false
  kind_fits (counted size k) (occurrences vs) = nat_lt (value_count vs) (2 ^ counter_width size) && each_fits (kind_fits k) vs
  kind_fits (counted size k) _ = false
  kind_fits (by_fx f) (occurrences vs) = nat_lt 0 (value_count vs) && each_fits (fixed_fits f) vs
  kind_fits (by_fx f) _ = false
  kind_fits explicit (content_octets xs) = nat_lt (length xs) 255 && list_all (λ x. nat_lt x 256) xs
  kind_fits explicit _ = false
  kind_fits (compound ss) (marked es) = entries_fit 1 ss es
  kind_fits (compound ss) _ = false

  pub entries_fit : ℕ → SlotsTree → EntriesTree → Bool
  entries_fit s no_slots no_entries = true
  entries_fit s no_slots (entry_and t v es) = false
  entries_fit s (slot_and spare_slot ss) es = entries_fit (s + 1) ss es
  entries_fit s (slot_and (subitem name k) ss) no_entries = entries_fit (s + 1) ss no_entries
  entries_fit s (slot_and (subitem name k) ss) (entry_and t v es) =
      if t == s then kind_fits k v && entries_fit (s + 1) ss es else entries_fit (s + 1) ss (entry_and t v es)

-- no more values than the counter holds, and each of the kind
abbrev pub counted_fit : Counter → KindTree → ValuesTree → Bool
counted_fit size k vs = nat_lt (value_count vs) (2 ^ counter_width size) && each_fits (kind_fits k) vs
