-- The value to which a value is converted, as a function (this project's own rule): None where there is none.
use Rattle.std.specs.Prelude.{ℕ, ◌+◌, ◌*◌, ◌^◌, ◌==◌, Bool, if◌then◌else◌, pos, ◌*ℤ◌, find, Option, Some, None, option_map}
use Rattle.std.specs.List.{range_with_len}
use Rattle.std.specs.Ordering.{int_eq}
use Rattle.ax_format.specs.Signs.{by_sign}
use Rattle.ax_format.specs.Tree.{FixedTree, element, group, MembersTree, no_members, member_and, MemberTree, named, spare, KindTree, fixed, extended, counted, by_fx, explicit, compound, SlotsTree, no_slots, slot_and, spare_slot, subitem, ValueTree, number, member_values, occurrences, marked, ValuesTree, no_values, value_and, EntriesTree, no_entries, entry_and}
use Rattle.ax_format.specs.declared.content.Content.{Content}
use Rattle.ax_format.specs.declared.content.Content.TheVariants.{Quantity}
use Rattle.ax_format.specs.declared.content.Scale.{Scale}

-- ---- numbers

-- m in u bits stands for as much under the new scale as n in w bits does under the old one
abbrev pub stands_for : ℕ → Scale → ℕ → ℕ → Scale → ℕ → Bool
stands_for w old n u new m = int_eq (by_sign new.sign u m *ℤ pos (new.num * old.den)) (by_sign old.sign w n *ℤ pos (old.num * new.den))

-- the number of u bits that does
abbrev pub converted_quantity : ℕ → Scale → ℕ → ℕ → Scale → Option ℕ
converted_quantity w old n u new = find (stands_for w old n u new) (range_with_len 0 (2 ^ u))

abbrev pub converted_number : ℕ → Content → ℕ → ℕ → Content → Option ℕ
converted_number w (Quantity s) n u (Quantity t) = converted_quantity w s n u t
converted_number w c n u d = Some n

-- ---- values

abbrev pub value_before : Option ValueTree → Option ValuesTree → Option ValuesTree
value_before (Some x) (Some xs) = Some (value_and x xs)
value_before _ _ = None

abbrev mutual
  pub converted_fixed : FixedTree → FixedTree → ValueTree → Option ValueTree
  converted_fixed (element w c) (element u d) (number n) = option_map number (converted_number w c n u d)
  converted_fixed (group ms) (group ns) (member_values vs) = option_map member_values (converted_members ms ns vs)
  converted_fixed _ _ _ = None

  pub converted_member : MemberTree → MemberTree → ValueTree → Option ValueTree
  converted_member (named name f) (named other g) v = converted_fixed f g v
  converted_member (spare w) (spare u) v = Some v
  converted_member _ _ _ = None

  pub converted_members : MembersTree → MembersTree → ValuesTree → Option ValuesTree
  converted_members no_members no_members no_values = Some no_values
  converted_members (member_and m ms) (member_and n ns) (value_and v vs) = value_before (converted_member m n v) (converted_members ms ns vs)
  converted_members _ _ _ = None

-- each of the values by one rule
abbrev pub each_converted : (ValueTree → Option ValueTree) → ValuesTree → Option ValuesTree
each_converted rule no_values = Some no_values
each_converted rule (value_and v vs) = value_before (rule v) (each_converted rule vs)

abbrev pub entry_before : ℕ → Option ValueTree → Option EntriesTree → Option EntriesTree
entry_before t (Some x) (Some xs) = Some (entry_and t x xs)
entry_before t _ _ = None

abbrev mutual
  pub converted_value : KindTree → KindTree → ValueTree → Option ValueTree
  converted_value (fixed f) (fixed g) v = converted_fixed f g v
  converted_value (extended last ps) (extended other qs) v = Some v
  converted_value (counted size k) (counted other l) (occurrences vs) = option_map occurrences (each_converted (converted_value k l) vs)
  converted_value (by_fx f) (by_fx g) (occurrences vs) = option_map occurrences (each_converted (converted_fixed f g) vs)
  converted_value explicit explicit v = Some v
  converted_value (compound ss) (compound ts) (marked es) = option_map marked (converted_slots 1 ss ts es)
  converted_value _ _ _ = None

  -- the entries go to the slots of their numbers; the first of these slots has the number s
  pub converted_slots : ℕ → SlotsTree → SlotsTree → EntriesTree → Option EntriesTree
  converted_slots s no_slots no_slots no_entries = Some no_entries
  converted_slots s (slot_and spare_slot ss) (slot_and spare_slot ts) es = converted_slots (s + 1) ss ts es
  converted_slots s (slot_and (subitem name k) ss) (slot_and (subitem other l) ts) no_entries = converted_slots (s + 1) ss ts no_entries
  converted_slots s (slot_and (subitem name k) ss) (slot_and (subitem other l) ts) (entry_and t v es) =
      if t == s then entry_before t (converted_value k l v) (converted_slots (s + 1) ss ts es) else converted_slots (s + 1) ss ts (entry_and t v es)
  converted_slots _ _ _ _ = None
