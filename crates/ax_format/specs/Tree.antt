-- The plain trees of specifications and of values: what they say, without where they lie in memory.
use Rattle.std.specs.Prelude.{ℕ, suc, Bool, true, false, List, [], ◌∷◌}
use Rattle.ax_format.specs.declared.content.Content.{Content}
use Rattle.ax_format.specs.declared.kind.Counter.{Counter}
use Rattle.ax_format.specs.declared.kind.LastPart.{LastPart}

-- ---- fixed kinds

mutual
  -- an element of a width, or the members of a group
  pub data FixedTree : Type 0 where
    element : ℕ → Content → FixedTree
    group : MembersTree → FixedTree

  -- a named fixed kind, or spare bits of a width
  pub data MemberTree : Type 0 where
    named : List ℕ → FixedTree → MemberTree
    spare : ℕ → MemberTree

  pub data MembersTree : Type 0 where
    no_members : MembersTree
    member_and : MemberTree → MembersTree → MembersTree

-- ---- kinds

mutual
  -- an extended item has the FX of its last part and the members of each, a counted one the octets of its counter
  pub data KindTree : Type 0 where
    fixed : FixedTree → KindTree
    extended : LastPart → List MembersTree → KindTree
    counted : Counter → KindTree → KindTree
    by_fx : FixedTree → KindTree
    explicit : KindTree
    compound : SlotsTree → KindTree

  -- a slot of a compound or of the user application profile (UAP)
  pub data SlotTree : Type 0 where
    spare_slot : SlotTree
    subitem : List ℕ → KindTree → SlotTree

  pub data SlotsTree : Type 0 where
    no_slots : SlotsTree
    slot_and : SlotTree → SlotsTree → SlotsTree

-- ---- values

mutual
  -- of an element or a spare; a group; an extended item; a counted or by-FX item; an explicit item; a compound
  pub data ValueTree : Type 0 where
    number : ℕ → ValueTree
    member_values : ValuesTree → ValueTree
    part_values : ListsTree → ValueTree
    occurrences : ValuesTree → ValueTree
    content_octets : List ℕ → ValueTree
    marked : EntriesTree → ValueTree

  pub data ValuesTree : Type 0 where
    no_values : ValuesTree
    value_and : ValueTree → ValuesTree → ValuesTree

  -- the values of each part present
  pub data ListsTree : Type 0 where
    no_lists : ListsTree
    list_and : ValuesTree → ListsTree → ListsTree

  -- the number of a marked slot, from 1, its value, and the other entries
  pub data EntriesTree : Type 0 where
    no_entries : EntriesTree
    entry_and : ℕ → ValueTree → EntriesTree → EntriesTree

-- ---- trees of lists

abbrev pub members_of : List MemberTree → MembersTree
members_of [] = no_members
members_of (m ∷ ms) = member_and m (members_of ms)

abbrev pub slots_of : List SlotTree → SlotsTree
slots_of [] = no_slots
slots_of (s ∷ ss) = slot_and s (slots_of ss)

abbrev pub values_of : List ValueTree → ValuesTree
values_of [] = no_values
values_of (v ∷ vs) = value_and v (values_of vs)

abbrev pub lists_of : List (List ValueTree) → ListsTree
lists_of [] = no_lists
lists_of (vs ∷ ls) = list_and (values_of vs) (lists_of ls)

abbrev pub entries_of : List (ℕ × ValueTree) → EntriesTree
entries_of [] = no_entries
entries_of (e ∷ es) = entry_and e.0 e.1 (entries_of es)

-- ---- counts

abbrev pub value_count : ValuesTree → ℕ
value_count no_values = 0
value_count (value_and v vs) = suc (value_count vs)

abbrev pub slot_count : SlotsTree → ℕ
slot_count no_slots = 0
slot_count (slot_and s ss) = suc (slot_count ss)

-- whether each slot is defined
abbrev pub defined_slots : SlotsTree → List Bool
defined_slots no_slots = []
defined_slots (slot_and spare_slot ss) = false ∷ defined_slots ss
defined_slots (slot_and (subitem name k) ss) = true ∷ defined_slots ss
