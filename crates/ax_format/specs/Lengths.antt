-- How many octets the canonical spelling of a value has, as a count along the value. Widths are capped at 2^64 - 1.
use Rattle.std.specs.Prelude.{ℕ, zero, suc, ◌+◌, ◌*◌, ◌/◌, min, List, [], ◌∷◌, length, Option, Some, None}
use Rattle.ax_format.specs.Plain.{spec_tree, record_tree}
use Rattle.ax_format.specs.Specification.{record_kind}
use Rattle.ax_format.specs.Tree.{MembersTree, KindTree, fixed, extended, counted, by_fx, explicit, compound, SlotTree, SlotsTree, no_slots, slot_and, spare_slot, subitem, ValueTree, part_values, occurrences, content_octets, marked, ValuesTree, no_values, value_and, value_count, ListsTree, no_lists, list_and, EntriesTree, no_entries, entry_and}
use Rattle.ax_format.specs.Widths.{width, members_width, counter_octets, fx_width}
use Rattle.ax_format.specs.declared.record.Record.{Record}
use Rattle.ax_format.specs.declared.spec.Spec.{Spec}
use Rattle.ax_format.specs.declared.kind.LastPart.{LastPart}

-- the greatest count that 64 bits hold stands for every greater one
abbrev pub capped : ℕ → ℕ
capped n = min n 18446744073709551615

-- whole octets of w bits, and of w bits and so many FX bits
abbrev pub run_octets : ℕ → ℕ
run_octets w = capped w / 8

abbrev pub unit_octets : ℕ → ℕ → ℕ
unit_octets fx w = capped (capped w + fx) / 8

-- ---- slots by number

abbrev pub kind_of_slot : SlotTree → Option KindTree
kind_of_slot spare_slot = None
kind_of_slot (subitem name k) = Some k

-- the kind of the slot after i others
abbrev pub kind_after : ℕ → SlotsTree → Option KindTree
kind_after i no_slots = None
kind_after zero (slot_and s ss) = kind_of_slot s
kind_after (suc i) (slot_and s ss) = kind_after i ss

-- the kind of the slot of a number, which counts from 1
abbrev pub slot_kind : SlotsTree → ℕ → Option KindTree
slot_kind ss zero = None
slot_kind ss (suc i) = kind_after i ss

-- the number of the last entry's slot, or t where there is no entry
abbrev pub last_slot : ℕ → EntriesTree → ℕ
last_slot t no_entries = t
last_slot t (entry_and s v es) = last_slot s es

-- of the least presence field whose last marked slot has that number
abbrev pub presence_octets : ℕ → ℕ
presence_octets t = (t + 6) / 7

-- ---- values

abbrev pub parts_octets : LastPart → List MembersTree → ListsTree → ℕ
parts_octets last [] ls = 0
parts_octets last (p ∷ ps) no_lists = 0
parts_octets last (p ∷ ps) (list_and vs ls) = unit_octets (fx_width last (length ps)) (members_width p) + parts_octets last ps ls

abbrev pub octets_where : Option KindTree → (KindTree → ℕ) → ℕ
octets_where None rule = 0
octets_where (Some k) rule = rule k

abbrev mutual
  pub octets : ValueTree → KindTree → ℕ
  octets v (fixed f) = run_octets (width f)
  octets (part_values ls) (extended last ps) = parts_octets last ps ls
  octets (occurrences vs) (counted size k) = each_octets vs k + counter_octets size
  octets (occurrences vs) (by_fx f) = value_count vs * unit_octets 1 (width f)
  octets (content_octets xs) explicit = length xs + 1
  octets (marked es) (compound ss) = entries_octets es (slot_kind ss) + presence_octets (last_slot 1 es)
  octets _ _ = 0

  pub each_octets : ValuesTree → KindTree → ℕ
  each_octets no_values k = 0
  each_octets (value_and v vs) k = octets v k + each_octets vs k

  -- of entries whose slots have these kinds, without the presence field
  pub entries_octets : EntriesTree → (ℕ → Option KindTree) → ℕ
  entries_octets no_entries kinds = 0
  entries_octets (entry_and t v es) kinds = octets_where (kinds t) (octets v) + entries_octets es kinds

-- ---- records

abbrev pub record_octets : Spec → Record → ℕ
record_octets spec r = octets (marked (record_tree r)) (record_kind (spec_tree spec))

abbrev pub records_octets : Spec → List Record → ℕ
records_octets spec [] = 0
records_octets spec (r ∷ rs) = record_octets spec r + records_octets spec rs
