-- The migrated value as it is made, slot by slot of the new edition.
use Rattle.std.specs.Prelude.{ℕ, zero, suc, ◌+◌, if◌then◌else◌, Option, Some, None, option_map, option_and_then}
use Rattle.ax_format.specs.Same.{common}
use Rattle.ax_format.specs.Shared.{is_shared_kind}
use Rattle.ax_format.specs.At.{slot_value}
use Rattle.ax_format.specs.Naming.{slot_named}
use Rattle.ax_format.specs.Specification.{SpecTree, record_slots}
use Rattle.ax_format.specs.Tree.{KindTree, extended, compound, SlotsTree, no_slots, slot_and, spare_slot, subitem, ValueTree, part_values, marked, ListsTree, no_lists, list_and, EntriesTree, no_entries, entry_and}

-- an entry for slot t in front of others, if there is a value
abbrev pub entry_where : ℕ → Option ValueTree → EntriesTree → EntriesTree
entry_where t None es = es
entry_where t (Some v) es = entry_and t v es

-- the first n parts, or all where no more are present
abbrev pub first_lists : ℕ → ListsTree → ListsTree
first_lists zero ls = no_lists
first_lists (suc n) no_lists = no_lists
first_lists (suc n) (list_and vs ls) = list_and vs (first_lists n ls)

abbrev mutual
  -- of a value of the second kind, for the first
  pub moved : KindTree → KindTree → ValueTree → ValueTree
  moved (compound ts) (compound ss) (marked es) = marked (moved_entries 1 ts ss es)
  moved (extended last qs) (extended other ps) (part_values ls) = part_values (first_lists (common ps qs) ls)
  moved _ _ v = v

  -- the first of the new slots has the number t
  pub moved_entries : ℕ → SlotsTree → SlotsTree → EntriesTree → EntriesTree
  moved_entries t no_slots ss es = no_entries
  moved_entries t (slot_and spare_slot ts) ss es = moved_entries (t + 1) ts ss es
  moved_entries t (slot_and (subitem name l) ts) ss es =
      entry_where t (option_and_then (λ s. if is_shared_kind s.1 l then option_map (moved l s.1) (slot_value s.0 es) else None) (slot_named 1 name ss)) (moved_entries (t + 1) ts ss es)

abbrev pub moved_record : SpecTree → SpecTree → EntriesTree → EntriesTree
moved_record old new entries = moved_entries 1 (record_slots new) (record_slots old) entries
