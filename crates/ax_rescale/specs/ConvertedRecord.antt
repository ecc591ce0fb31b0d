-- The converted record and block as they are made, slot by slot of the new edition.
use Rattle.std.specs.Prelude.{ℕ, ◌+◌, if◌then◌else◌, map, Option, Some, None, option_and_then}
use Rattle.ax_relation.specs.Moved.{entry_where, first_lists}
use Rattle.ax_format.specs.At.{slot_value}
use Rattle.ax_format.specs.Blocks.{BlockTree, read_block, opaque_block}
use Rattle.ax_format.specs.Naming.{slot_named}
use Rattle.ax_format.specs.Same.{common}
use Rattle.ax_format.specs.Shared.{is_shared_kind}
use Rattle.ax_format.specs.Specification.{SpecTree, record_slots}
use Rattle.ax_format.specs.Tree.{KindTree, extended, compound, SlotsTree, no_slots, slot_and, spare_slot, subitem, ValueTree, part_values, marked, EntriesTree, no_entries}
use Rattle.ax_rescale.specs.Alike.{is_alike}
use Rattle.ax_rescale.specs.ConvertedValue.{converted_value}

-- what a slot of the second kind gets of a value of the first: of a shared kind what passes of it; of an alike one the converted
-- value, if there is one
abbrev pub slot_gets : KindTree → KindTree → ValueTree → ValueTree → Option ValueTree
slot_gets k l v passes = if is_shared_kind k l then Some passes else (if is_alike k l then converted_value k l v else None)

abbrev mutual
  -- what passes of a value of the second kind, for the first, where they are shared
  pub passes : KindTree → KindTree → ValueTree → ValueTree
  passes (compound ts) (compound ss) (marked es) = marked (passing_entries 1 ts ss es)
  passes (extended last qs) (extended other ps) (part_values ls) = part_values (first_lists (common ps qs) ls)
  passes _ _ v = v

  -- the first of the new slots has the number t
  pub passing_entries : ℕ → SlotsTree → SlotsTree → EntriesTree → EntriesTree
  passing_entries t no_slots ss es = no_entries
  passing_entries t (slot_and spare_slot ts) ss es = passing_entries (t + 1) ts ss es
  passing_entries t (slot_and (subitem name l) ts) ss es =
      entry_where t (option_and_then (λ s. option_and_then (λ v. slot_gets s.1 l v (passes l s.1 v)) (slot_value s.0 es)) (slot_named 1 name ss)) (passing_entries (t + 1) ts ss es)

abbrev pub converted_record : SpecTree → SpecTree → EntriesTree → EntriesTree
converted_record old new entries = passing_entries 1 (record_slots new) (record_slots old) entries

abbrev pub converted_block : SpecTree → SpecTree → BlockTree → BlockTree
converted_block old new (read_block category records) = read_block category (map (converted_record old new) records)
converted_block old new (opaque_block category content) = opaque_block category content
