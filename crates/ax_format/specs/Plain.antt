-- The plain trees of the code's types.
use Rattle.std.specs.Prelude.{ℕ, List, map}
use Rattle.ax_format.specs.Blocks.{BlockTree, read_block, opaque_block}
use Rattle.ax_format.specs.Specification.{ItemTree, SpecTree}
use Rattle.ax_format.specs.Tree.{FixedTree, element, group, MembersTree, MemberTree, named, spare, members_of, KindTree, fixed, extended, counted, by_fx, explicit, compound, SlotsTree, SlotTree, spare_slot, subitem, slots_of, ValueTree, number, member_values, part_values, occurrences, content_octets, marked, ValuesTree, values_of, ListsTree, lists_of, EntriesTree, entries_of}
use Rattle.ax_format.specs.declared.kind.Fixed.{Fixed, fold-Fixed}
use Rattle.ax_format.specs.declared.kind.Fixed.TheOpen.{Fixed-F, Member-F}
use Rattle.ax_format.specs.declared.kind.Kind.{Kind, fold-Kind}
use Rattle.ax_format.specs.declared.kind.Kind.TheOpen.{Kind-F, Slot-F}
use Rattle.ax_format.specs.declared.kind.Member.{Member, fold-Member}
use Rattle.ax_format.specs.declared.kind.Part.{Part}
use Rattle.ax_format.specs.declared.kind.Slot.{Slot, fold-Slot}
use Rattle.ax_format.specs.declared.record.Block.{Block}
use Rattle.ax_format.specs.declared.record.Block.TheVariants as BlockOf
use Rattle.ax_format.specs.declared.record.Record.{Record}
use Rattle.ax_format.specs.declared.spec.Item.{Item}
use Rattle.ax_format.specs.declared.spec.Spec.{Spec}
use Rattle.ax_format.specs.declared.value.Entry.{Entry, fold-Entry}
use Rattle.ax_format.specs.declared.value.Value.{Value, fold-Value}
use Rattle.ax_format.specs.declared.value.Value.TheOpen.{Value-F, Entry-F}

-- ---- fixed kinds

abbrev pub fixed_step : Fixed-F FixedTree MemberTree → FixedTree
fixed_step (Fixed-F.Element w c) = element w c
fixed_step (Fixed-F.Group ms) = group (members_of ms)

abbrev pub member_step : Member-F FixedTree MemberTree → MemberTree
member_step (Member-F.Named name f) = named name f
member_step (Member-F.Spare w) = spare w

abbrev pub fixed_tree : Fixed → FixedTree
fixed_tree f = fold-Fixed FixedTree MemberTree fixed_step member_step f

abbrev pub member_tree : Member → MemberTree
member_tree m = fold-Member FixedTree MemberTree fixed_step member_step m

abbrev pub members_tree : List Member → MembersTree
members_tree ms = members_of (map member_tree ms)

abbrev pub part_tree : Part → MembersTree
part_tree p = members_tree p.members

-- ---- kinds

abbrev pub kind_step : Kind-F KindTree SlotTree → KindTree
kind_step (Kind-F.Fixed f) = fixed (fixed_tree f)
kind_step (Kind-F.Extended last ps) = extended last (map part_tree ps)
kind_step (Kind-F.Counted size k) = counted size k.value
kind_step (Kind-F.ByFx f) = by_fx (fixed_tree f)
kind_step Kind-F.Explicit = explicit
kind_step (Kind-F.Compound ss) = compound (slots_of ss)

abbrev pub slot_step : Slot-F KindTree SlotTree → SlotTree
slot_step Slot-F.Spare = spare_slot
slot_step (Slot-F.Sub name k) = subitem name k

abbrev pub kind_tree : Kind → KindTree
kind_tree k = fold-Kind KindTree SlotTree kind_step slot_step k

abbrev pub slot_tree : Slot → SlotTree
slot_tree s = fold-Slot KindTree SlotTree kind_step slot_step s

abbrev pub slots_tree : List Slot → SlotsTree
slots_tree ss = slots_of (map slot_tree ss)

-- ---- values

abbrev pub value_step : Value-F ValueTree (ℕ × ValueTree) → ValueTree
value_step (Value-F.Number n) = number n
value_step (Value-F.Group vs) = member_values (values_of vs)
value_step (Value-F.Extended ls) = part_values (lists_of ls)
value_step (Value-F.Repeat vs) = occurrences (values_of vs)
value_step (Value-F.Octets xs) = content_octets xs
value_step (Value-F.Compound es) = marked (entries_of es)

abbrev pub entry_step : Entry-F ValueTree (ℕ × ValueTree) → ℕ × ValueTree
entry_step e = (e.slot, e.value)

abbrev pub value_tree : Value → ValueTree
value_tree v = fold-Value ValueTree (ℕ × ValueTree) value_step entry_step v

abbrev pub entry_tree : Entry → ℕ × ValueTree
entry_tree e = fold-Entry ValueTree (ℕ × ValueTree) value_step entry_step e

abbrev pub values_tree : List Value → ValuesTree
values_tree vs = values_of (map value_tree vs)

abbrev pub value_list : List Value → List ValueTree
value_list vs = map value_tree vs

abbrev pub lists_tree : List (List Value) → ListsTree
lists_tree ls = lists_of (map value_list ls)

abbrev pub entries_tree : List Entry → EntriesTree
entries_tree es = entries_of (map entry_tree es)

-- ---- specifications, records and blocks

abbrev pub item_tree : Item → ItemTree
item_tree item = record { name = item.name; title = item.title; kind = kind_tree item.kind }

abbrev pub spec_tree : Spec → SpecTree
spec_tree spec = record { category = spec.category; edition = spec.edition; items = map item_tree spec.items; uap = spec.uap }

abbrev pub catalogue_tree : List Spec → List SpecTree
catalogue_tree specs = map spec_tree specs

abbrev pub record_tree : Record → EntriesTree
record_tree r = entries_tree r.entries

abbrev pub records_tree : List Record → List EntriesTree
records_tree rs = map record_tree rs

abbrev pub block_tree : Block → BlockTree
block_tree (BlockOf.Read category records) = read_block category (records_tree records)
block_tree (BlockOf.Opaque category octets) = opaque_block category octets
