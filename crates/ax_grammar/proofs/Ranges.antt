-- A tree in range has its numbers in range.
use Rattle.std.proofs.Common.{List, [], ◌∷◌}
use Rattle.std.specs.List.{AllByRecursion}
use Rattle.ax_format.specs.Specification.{ItemTree, SpecTree}
use Rattle.ax_format.specs.Tree.{FixedTree, element, group, MemberTree, named, spare, MembersTree, no_members, member_and, KindTree, fixed, extended, counted, by_fx, explicit, compound, SlotTree, spare_slot, subitem, SlotsTree, no_slots, slot_and}
use Rattle.ax_format.specs.declared.content.Content.{Content}
use Rattle.ax_format.specs.declared.content.Content.TheVariants.{Raw, Table, Ascii, Icao, Octal, Integer, Quantity}
use Rattle.ax_format.specs.declared.content.TableText.{TableText}
use Rattle.ax_grammar.specs.InRange.{IsNumber, EntryInRange, ContentInRange, FixedInRange, MemberInRange, MembersInRange, KindInRange, SlotInRange, SlotsInRange, ItemInRange, InRange, NumbersFit, FixedNumbersFit, MemberNumbersFit, MembersNumbersFit, KindNumbersFit, SlotNumbersFit, SlotsNumbersFit, AreNumbersInRange}

entries_fit : (entries : List TableText) → AllByRecursion EntryInRange entries → AllByRecursion (λ entry. IsNumber entry.number) entries
entries_fit [] h = tt
entries_fit (e ∷ es) h = (h.0.0, entries_fit es h.1)

content_fits : (content : Content) → ContentInRange content → NumbersFit content
content_fits Raw h = tt
content_fits (Table entries) h = entries_fit entries h
content_fits Ascii h = tt
content_fits Icao h = tt
content_fits Octal h = tt
content_fits (Integer sign) h = tt
content_fits (Quantity scale) h = (h.0, h.1)

mutual
  pub fixed_fits : (f : FixedTree) → FixedInRange f → FixedNumbersFit f
  fixed_fits (element width content) h = (h.0, content_fits content h.1)
  fixed_fits (group ms) h = members_fit ms h

  pub member_fits : (m : MemberTree) → MemberInRange m → MemberNumbersFit m
  member_fits (named name f) h = fixed_fits f h.1
  member_fits (spare width) h = h

  pub members_fit : (ms : MembersTree) → MembersInRange ms → MembersNumbersFit ms
  members_fit no_members h = tt
  members_fit (member_and m ms) h = (member_fits m h.0, members_fit ms h.1)

parts_fit : (parts : List MembersTree) → AllByRecursion MembersInRange parts → AllByRecursion MembersNumbersFit parts
parts_fit [] h = tt
parts_fit (p ∷ ps) h = (members_fit p h.0, parts_fit ps h.1)

mutual
  pub kind_fits : (k : KindTree) → KindInRange k → KindNumbersFit k
  kind_fits (fixed f) h = fixed_fits f h
  kind_fits (extended last ps) h = parts_fit ps h
  kind_fits (counted size k) h = kind_fits k h
  kind_fits (by_fx f) h = fixed_fits f h
  kind_fits explicit h = tt
  kind_fits (compound ss) h = slots_fit ss h

  pub slot_fits : (s : SlotTree) → SlotInRange s → SlotNumbersFit s
  slot_fits spare_slot h = tt
  slot_fits (subitem name k) h = kind_fits k h.1

  pub slots_fit : (ss : SlotsTree) → SlotsInRange ss → SlotsNumbersFit ss
  slots_fit no_slots h = tt
  slots_fit (slot_and s ss) h = (slot_fits s h.0, slots_fit ss h.1)

items_fit : (items : List ItemTree) → AllByRecursion ItemInRange items → AllByRecursion (λ item. KindNumbersFit item.kind) items
items_fit [] h = tt
items_fit (item ∷ items) h = (kind_fits item.kind h.0.2, items_fit items h.1)

pub numbers_in_range : (spec : SpecTree) → InRange spec → AreNumbersInRange spec
numbers_in_range spec h = items_fit spec.items h.items
