-- The plain trees of the code's variants.
use Rattle.std.proofs.Common.{◌≡◌, ℕ, List, map, Box, Global, sym, ap, ◌∙◌}
use Rattle.ax_format.specs.Plain.{fixed_step, member_step, fixed_tree, member_tree, part_tree, kind_step, slot_step, kind_tree, slot_tree, value_step, entry_step, value_tree, values_tree, lists_tree, entries_tree}
use Rattle.ax_format.specs.Tree.{FixedTree, element, group, MemberTree, members_of, KindTree, fixed, extended, counted, by_fx, explicit, compound, SlotTree, slots_of, ValueTree, number, member_values, part_values, occurrences, content_octets, marked}
use Rattle.ax_format.specs.declared.content.Content.{Content}
use Rattle.ax_format.specs.declared.kind.Fixed.{Fixed, fold-roll-Fixed}
use Rattle.ax_format.specs.declared.kind.Fixed.TheOpen.{Fixed-F}
use Rattle.ax_format.specs.declared.kind.Fixed.TheVariants.{Element, Group, rolls-Element, rolls-Group}
use Rattle.ax_format.specs.declared.kind.Kind.{Kind, fold-roll-Kind}
use Rattle.ax_format.specs.declared.kind.Kind.TheOpen.{Kind-F}
use Rattle.ax_format.specs.declared.kind.Kind.TheVariants.{Extended, Counted, ByFx, Explicit, Compound, rolls-Fixed, rolls-Extended, rolls-Counted, rolls-ByFx, rolls-Explicit, rolls-Compound}
use Rattle.ax_format.specs.declared.kind.Kind.TheVariants as KindOf
use Rattle.ax_format.specs.declared.kind.Member.{Member}
use Rattle.ax_format.specs.declared.kind.Part.{Part}
use Rattle.ax_format.specs.declared.kind.Slot.{Slot}
use Rattle.ax_format.specs.declared.kind.Counter.{Counter}
use Rattle.ax_format.specs.declared.kind.LastPart.{LastPart}
use Rattle.ax_format.specs.declared.value.Entry.{Entry}
use Rattle.ax_format.specs.declared.value.Value.{Value, fold-roll-Value}
use Rattle.ax_format.specs.declared.value.Value.TheOpen.{Value-F}
use Rattle.ax_format.specs.declared.value.Value.TheVariants as ValueOf
use Rattle.ax_format.specs.declared.value.Value.TheVariants.{rolls-Number, rolls-Group as rolls-GroupOf, rolls-Extended as rolls-ExtendedOf, rolls-Repeat, rolls-Octets, rolls-Compound as rolls-CompoundOf}

-- ---- kinds

pub element_tree : (width : ℕ) (content : Content) → fixed_tree (Element width content) ≡ element width content
element_tree width content = ap fixed_tree (sym (rolls-Element width content)) ∙ fold-roll-Fixed FixedTree MemberTree fixed_step member_step (Fixed-F.Element width content)

pub group_tree : (members : List Member) → fixed_tree (Group members) ≡ group (members_of (map member_tree members))
group_tree members = ap fixed_tree (sym (rolls-Group members)) ∙ fold-roll-Fixed FixedTree MemberTree fixed_step member_step (Fixed-F.Group members)

pub extended_tree : (last : LastPart) (parts : List Part) → kind_tree (Extended last parts) ≡ extended last (map part_tree parts)
extended_tree last parts = ap kind_tree (sym (rolls-Extended last parts)) ∙ fold-roll-Kind KindTree SlotTree kind_step slot_step (Kind-F.Extended last parts)

pub counted_tree : (size : Counter) (inner : Box Kind Global) → kind_tree (Counted size inner) ≡ counted size (kind_tree inner.value)
counted_tree size inner = ap kind_tree (sym (rolls-Counted size inner)) ∙ fold-roll-Kind KindTree SlotTree kind_step slot_step (Kind-F.Counted size inner)

pub by_fx_tree : (inner : Fixed) → kind_tree (ByFx inner) ≡ by_fx (fixed_tree inner)
by_fx_tree inner = ap kind_tree (sym (rolls-ByFx inner)) ∙ fold-roll-Kind KindTree SlotTree kind_step slot_step (Kind-F.ByFx inner)

pub explicit_tree : kind_tree Explicit ≡ explicit
explicit_tree = ap kind_tree (sym rolls-Explicit) ∙ fold-roll-Kind KindTree SlotTree kind_step slot_step Kind-F.Explicit

pub compound_tree : (slots : List Slot) → kind_tree (Compound slots) ≡ compound (slots_of (map slot_tree slots))
compound_tree slots = ap kind_tree (sym (rolls-Compound slots)) ∙ fold-roll-Kind KindTree SlotTree kind_step slot_step (Kind-F.Compound slots)

pub fixed_kind_tree : (inner : Fixed) → kind_tree (KindOf.Fixed inner) ≡ fixed (fixed_tree inner)
fixed_kind_tree inner = ap kind_tree (sym (rolls-Fixed inner)) ∙ fold-roll-Kind KindTree SlotTree kind_step slot_step (Kind-F.Fixed inner)

-- ---- values

pub number_value : (n : ℕ) → value_tree (ValueOf.Number n) ≡ number n
number_value n = ap value_tree (sym (rolls-Number n)) ∙ fold-roll-Value ValueTree (ℕ × ValueTree) value_step entry_step (Value-F.Number n)

pub group_value : (values : List Value) → value_tree (ValueOf.Group values) ≡ member_values (values_tree values)
group_value values = ap value_tree (sym (rolls-GroupOf values)) ∙ fold-roll-Value ValueTree (ℕ × ValueTree) value_step entry_step (Value-F.Group values)

pub lists_value : (lists : List (List Value)) → value_tree (ValueOf.Extended lists) ≡ part_values (lists_tree lists)
lists_value lists = ap value_tree (sym (rolls-ExtendedOf lists)) ∙ fold-roll-Value ValueTree (ℕ × ValueTree) value_step entry_step (Value-F.Extended lists)

pub repeat_value : (values : List Value) → value_tree (ValueOf.Repeat values) ≡ occurrences (values_tree values)
repeat_value values = ap value_tree (sym (rolls-Repeat values)) ∙ fold-roll-Value ValueTree (ℕ × ValueTree) value_step entry_step (Value-F.Repeat values)

pub octets_value : (octets : List ℕ) → value_tree (ValueOf.Octets octets) ≡ content_octets octets
octets_value octets = ap value_tree (sym (rolls-Octets octets)) ∙ fold-roll-Value ValueTree (ℕ × ValueTree) value_step entry_step (Value-F.Octets octets)

pub marked_value : (entries : List Entry) → value_tree (ValueOf.Compound entries) ≡ marked (entries_tree entries)
marked_value entries = ap value_tree (sym (rolls-CompoundOf entries)) ∙ fold-roll-Value ValueTree (ℕ × ValueTree) value_step entry_step (Value-F.Compound entries)
