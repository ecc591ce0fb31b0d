-- Each way through the readers of kinds and of slots.
use Rattle.std.proofs.Common.{◌≡◌, ℕ, List, [], ◌∷◌, ◌++◌, map, ap, sym, ◌∙◌, subst, Box, Global, Some}
use Rattle.std.specs.Option.{option_map}
use Rattle.std.proofs.lemmas.List.{map-append}
use Rattle.ax_format.proofs.VariantTrees.{extended_tree, counted_tree, by_fx_tree, explicit_tree, compound_tree, lists_value, repeat_value, octets_value, marked_value}
use Rattle.ax_format.specs.InBounds.{InBounds}
use Rattle.ax_format.specs.Lookup.{item_of_frn}
use Rattle.ax_format.specs.Plain.{fixed_tree, part_tree, kind_tree, slot_tree, kind_step, slot_step, item_tree, slots_tree, value_tree, values_tree, lists_tree, entries_tree, entry_tree, value_step, entry_step}
use Rattle.ax_format.specs.Specification.{slot_of_item}
use Rattle.ax_format.specs.Tree.{KindTree, extended, counted, by_fx, explicit, compound, ValueTree, part_values, occurrences, content_octets, marked, SlotTree, subitem}
use Rattle.ax_format.specs.declared.kind.Counter.{Counter}
use Rattle.ax_format.specs.declared.kind.Fixed.{Fixed}
use Rattle.ax_format.specs.declared.kind.Kind.{Kind}
use Rattle.ax_format.specs.declared.kind.Kind.TheOpen.{Slot-F}
use Rattle.ax_format.specs.declared.kind.Kind.TheVariants as KindOf
use Rattle.ax_format.specs.declared.kind.LastPart.{LastPart}
use Rattle.ax_format.specs.declared.kind.Part.{Part}
use Rattle.ax_format.specs.declared.kind.Slot.{Slot, fold-roll-Slot}
use Rattle.ax_format.specs.declared.kind.Slot.TheVariants.{Sub, rolls-Sub}
use Rattle.ax_format.specs.declared.spec.Item.{Item}
use Rattle.ax_format.specs.declared.spec.Spec.{Spec}
use Rattle.ax_format.specs.declared.value.Entry.{Entry, roll-Entry, fold-roll-Entry}
use Rattle.ax_format.specs.declared.value.Value.{Value}
use Rattle.ax_format.specs.declared.value.Value.TheVariants as ValueOf
use Rattle.ax_fspec.specs.Reading.{Gets, kind_read, SlotInBounds, slot_of_frn}
use Rattle.ax_values.specs.SlotReading.{HasFailed, Adds, SlotAdds, SlotFails, IsSlotRead, HasSlotFailed}
use Rattle.ax_values.specs.declared.error.DecodeError.{DecodeError}
use Rattle.ax_values.specs.declared.error.DecodeError.TheVariants as Decoding
use Rattle.ax_values.proofs.Continuing.{failed_by_want}

-- ---- a value under its kind's own name

gets_at : (kind k : KindTree) (u v : ValueTree) (body : List ℕ) (at end : ℕ) → kind ≡ k → u ≡ v → Gets (kind_read k body at) body at end v → Gets (kind_read kind body at) body at end u
gets_at kind k u v body at end e f g = subst (λ z. Gets (kind_read kind body at) body at end z) (sym f) (subst (λ z. Gets (kind_read z body at) body at end v) (sym e) g)

pub failed_at : (kind k : KindTree) (body : List ℕ) (at : ℕ) (e : DecodeError) → kind ≡ k → HasFailed (kind_read k body at) at e → HasFailed (kind_read kind body at) at e
failed_at kind k body at e is h = subst (λ z. HasFailed (kind_read z body at) at e) (sym is) h

pub extended_is : (kind : Kind) (last : LastPart) (parts : List Part) → kind ≡ KindOf.Extended last parts → kind_tree kind ≡ extended last (map part_tree parts)
extended_is kind last parts e = ap kind_tree e ∙ extended_tree last parts

pub counted_is : (kind held : Kind) (size : Counter) (inner : Box Kind Global) → kind ≡ KindOf.Counted size inner → held ≡ inner.value → kind_tree kind ≡ counted size (kind_tree held)
counted_is kind held size inner e same = ap kind_tree e ∙ counted_tree size inner ∙ ap (λ k. counted size (kind_tree k)) (sym same)

pub by_fx_is : (kind : Kind) (fixed : Fixed) → kind ≡ KindOf.ByFx fixed → kind_tree kind ≡ by_fx (fixed_tree fixed)
by_fx_is kind fixed e = ap kind_tree e ∙ by_fx_tree fixed

pub explicit_is : (kind : Kind) → kind ≡ KindOf.Explicit → kind_tree kind ≡ explicit
explicit_is kind e = ap kind_tree e ∙ explicit_tree

pub compound_is : (kind : Kind) (slots : List Slot) → kind ≡ KindOf.Compound slots → kind_tree kind ≡ compound (slots_tree slots)
compound_is kind slots e = ap kind_tree e ∙ compound_tree slots

pub lists_got : (kind k : KindTree) (lists : List (List Value)) (body : List ℕ) (at end : ℕ) → kind ≡ k → Gets (kind_read k body at) body at end (part_values (lists_tree lists)) → Gets (kind_read kind body at) body at end (value_tree (ValueOf.Extended lists))
lists_got kind k lists body at end e g = gets_at kind k (value_tree (ValueOf.Extended lists)) (part_values (lists_tree lists)) body at end e (lists_value lists) g

pub values_got : (kind k : KindTree) (values : List Value) (body : List ℕ) (at end : ℕ) → kind ≡ k → Gets (kind_read k body at) body at end (occurrences (values_tree values)) → Gets (kind_read kind body at) body at end (value_tree (ValueOf.Repeat values))
values_got kind k values body at end e g = gets_at kind k (value_tree (ValueOf.Repeat values)) (occurrences (values_tree values)) body at end e (repeat_value values) g

pub octets_got : (kind k : KindTree) (octets : List ℕ) (body : List ℕ) (at end : ℕ) → kind ≡ k → Gets (kind_read k body at) body at end (content_octets octets) → Gets (kind_read kind body at) body at end (value_tree (ValueOf.Octets octets))
octets_got kind k octets body at end e g = gets_at kind k (value_tree (ValueOf.Octets octets)) (content_octets octets) body at end e (octets_value octets) g

pub entries_got : (kind k : KindTree) (entries : List Entry) (body : List ℕ) (at end : ℕ) → kind ≡ k → Gets (kind_read k body at) body at end (marked (entries_tree entries)) → Gets (kind_read kind body at) body at end (value_tree (ValueOf.Compound entries))
entries_got kind k entries body at end e g = gets_at kind k (value_tree (ValueOf.Compound entries)) (marked (entries_tree entries)) body at end e (marked_value entries) g

-- ---- the entry of a slot

pub sub_is : (slot : Slot) (name : List ℕ) (k : Kind) → slot ≡ Sub name k → slot_tree slot ≡ subitem name (kind_tree k)
sub_is slot name k e = ap slot_tree e ∙ ap slot_tree (sym (rolls-Sub name k)) ∙ fold-roll-Slot KindTree SlotTree kind_step slot_step (Slot-F.Sub name k)

pub item_is : (spec : Spec) (frn : ℕ) (item : Item) → item_of_frn frn spec.uap spec.items ≡ Some item → slot_of_frn frn spec ≡ subitem item.name (kind_tree item.kind)
item_is spec frn item e = ap (λ o. slot_of_item (option_map item_tree o)) e

pub bounds_there : (slot : SlotTree) (name : List ℕ) (k : KindTree) → slot ≡ subitem name k → SlotInBounds slot → InBounds k
bounds_there slot name k is h = subst SlotInBounds is h

pub slot_failed : (slot : SlotTree) (name : List ℕ) (k : KindTree) (body : List ℕ) (at : ℕ) (e : DecodeError) → slot ≡ subitem name k → HasFailed (kind_read k body at) at e → HasSlotFailed slot body at e
slot_failed slot name k body at e is h = record { failed = subst (λ s. SlotFails s body at e) (sym is) h }

pub slot_wants : (slot : SlotTree) (name : List ℕ) (k : KindTree) (body : List ℕ) (at : ℕ) (e : DecodeError) → slot ≡ subitem name k → e ≡ Decoding.OutOfMemory → HasSlotFailed slot body at e
slot_wants slot name k body at e is want = slot_failed slot name k body at e is (failed_by_want (kind_read k body at) at e want)

pub slot_read : (slot : SlotTree) (name : List ℕ) (k : KindTree) (number : ℕ) (value : Value) (body : List ℕ) (at end : ℕ) (old new : List Entry) → slot ≡ subitem name k → Gets (kind_read k body at) body at end (value_tree value)
    → new ≡ old ++ roll-Entry (record { slot = number; value = value }) ∷ [] → IsSlotRead slot number body at end old new
slot_read slot name k number value body at end old new is g pushed =
    let entry : Entry = roll-Entry (record { slot = number; value = value }) in
    let tree : entry_tree entry ≡ (number, value_tree value) = fold-roll-Entry ValueTree (ℕ × ValueTree) value_step entry_step (record { slot = number; value = value }) in
    let adds : Adds k number body at end old new = record {
      value = value_tree value;
      read = g;
      entries = ap (map entry_tree) pushed ∙ map-append entry_tree old (entry ∷ []) ∙ ap (λ one. map entry_tree old ++ one ∷ []) tree;
    } in
    record { adds = subst (λ s. SlotAdds s number body at end old new) (sym is) adds }
