-- Each way through the readers of a record.
use Rattle.std.proofs.Common.{◌≡◌, ℕ, ◌+◌, ◌<◌, ◌≤◌, List, [], ◌∷◌, ◌++◌, refl, sym, ◌∙◌, ap, subst, length, drop, get_or, map, codes, Some, None}
use Rattle.std.specs.Prelude.{Result}
use Rattle.std.proofs.lemmas.List.{drop_all}
use Rattle.ax_tokens.specs.Stopping.{Texts, Stops, IsNotFirst, Word}
use Rattle.ax_tokens.specs.declared.stopped.Stopped.{Stopped}
use Rattle.ax_tokens.proofs.Words.{not_first}
use Rattle.ax_format.proofs.RecordFitting.{spare_is, item_is}
use Rattle.ax_format.specs.Bodies.{RecordShape}
use Rattle.ax_format.specs.Characters.{IsName}
use Rattle.ax_format.specs.Lookup.{item_of_slot}
use Rattle.ax_format.specs.Plain.{item_tree, kind_tree, entries_tree}
use Rattle.ax_format.specs.Shape.{Shape, EntriesShape}
use Rattle.ax_format.specs.Specification.{SpecTree, uap_slot, record_slots}
use Rattle.ax_format.specs.Tree.{SlotTree, SlotsTree, no_slots, slot_and, spare_slot, subitem, slots_of, ValueTree, EntriesTree}
use Rattle.ax_format.specs.declared.spec.Item.{Item}
use Rattle.ax_format.specs.declared.spec.UapSlot.{UapSlot}
use Rattle.ax_format.specs.declared.spec.UapSlot.TheVariants as Uap
use Rattle.ax_format.specs.declared.value.Entry.{Entry}
use Rattle.ax_text_form.proofs.Printed.{from_place}
use Rattle.ax_text_form.proofs.Readables.{HasName, found_named}
use Rattle.ax_text_form.specs.Readable.{Readable, SlotReadable}
use Rattle.ax_text_form.specs.Slots.{SlotShape}
use Rattle.ax_text_form.specs.ValueText.{opening, closing}
use Rattle.ax_block_reader.specs.Continuing.{Spelled, IsRead, Gives}
use Rattle.ax_block_reader.specs.Entries.{slot_texts, SlotNamed, IsNotNamed, IsNamedAt}
use Rattle.ax_block_reader.specs.Languages.{kind_texts, entries_texts}
use Rattle.ax_block_reader.specs.Records.{braced_entries_texts, record_texts}
use Rattle.ax_block_reader.proofs.Continuations.{lacks_there, Prefixed, prefix_lacks, prefix_read}
use Rattle.ax_block_reader.proofs.Collecting.{prefix_is_read, prefix_gives}
use Rattle.ax_block_reader.proofs.EntryWays.{entries_due}
use Rattle.ax_block_reader.proofs.KindWays.{slot_way, slot_is_read}
use Rattle.ax_text_form.proofs.SlotTrees.{slot_has, item_there, name_there}

-- ---- the slot of an item by its name

is_named : (name : List ℕ) (slot : SlotTree) → HasName name slot → IsName name → SlotNamed slot
is_named name spare_slot h n = tt
is_named name (subitem other k) h n = subst IsName (sym h) n

not_named : (name : List ℕ) (slot : SlotTree) (texts : Texts) → HasName name slot → IsNotFirst (λ text. text ≡ name) texts → IsNotNamed slot texts
not_named name spare_slot texts h n = tt
not_named name (subitem other k) texts h n = subst (λ w. IsNotFirst (λ text. text ≡ w) texts) (sym h) n

pub spare_named : (items : List Item) (slot : UapSlot) → slot ≡ Uap.Spare → SlotNamed (uap_slot (map item_tree items) slot)
spare_named items slot e = subst (λ s. SlotNamed (uap_slot (map item_tree items) s)) (sym e) tt

pub spare_skipped : (items : List Item) (slot : UapSlot) (texts : Texts) → slot ≡ Uap.Spare → IsNotNamed (uap_slot (map item_tree items) slot) texts
spare_skipped items slot texts e = subst (λ s. IsNotNamed (uap_slot (map item_tree items) s) texts) (sym e) tt

pub item_named : (items : List Item) (slot : UapSlot) (name : List ℕ) → slot ≡ Uap.Item name → IsName name → SlotNamed (uap_slot (map item_tree items) slot)
item_named items slot name e n = is_named name (uap_slot (map item_tree items) slot) (slot_has items slot name e) n

-- another text comes
pub other_comes : (items : List Item) (slot : UapSlot) (name word text : List ℕ) (texts : Texts) → slot ≡ Uap.Item name → word ≡ name → texts ≡ text ∷ drop 1 texts → (text ≡ word → ⊥) → IsNotNamed (uap_slot (map item_tree items) slot) texts
other_comes items slot name word text texts e same is n =
    not_named name (uap_slot (map item_tree items) slot) texts (slot_has items slot name e) (not_first (λ t. t ≡ name) texts text is (λ h. n (h ∙ sym same)))

-- the name comes, and no item has it
pub none_has : (items : List Item) (slot : UapSlot) (texts : Texts) → item_of_slot (Some slot) items ≡ None → IsNotNamed (uap_slot (map item_tree items) slot) texts
none_has items slot texts e = subst (λ s. IsNotNamed s texts) (sym (spare_is items slot e)) tt

pub ruleset item_steps = (spare_named, spare_skipped, item_named, other_comes, none_has, item_there, name_there)

-- ---- its value

pub readable_item : (slot : SlotTree) (item : Item) → slot ≡ subitem item.name (kind_tree item.kind) → SlotReadable slot → Readable (kind_tree item.kind)
readable_item slot item e r = subst SlotReadable e r

pub item_way : (slot : SlotTree) (item : Item) (stopped : Stopped) (old mid new : Texts) → slot ≡ subitem item.name (kind_tree item.kind) → old ≡ item.name ∷ mid → Stops stopped (Spelled (Shape (kind_tree item.kind)) (kind_texts (kind_tree item.kind))) mid new
    → Stops stopped (Spelled (SlotShape slot) (slot_texts slot)) old new × IsNamedAt slot old
item_way slot item stopped old mid new e h s = slot_way slot item.name (kind_tree item.kind) stopped old mid new e h s

pub item_is_read : (slot : SlotTree) (item : Item) (v : ValueTree) (old mid new : Texts) → slot ≡ subitem item.name (kind_tree item.kind) → old ≡ item.name ∷ mid → IsRead (Shape (kind_tree item.kind)) (kind_texts (kind_tree item.kind)) v mid new
    → IsRead (SlotShape slot) (slot_texts slot) v old new
item_is_read slot item v old mid new e h r = slot_is_read slot item.name (kind_tree item.kind) v old mid new e h r

pub ruleset value_steps = readable_item

-- ---- the slots of the UAP

-- ---- records

abbrev AreEntries : SpecTree → Texts → Type 0
AreEntries spec = Spelled (EntriesShape 1 (record_slots spec)) (entries_texts 1 (record_slots spec))

abbrev AreBraced : SpecTree → Texts → Type 0
AreBraced spec = Spelled (EntriesShape 1 (record_slots spec)) (braced_entries_texts spec)

abbrev AreRecord : SpecTree → Texts → Type 0
AreRecord spec = Spelled (RecordShape spec) (record_texts spec)

braced_prefixed : (spec : SpecTree) → Prefixed opening (AreEntries spec) (AreBraced spec)
braced_prefixed spec = record { put = λ t m. (m.0, m.1, ap (λ x. opening ∷ x) m.2); taken = λ t m. (entries_texts 1 (record_slots spec) m.0, m.2, (m.0, m.1, refl)) }

pub open_way : (spec : SpecTree) (stopped : Stopped) (old new : Texts) → Stops stopped (Word opening) old new → Stops stopped (AreBraced spec) old new
open_way spec stopped old new s = prefix_lacks opening (AreEntries spec) (AreBraced spec) (closing ∷ []) stopped old new (braced_prefixed spec) (entries_due 1 (record_slots spec)) s

pub braced_gives : (spec : SpecTree) (r : Result (List Entry) Stopped) (old mid new : Texts) → old ≡ (opening ∷ []) ++ mid → Gives entries_tree (EntriesShape 1 (record_slots spec)) (entries_texts 1 (record_slots spec)) r mid new → Gives entries_tree (EntriesShape 1 (record_slots spec)) (braced_entries_texts spec) r old new
braced_gives spec r old mid new e g = prefix_gives entries_tree opening (EntriesShape 1 (record_slots spec)) (braced_entries_texts spec) (EntriesShape 1 (record_slots spec)) (entries_texts 1 (record_slots spec)) r old mid new (braced_prefixed spec) (λ es h. h) (λ es. refl) e g

record_prefixed : (spec : SpecTree) → Prefixed (codes "record") (AreBraced spec) (AreRecord spec)
record_prefixed spec = record {
  put = λ t m. (m.0, record { shape = m.1 }, ap (λ x. codes "record" ∷ x) m.2);
  taken = λ t m. (braced_entries_texts spec m.0, m.2, (m.0, m.1.shape, refl));
}

-- the record that is due has no entry
pub word_way : (spec : SpecTree) (stopped : Stopped) (old new : Texts) → Stops stopped (Word (codes "record")) old new → Stops stopped (AreRecord spec) old new
word_way spec stopped old new s =
    let d = entries_due 1 (record_slots spec) in
    prefix_lacks (codes "record") (AreBraced spec) (AreRecord spec) (opening ∷ closing ∷ []) stopped old new (record_prefixed spec) (d.0, d.1, ap (λ x. opening ∷ x) d.2) s

pub after_way : (spec : SpecTree) (stopped : Stopped) (old mid new : Texts) → old ≡ (codes "record" ∷ []) ++ mid → Stops stopped (AreBraced spec) mid new → Stops stopped (AreRecord spec) old new
after_way spec stopped old mid new e s = lacks_there (AreRecord spec) (AreBraced spec) stopped old mid new (prefix_read (codes "record") (AreBraced spec) (AreRecord spec) old mid (record_prefixed spec) e) s

pub record_is_read : (spec : SpecTree) (es : EntriesTree) (old mid new : Texts) → old ≡ (codes "record" ∷ []) ++ mid → IsRead (EntriesShape 1 (record_slots spec)) (braced_entries_texts spec) es mid new → IsRead (RecordShape spec) (record_texts spec) es old new
record_is_read spec es old mid new e r =
    prefix_is_read (codes "record") (RecordShape spec) (record_texts spec) (EntriesShape 1 (record_slots spec)) (braced_entries_texts spec) es es old mid new (record_prefixed spec) (record { shape = r.shape }) refl e r

pub ruleset record_ways = (word_way, after_way, record_is_read)
