-- What a call for one slot of a compound or a record gives.
use Rattle.std.specs.Prelude.{◌≡◌, [], ◌∷◌, ◌⊎◌, Option, Some, None, MatchOption, Result, Ok, Err}
use Rattle.std.specs.Borrow.{Bor}
use Rattle.ax_tokens.specs.Stopping.{Texts, Stops, IsNotFirst}
use Rattle.ax_tokens.specs.declared.stopped.Stopped.{Stopped}
use Rattle.ax_format.specs.Characters.{IsName}
use Rattle.ax_format.specs.Plain.{kind_tree, value_tree}
use Rattle.ax_format.specs.Tree.{SlotTree, spare_slot, subitem, ValueTree}
use Rattle.ax_format.specs.declared.spec.Item.{Item}
use Rattle.ax_format.specs.declared.value.Value.{Value}
use Rattle.ax_text_form.specs.Slots.{SlotShape, slot_onto}
use Rattle.ax_block_reader.specs.Continuing.{Spelled, IsRead}

-- the name of the slot and its value
abbrev pub slot_texts : SlotTree → ValueTree → Texts
slot_texts slot v = slot_onto slot v []

-- the slot is spare, or its name is a name
abbrev pub SlotNamed : SlotTree → Type 0
SlotNamed spare_slot = Unit {0}
SlotNamed (subitem name k) = IsName name

-- the first text isn't the slot's name
abbrev pub IsNotNamed : SlotTree → Texts → Type 0
IsNotNamed spare_slot texts = Unit {0}
IsNotNamed (subitem name k) texts = IsNotFirst (λ text. text ≡ name) texts

-- the first text is the slot's name
abbrev pub IsNamedAt : SlotTree → Texts → Type 0
IsNamedAt spare_slot texts = ⊥
IsNamedAt (subitem name k) texts = (rest : Texts) × (texts ≡ name ∷ rest)

-- the slot's item, whose name comes and is read, or none, where it doesn't come and nothing is read
abbrev pub ReadsName : SlotTree → Option (Bor Item) → Texts → Texts → Type 0
ReadsName slot found old new =
    MatchOption found ((new ≡ old) × IsNotNamed slot old) (λ item. (slot ≡ subitem item.now.name (kind_tree item.now.kind)) × (old ≡ item.now.name ∷ new))

-- the slot's value is read where its name comes, and nothing where it doesn't; a reader stops where the texts end, or in the
-- value after the name
abbrev pub GivesSlot : SlotTree → Result (Option Value) Stopped → Texts → Texts → Type 0
GivesSlot slot (Ok (Some v)) old new = IsRead (SlotShape slot) (slot_texts slot) (value_tree v) old new
GivesSlot slot (Ok None) old new = (new ≡ old) × IsNotNamed slot old
GivesSlot slot (Err stopped) old new = ((old ≡ []) × (new ≡ [])) ⊎ (Stops stopped (Spelled (SlotShape slot) (slot_texts slot)) old new × IsNamedAt slot old)
