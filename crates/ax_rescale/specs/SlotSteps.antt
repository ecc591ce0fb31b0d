-- What one slot of two compounds does to entries that are converted.
use Rattle.std.specs.Prelude.{◌≡◌, ℕ, ◌+◌, ◌≤◌, ◌==◌, MatchBool, List, [], ◌∷◌, ◌++◌, length, Option, MatchOption}
use Rattle.std.specs.Borrow.{Bor}
use Rattle.ax_format.specs.Plain.{slot_tree, entry_tree, entries_tree}
use Rattle.ax_format.specs.Shape.{Shape, EntriesShape}
use Rattle.ax_format.specs.Tree.{SlotTree, subitem, SlotsTree, slot_and, EntriesTree, entry_and}
use Rattle.ax_format.specs.declared.kind.Slot.{Slot}
use Rattle.ax_format.specs.declared.value.Entry.{Entry}
use Rattle.ax_rescale.specs.Converted.{EntriesConverted}

-- the first entry has the shape of the slot with the number s, if it is that slot's
abbrev pub SlotShape : ℕ → SlotTree → EntriesTree → Type 0
SlotShape s (subitem name k) (entry_and t v es) = MatchBool (t == s) (Shape k v) (Unit {0})
SlotShape s _ _ = Unit {0}

-- entries in front of others
abbrev pub entries_before : List Entry → EntriesTree → EntriesTree
entries_before [] y = y
entries_before (e ∷ es) y = entry_and (entry_tree e).0 (entry_tree e).1 (entries_before es y)

-- the slot takes the first of the entries, or none, and leaves others; what is made of it stands after what was made
pub record SlotStep (s : ℕ) (old new : SlotTree) (es left : EntriesTree) (made now : List Entry) : Type 0 where
  pub more : List Entry
  pub appended : now ≡ made ++ more
  pub few : length more ≤ 1
  pub shape : (ss : SlotsTree) → EntriesShape s (slot_and old ss) es → EntriesShape (s + 1) ss left
  pub on : (ss ts : SlotsTree) (y : EntriesTree) → EntriesConverted (s + 1) ss ts left y → EntriesConverted s (slot_and old ss) (slot_and new ts) es (entries_before more y)
  pub back : (ss ts : SlotsTree) (x : EntriesTree) → EntriesConverted s (slot_and old ss) (slot_and new ts) es x → (y : EntriesTree) × EntriesConverted (s + 1) ss ts left y

-- no entries are made of these, whatever the later slots are
abbrev pub NoSlotStep : ℕ → SlotTree → SlotTree → EntriesTree → Type 0
NoSlotStep s old new es = (ss ts : SlotsTree) (x : EntriesTree) → EntriesConverted s (slot_and old ss) (slot_and new ts) es x → ⊥

-- the entries left where these slots of that number convert the first ones, or none where they make nothing of them
abbrev pub ConvertsSlot : ℕ → Slot → Slot → List Entry → Option (Bor (List Entry)) → List Entry → List Entry → Type 0
ConvertsSlot s old new es left made now =
    MatchOption left (NoSlotStep s (slot_tree old) (slot_tree new) (entries_tree es)) (λ rest. SlotStep s (slot_tree old) (slot_tree new) (entries_tree es) (entries_tree rest.now) made now)
