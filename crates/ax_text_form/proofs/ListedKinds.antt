-- The entries of compounds and records, as lines.
use Rattle.std.proofs.Common.{ℕ, zero, suc, List, refl}
use Rattle.ax_format.specs.Tree.{SlotsTree, no_slots, slot_and}
use Rattle.ax_text_form.specs.Listable.{SlotListable, SlotsListable}
use Rattle.ax_text_form.specs.ShowText.{entries_lines}
use Rattle.ax_text_form.specs.Slots.{slot_after, slot_numbered, slot_lines}
use Rattle.ax_text_form.proofs.EntryWays.{IsMadeOf}

pub lines_made : (path : List ℕ) → IsMadeOf (entries_lines path) (slot_lines path)
lines_made path = record { none = λ s rest. refl; skip = λ s ss es rest. refl; last = λ s name k ss rest. refl; take = λ s name k ss t v es rest. refl }

after_listable : (ss : SlotsTree) (i : ℕ) → SlotsListable ss → SlotListable (slot_after i ss)
after_listable no_slots i h = tt
after_listable (slot_and s ss) zero h = h.0
after_listable (slot_and s ss) (suc i) h = after_listable ss i h.1

pub slot_listable : (ss : SlotsTree) (n : ℕ) → SlotsListable ss → SlotListable (slot_numbered ss n)
slot_listable ss zero h = tt
slot_listable ss (suc i) h = after_listable ss i h
