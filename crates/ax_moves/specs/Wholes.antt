-- A record or a compound, and what stands in its slots.
use Rattle.std.specs.Prelude.{◌≡◌, ℕ, ◌-◌, false, List, Some}
use Rattle.ax_format.specs.Lengths.{kind_after}
use Rattle.ax_format.specs.Tree.{KindTree, compound, SlotsTree, no_slots, EntriesTree}
use Rattle.ax_codec.specs.Table.{record_kind_at}
use Rattle.ax_codec.specs.declared.codec.Codec.{Codec}
use Rattle.ax_walk.specs.Placing.{placed_entries}
use Rattle.ax_walk.specs.Shown.{item_kind}
use Rattle.ax_walk.specs.declared.item.ItemView.{ItemView}
use Rattle.ax_walk.specs.declared.places.PlacedSlots.{PlacedSlots}

abbrev pub slots_in : KindTree → SlotsTree
slots_in (compound ss) = ss
slots_in _ = no_slots

abbrev pub whole_codec : PlacedSlots → Codec
whole_codec w = w.codec.now

abbrev pub whole_slots : PlacedSlots → SlotsTree
whole_slots w = slots_in (record_kind_at w.codec.now.nodes w.slots.now)

abbrev pub whole_entries : PlacedSlots → EntriesTree
whole_entries w = placed_entries w

-- octets that a rule makes of slots and entries, of those of the whole
abbrev pub of_whole : (SlotsTree → EntriesTree → List ℕ) → PlacedSlots → List ℕ
of_whole rule w = rule (whole_slots w) (whole_entries w)

-- the item is of that slot, under the same codec
pub record IsInSlot (w : PlacedSlots) (slot : ℕ) (item : ItemView) : Type 0 where
  pub codec_is : item.codec.now ≡ whole_codec w
  pub kind_is : kind_after (slot - 1) (whole_slots w) ≡ Some (item_kind item)
  pub one : item.by_fx ≡ false
