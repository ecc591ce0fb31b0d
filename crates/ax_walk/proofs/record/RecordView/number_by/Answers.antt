use Rattle.std.proofs.Common.{◌≡◌, List, ℕ, Some, None, option_map, subst}
use Rattle.ax_format.specs.At.{slot_value}
use Rattle.ax_codec.specs.Table.{record_kind_at}
use Rattle.ax_walk.proofs.FixedSpots.{number_bounds, number_missing, number_room, number_there}
use Rattle.ax_walk.specs.Shown.{IsOfSlot, item_value, record_entries}
use Rattle.ax_walk.specs.Values.{entries_in, value_in}
use Rattle.ax_walk.proofs.record.RecordView.number_by.Goals as goal

pub number_in-requires-clause-width : goal.number_in-requires-clause-width
number_in-requires-clause-width c = number_bounds c.args.self.now.codec.now c.args.place.now c.args.spot c.requires c.in-Some.item (subst (λ (ls : List ℕ). IsOfSlot c.args.self.now.codec.now ls c.args.place.now.frn c.in-Some.item) c.as_slice-slots.ensures.members c.in-Some.ensures.place)

pub number_in-requires-clause-within : goal.number_in-requires-clause-within
number_in-requires-clause-within c = number_room c.args.self.now.codec.now c.args.place.now c.args.spot c.requires c.in-Some.item (subst (λ (ls : List ℕ). IsOfSlot c.args.self.now.codec.now ls c.args.place.now.frn c.in-Some.item) c.as_slice-slots.ensures.members c.in-Some.ensures.place)

pub returns-in_default : goal.returns-in_default
returns-in_default c =
    number_missing c.args.place.now (record_entries c.args.self.now)
    (subst (λ (ls : List ℕ). option_map item_value None ≡ slot_value c.args.place.now.frn (entries_in (value_in (record_kind_at c.args.self.now.codec.now.nodes ls) c.args.self.now.body.now))) c.as_slice-slots.ensures.members c.in_default.ensures.value)

pub returns-then-self-gt0 : goal.returns-then-self-gt0
returns-then-self-gt0 c =
    number_there c.args.self.now.codec.now c.args.place.now c.args.spot c.requires c.in-Some.item (subst (λ (ls : List ℕ). IsOfSlot c.args.self.now.codec.now ls c.args.place.now.frn c.in-Some.item) c.as_slice-slots.ensures.members c.in-Some.ensures.place) (record_entries c.args.self.now) c.number_in.result
    (subst (λ (ls : List ℕ). option_map item_value (Some c.in-Some.item) ≡ slot_value c.args.place.now.frn (entries_in (value_in (record_kind_at c.args.self.now.codec.now.nodes ls) c.args.self.now.body.now))) c.as_slice-slots.ensures.members c.in-Some.ensures.value)
    c.number_in.ensures.below c.number_in.ensures.number
