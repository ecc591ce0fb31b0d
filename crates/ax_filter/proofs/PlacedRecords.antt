-- The entries of a record, by its view and from the front of its octets.
use Rattle.std.proofs.Common.{◌≡◌, ℕ, List, refl, sym, ◌∙◌, ap}
use Rattle.ax_codec.specs.Table.{record_kind_at}
use Rattle.ax_codec.specs.declared.codec.Codec.{Codec}
use Rattle.ax_fspec.specs.Reading.{kind_read}
use Rattle.ax_expressions.proofs.SlotSets.{marked_slot}
use Rattle.ax_expressions.specs.Plans.{MarkEach}
use Rattle.ax_walk.specs.Placing.{IsPlaced, entries_there, placed_entries}
use Rattle.ax_walk.specs.Shown.{record_entries}
use Rattle.ax_walk.specs.Values.{value_in, entries_in}
use Rattle.ax_walk.specs.declared.places.PlacedSlots.{PlacedSlots}
use Rattle.ax_walk.specs.declared.record.RecordView.{RecordView}

from_front : (codec : Codec) (body : List ℕ) → entries_there codec.nodes codec.slots body 0 ≡ entries_in (value_in (record_kind_at codec.nodes codec.slots) body)
unfolding kind_read value_in
from_front codec body = refl

pub entries_same : (view : RecordView) (codec : Codec) (body : List ℕ) → body ≡ view.body.now → view.codec.now ≡ codec → entries_there codec.nodes codec.slots body 0 ≡ record_entries view
entries_same view codec body b c =
    from_front codec body ∙ ap (λ octets. entries_in (value_in (record_kind_at codec.nodes codec.slots) octets)) b ∙ ap (λ own. entries_in (value_in (record_kind_at own.nodes own.slots) view.body.now)) (sym c)

-- nothing stands in the slots that aren't marked
pub marks_each : (p : PlacedSlots) → IsPlaced p → MarkEach p.places.now.marked (placed_entries p)
marks_each p h s e = h.placed.others s (λ m. absurd (let f = marked_slot p.places.now.marked s (h.placed.there s m).small m in cc))
