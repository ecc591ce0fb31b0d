use Rattle.std.proofs.Common.{◌≡◌, length, map, take}
use Rattle.ax_format.specs.Plain.{slot_tree}
use Rattle.ax_codec.specs.Bare.{bare_slot}
use Rattle.ax_codec.specs.Making.{SlotsAreMade}
use Rattle.ax_codec.proofs.build.+add_kind.Given as goal

abbrev pub invariant-add_slots-loop-slot : goal.invariant-add_slots-loop-slot
invariant-add_slots-loop-slot l = record {
  made : SlotsAreMade l.fn.nodes l.nodes l.links (map bare_slot (take l.slot-index (map slot_tree l.slots)));
  count : length l.links ≡ l.slot-index;
}
