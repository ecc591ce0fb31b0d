use Rattle.std.proofs.Common.{◌≡◌, length, map, take}
use Rattle.ax_format.specs.Plain.{spec_tree}
use Rattle.ax_codec.specs.Bare.{bare_slot}
use Rattle.ax_codec.specs.Making.{SlotsAreMade}
use Rattle.ax_fspec.specs.Reading.{record_slot_list}
use Rattle.ax_codec.proofs.build.add_items.Given as goal

abbrev pub invariant-loop-index : goal.invariant-loop-index
invariant-loop-index l = record {
  made : SlotsAreMade l.fn.nodes l.nodes l.links (map bare_slot (take l.index (record_slot_list (spec_tree l.spec))));
  count : length l.links ≡ l.index;
}
