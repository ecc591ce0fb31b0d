use Rattle.std.proofs.Common.{◌≡◌, length}
use Rattle.ax_codec.specs.Extents.{AreExtents}
use Rattle.ax_codec.proofs.extent.extents_of.Given as goal

abbrev pub invariant-loop-index : goal.invariant-loop-index
invariant-loop-index l = record {
  extents : AreExtents l.nodes l.made.items;
  count : length l.made.items ≡ l.index;
}
