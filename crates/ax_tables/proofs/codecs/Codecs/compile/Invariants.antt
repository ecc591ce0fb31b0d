use Rattle.std.proofs.Common.{◌≡◌, length, take}
use Rattle.ax_format.specs.Plain.{catalogue_tree}
use Rattle.ax_codec.specs.Standing.{StandForEach}
use Rattle.ax_tables.proofs.codecs.Codecs.compile.Given as goal

abbrev pub invariant-loop-index : goal.invariant-loop-index
invariant-loop-index l = record {
  stand : StandForEach l.codecs (catalogue_tree (take l.index l.catalogue));
  count : length l.codecs ≡ l.index;
}
