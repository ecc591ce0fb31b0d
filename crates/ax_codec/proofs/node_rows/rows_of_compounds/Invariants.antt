use Rattle.std.proofs.Common.{◌≡◌, length}
use Rattle.ax_codec.specs.NodeRows.{EachRows}
use Rattle.ax_codec.proofs.node_rows.rows_of_compounds.Given as goal

abbrev pub invariant-loop-index : goal.invariant-loop-index
invariant-loop-index l = record {
  rows : EachRows l.octets l.nodes l.made.items;
  count : length l.made.items ≡ l.index;
}
