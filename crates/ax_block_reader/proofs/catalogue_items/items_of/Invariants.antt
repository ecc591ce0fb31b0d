use Rattle.std.proofs.Common.{◌≡◌, take}
use Rattle.ax_block_reader.proofs.catalogue_items.items_of.Given as goal

abbrev pub invariant-loop-index : goal.invariant-loop-index
invariant-loop-index l = l.made ≡ take l.index l.catalogue
