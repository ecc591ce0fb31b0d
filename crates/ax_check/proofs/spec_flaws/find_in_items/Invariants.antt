use Rattle.std.proofs.Common.{◌≡◌, ◌++◌, drop, map, []}
use Rattle.ax_format.specs.Flaws.{items_flaws}
use Rattle.ax_format.specs.Plain.{item_tree}
use Rattle.ax_check.proofs.ItemLists.{names_after}
use Rattle.ax_check.specs.Members.{item_names}
use Rattle.ax_check.specs.Names.{listed, AreSame}
use Rattle.ax_check.proofs.spec_flaws.find_in_items.Given as goal

abbrev pub invariant-loop-item : goal.invariant-loop-item
invariant-loop-item l =
    (l.found ++ items_flaws l.path (listed l.names.set) (map item_tree (drop l.item-index l.items)) ≡ l.fn.found ++ items_flaws l.path [] (map item_tree l.items))
    × AreSame (names_after (listed l.names.set) (drop l.item-index l.items)) (item_names l.items)
