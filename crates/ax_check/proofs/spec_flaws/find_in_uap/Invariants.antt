use Rattle.std.proofs.Common.{◌≡◌, ◌++◌, drop, map}
use Rattle.ax_format.specs.Flaws.{uap_flaws}
use Rattle.ax_format.specs.Plain.{item_tree}
use Rattle.ax_check.specs.Members.{uap_part_flaws}
use Rattle.ax_check.specs.Names.{listed}
use Rattle.ax_check.proofs.spec_flaws.find_in_uap.Given as goal

abbrev pub invariant-loop-slot : goal.invariant-loop-slot
invariant-loop-slot l =
    l.found ++ uap_flaws l.path (map item_tree l.spec.items) (listed l.names.set) (drop l.slot-index l.spec.uap) ≡ l.fn.found ++ uap_part_flaws l.path l.spec
