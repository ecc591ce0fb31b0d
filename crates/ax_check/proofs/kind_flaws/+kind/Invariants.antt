use Rattle.std.proofs.Common.{◌≡◌, ◌++◌, drop, length, ◌==◌, nat_lt, []}
use Rattle.ax_format.specs.Flaws.{flaw_where, slots_flaws}
use Rattle.ax_format.specs.Plain.{slots_tree}
use Rattle.ax_format.specs.declared.flaw.FlawKind.TheVariants.{Empty, TooManySlots}
use Rattle.ax_check.specs.Names.{listed}
use Rattle.ax_check.proofs.kind_flaws.+kind.Given as goal

abbrev pub invariant-find_in_slots-loop-slot : goal.invariant-find_in_slots-loop-slot
invariant-find_in_slots-loop-slot l =
    l.found ++ slots_flaws l.path (listed l.names.set) (slots_tree (drop l.slot-index l.slots))
    ≡ l.fn.found ++ (flaw_where (length l.slots == 0) Empty l.path ++ flaw_where (nat_lt 126 (length l.slots)) TooManySlots l.path ++ slots_flaws l.path [] (slots_tree l.slots))
