use Rattle.std.proofs.Common.{◌≡◌, ◌++◌, drop, map, length, ◌==◌, []}
use Rattle.ax_format.specs.Flaws.{flaw_where, parts_flaws}
use Rattle.ax_format.specs.Plain.{part_tree}
use Rattle.ax_format.specs.declared.flaw.FlawKind.TheVariants.{Empty}
use Rattle.ax_check.specs.Names.{listed}
use Rattle.ax_check.proofs.kind_flaws.find_in_parts.Given as goal

abbrev pub invariant-loop-part : goal.invariant-loop-part
invariant-loop-part l =
    (l.number ≡ l.part-index)
    × (l.found ++ parts_flaws l.fn.last l.path l.number (listed l.names.set) (map part_tree (drop l.part-index l.parts))
    ≡ l.fn.found ++ (flaw_where (length l.parts == 0) Empty l.path ++ parts_flaws l.fn.last l.path 0 [] (map part_tree l.parts)))
