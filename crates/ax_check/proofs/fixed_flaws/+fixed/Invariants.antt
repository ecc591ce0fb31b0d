use Rattle.std.proofs.Common.{◌≡◌, ◌++◌, drop}
use Rattle.ax_format.specs.Flaws.{members_flaws, names_with}
use Rattle.ax_format.specs.Plain.{members_tree}
use Rattle.ax_check.specs.Names.{listed, AreSame}
use Rattle.ax_check.proofs.fixed_flaws.+fixed.Given as goal

abbrev pub invariant-find_in_members-loop-member : goal.invariant-find_in_members-loop-member
invariant-find_in_members-loop-member l =
    (l.found ++ members_flaws l.path (listed l.names.set) (members_tree (drop l.member-index l.members)) ≡ l.fn.found ++ members_flaws l.path (listed l.fn.names.set) (members_tree l.members))
    × AreSame (names_with (listed l.names.set) (members_tree (drop l.member-index l.members))) (names_with (listed l.fn.names.set) (members_tree l.members))
