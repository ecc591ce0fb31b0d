use Rattle.std.proofs.Common.{drop}
use Rattle.ax_format.specs.Plain.{members_tree}
use Rattle.ax_printed_lines.proofs.FixedBuilt.{MembersLeft}
use Rattle.ax_printed_lines.proofs.fixed.+fixed_built.Given as goal

abbrev pub invariant-members_built-loop-member : goal.invariant-members_built-loop-member
invariant-members_built-loop-member l = MembersLeft (members_tree (drop l.member-index l.members)) (members_tree l.members) l.fn.cursor l.cursor l.fn.out l.out
