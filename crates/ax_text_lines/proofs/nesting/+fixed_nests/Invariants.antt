use Rattle.ax_text_lines.proofs.Nested.{MembersNest}
use Rattle.ax_text_lines.proofs.nesting.+fixed_nests.Given as goal

abbrev pub invariant-members_nest-loop-member : goal.invariant-members_nest-loop-member
invariant-members_nest-loop-member l = MembersNest l.most l.members l.member-index
