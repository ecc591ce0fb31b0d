use Rattle.ax_text_lines.proofs.DraftPieces.{MembersDrafted}
use Rattle.ax_text_lines.proofs.drafting.+add_fixed.Given as goal

abbrev pub invariant-add_members-loop-member : goal.invariant-add_members-loop-member
invariant-add_members-loop-member l = MembersDrafted l.members l.member-index l.fn.draft l.draft
