use Rattle.std.proofs.Common.{◌≡◌, ◌≤◌, ◌+◌, ◌*◌, length}
use Rattle.ax_block_reader.proofs.MemberWays.{MembersRead}
use Rattle.ax_block_reader.proofs.fixed.+fixed_value.Given as goal

abbrev pub decreases-fixed_value : goal.decreases-fixed_value
decreases-fixed_value l = 3 * length l.reader.now

abbrev pub decreases-member_value : goal.decreases-member_value
decreases-member_value l = 3 * length l.reader.now

abbrev pub decreases-member_values : goal.decreases-member_values
decreases-member_values l = 3 * length l.reader.now + 1

abbrev pub invariant-member_values-loop-member : goal.invariant-member_values-loop-member
invariant-member_values-loop-member l = record {
  read : MembersRead l.fn.members l.values l.member-index l.initial.reader l.reader;
  count : length l.values ≡ l.member-index;
  less : length l.reader ≤ length l.initial.reader;
}
