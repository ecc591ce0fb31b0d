use Rattle.std.proofs.Common.{◌≡◌, ◌≤◌, ◌+◌, length, map}
use Rattle.ax_format.specs.Plain.{member_tree}
use Rattle.ax_grammar.specs.Parsing.{list_at}
use Rattle.ax_grammar.specs.Rules.{member_at}
use Rattle.ax_grammar.proofs.Lists.{with_front}
use Rattle.ax_grammar.proofs.reader.SpecReader.+read_fixed.Given as goal

abbrev pub invariant-members-loop-members : goal.invariant-members-loop-members
invariant-members-loop-members l = record {
  read : with_front (map member_tree l.members) (list_at member_at l.self) ≡ list_at member_at l.initial.self;
  few : length l.members + length l.self ≤ length l.initial.self;
}

abbrev pub decreases-members-loop-members : goal.decreases-members-loop-members
decreases-members-loop-members l = length l.self

abbrev pub decreases-fixed : goal.decreases-fixed
decreases-fixed l = length l.self.now

abbrev pub decreases-member : goal.decreases-member
decreases-member l = length l.self.now

abbrev pub decreases-members : goal.decreases-members
decreases-members l = length l.self.now
