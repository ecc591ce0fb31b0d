use Rattle.std.proofs.Common.{◌≡◌, ◌<◌, ◌≤◌, ◌+◌, ◌*◌, ◌^◌, length, map}
use Rattle.ax_format.specs.Plain.{slot_tree}
use Rattle.ax_grammar.specs.Parsing.{list_at}
use Rattle.ax_grammar.specs.Rules.{slot_at}
use Rattle.ax_grammar.proofs.Lists.{with_front}
use Rattle.ax_grammar.proofs.reader.SpecReader.+read_kind.Given as goal

abbrev pub invariant-closed_slots-loop-slots : goal.invariant-closed_slots-loop-slots
invariant-closed_slots-loop-slots l = record {
  read : with_front (map slot_tree l.slots) (list_at slot_at l.self) ≡ list_at slot_at l.initial.self;
  less : length l.self ≤ length l.initial.self;
  few : 0 < length l.slots → length l.slots + length l.self < 2 ^ 32;
}

abbrev pub decreases-closed_slots-loop-slots : goal.decreases-closed_slots-loop-slots
decreases-closed_slots-loop-slots l = length l.self

-- a call at the same token goes from slots to one slot alone
abbrev pub decreases-kind : goal.decreases-kind
decreases-kind l = 2 * length l.self.now

abbrev pub decreases-slot : goal.decreases-slot
decreases-slot l = 2 * length l.self.now

abbrev pub decreases-closed_slots : goal.decreases-closed_slots
decreases-closed_slots l = 2 * length l.self.now + 1

abbrev pub decreases-slots : goal.decreases-slots
decreases-slots l = 2 * length l.self.now

abbrev pub decreases-counted : goal.decreases-counted
decreases-counted l = 2 * length l.self.now
