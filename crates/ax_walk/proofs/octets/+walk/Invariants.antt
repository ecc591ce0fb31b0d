use Rattle.std.proofs.Common.{◌+◌, ◌*◌, length, IsTrue}
use Rattle.ax_fspec.specs.Marks.{slots_of}
use Rattle.ax_codec.specs.Meaning.{meanings, linked_slots}
use Rattle.ax_codec.specs.Table.{kind_at}
use Rattle.ax_walk.proofs.CountedSteps.{CountLeads}
use Rattle.ax_walk.proofs.MarkedSteps.{MarksLead, greatest}
use Rattle.ax_walk.proofs.octets.+walk.Given as goal

abbrev pub decreases-walk : goal.decreases-walk
decreases-walk l = 3 * l.link

abbrev pub decreases-walk_counted : goal.decreases-walk_counted
decreases-walk_counted l = 3 * l.inner + 1

abbrev pub decreases-walk_compound : goal.decreases-walk_compound
decreases-walk_compound l = 3 * greatest l.slots.now + 2

abbrev pub decreases-walk_marked : goal.decreases-walk_marked
decreases-walk_marked l = 3 * greatest l.slots.now + 1

abbrev pub invariant-walk_counted-loop : goal.invariant-walk_counted-loop
invariant-walk_counted-loop l = record {
  counted : CountLeads l.fn.size (kind_at l.nodes l.inner) l.start.body.now l.count l.counter l.start.at l.here l.notes.least;
  falls : IsTrue l.notes.least → IsTrue l.fn.notes.least;
}

abbrev pub invariant-walk_marked-loop-slot : goal.invariant-walk_marked-loop-slot
invariant-walk_marked-loop-slot l = record {
  marked : MarksLead (linked_slots (meanings l.nodes) l.slots) l.fn.marked l.left l.start.body.now l.start.at l.here l.notes.least;
  falls : IsTrue l.notes.least → IsTrue l.fn.notes.least;
}

abbrev pub decreases-walk_marked-loop-slot : goal.decreases-walk_marked-loop-slot
decreases-walk_marked-loop-slot l = length (slots_of l.left)
