use Rattle.std.proofs.Common.{◌-◌, get_or, length}
use Rattle.ax_codec.specs.Meaning.{meanings, linked_slots}
use Rattle.ax_codec.specs.Table.{kind_at}
use Rattle.ax_walk.proofs.MarkedSteps.{next_marked, within_at}
use Rattle.ax_walk.proofs.Found.{next_failed, left_first, left_next, next_found, walked_one, left_none}
use Rattle.ax_walk.proofs.Placed.{passed_first, passed_next, follows}
use Rattle.ax_walk.proofs.finding.find_marked.Goals as goal

pub loop-next-init : goal.loop-next-init
loop-next-init c = record {
  within = c.args.start.within;
  clear = c.requires.clear;
  are_bits = c.requires.marks;
  left = λ got. left_first (linked_slots (meanings c.args.codec.now.nodes) c.args.slots.now) c.args.marked c.args.start.body.now c.args.start.at c.args.slot c.requires.clear c.requires.marks c.args.start.within got;
  passed = λ got. passed_first c.args.codec.now.nodes c.args.slots.now c.args.marked c.args.start.body.now c.args.start.at c.args.slot;
}

pub bounds-slots-next : goal.bounds-slots-next
bounds-slots-next c =
    (next_marked c.args.codec.now.nodes c.args.slots.now c.loop-next.left c.take_first.new.self _ c.in-Some.next c.requires.slots.bounds c.loop-next.invariant.clear c.loop-next.invariant.are_bits c.in-Some.ensures.some c.in-Some.ensures.marks).within

pub walk_of-requires-clause-link : goal.walk_of-requires-clause-link
walk_of-requires-clause-link c =
    let n = next_marked c.args.codec.now.nodes c.args.slots.now c.loop-next.left c.take_first.new.self _ c.in-Some.next c.requires.slots.bounds c.loop-next.invariant.clear c.loop-next.invariant.are_bits c.in-Some.ensures.some c.in-Some.ensures.marks in
    (n.some, within_at (length c.args.codec.now.nodes) c.args.slots.now (c.in-Some.next - 1) 0 c.requires.slots.within n.within)

pub walk_of-requires-clause-bounds : goal.walk_of-requires-clause-bounds
walk_of-requires-clause-bounds c =
    let n = next_marked c.args.codec.now.nodes c.args.slots.now c.loop-next.left c.take_first.new.self _ c.in-Some.next c.requires.slots.bounds c.loop-next.invariant.clear c.loop-next.invariant.are_bits c.in-Some.ensures.some c.in-Some.ensures.marks in n.bounds

pub returns-in_err-end-clause-value : goal.returns-in_err-end-clause-value
returns-in_err-end-clause-value c =
    let n = next_marked c.args.codec.now.nodes c.args.slots.now c.loop-next.left c.take_first.new.self _ c.in-Some.next c.requires.slots.bounds c.loop-next.invariant.clear c.loop-next.invariant.are_bits c.in-Some.ensures.some c.in-Some.ensures.marks in
    λ got. absurd (next_failed c.args.codec.now.nodes c.args.slots.now c.args.marked c.loop-next.left c.take_first.new.self c.args.start.body.now c.in-Some.next c.args.start.at c.loop-next.here c.args.slot (c.loop-next.invariant.left got) n c.walk_of.new.notes.fault c.in_err-end.ensures.fault)

pub invariant_of-result : goal.invariant_of-result
invariant_of-result c =
    let n = next_marked c.args.codec.now.nodes c.args.slots.now c.loop-next.left c.take_first.new.self _ c.in-Some.next c.requires.slots.bounds c.loop-next.invariant.clear c.loop-next.invariant.are_bits c.in-Some.ensures.some c.in-Some.ensures.marks in
    record {
      item = record {
        some = n.some;
        within = within_at (length c.args.codec.now.nodes) c.args.slots.now (c.in-Some.next - 1) 0 c.requires.slots.within n.within;
        bounds = n.bounds;
        one = walked_one (kind_at c.args.codec.now.nodes (get_or c.args.slots.now (c.in-Some.next - 1) 0)) c.args.start.body.now c.loop-next.here c.in_ok-end.end c.in_ok-end.ensures.end.value n.bounds c.in_ok-end.ensures.end.read c.args.start.few;
      };
    }

pub returns-then-next-slot-clause-value : goal.returns-then-next-slot-clause-value
returns-then-next-slot-clause-value c =
    let n = next_marked c.args.codec.now.nodes c.args.slots.now c.loop-next.left c.take_first.new.self _ c.in-Some.next c.requires.slots.bounds c.loop-next.invariant.clear c.loop-next.invariant.are_bits c.in-Some.ensures.some c.in-Some.ensures.marks in
    λ got. next_found c.args.codec.now.nodes c.args.slots.now c.args.marked c.loop-next.left c.take_first.new.self c.args.start.body.now c.in-Some.next c.args.start.at c.loop-next.here c.args.slot (c.loop-next.invariant.left got) n c.in_ok-end.end c.walk_of.new.notes.least c.in_ok-end.ensures.end c.if-next-slot.true

pub loop-next-preserved : goal.loop-next-preserved
loop-next-preserved c =
    let n = next_marked c.args.codec.now.nodes c.args.slots.now c.loop-next.left c.take_first.new.self _ c.in-Some.next c.requires.slots.bounds c.loop-next.invariant.clear c.loop-next.invariant.are_bits c.in-Some.ensures.some c.in-Some.ensures.marks in
    record {
      within = c.in_ok-end.ensures.end.read.within;
      clear = n.clear;
      are_bits = n.are_bits;
      left = λ got. left_next c.args.codec.now.nodes c.args.slots.now c.args.marked c.loop-next.left c.take_first.new.self c.args.start.body.now c.in-Some.next c.args.start.at c.loop-next.here c.args.slot (c.loop-next.invariant.left got) n c.in_ok-end.end c.walk_of.new.notes.least c.in_ok-end.ensures.end c.if-next-slot.false;
      passed = λ got. passed_next c.args.codec.now.nodes c.args.slots.now c.args.marked c.loop-next.left c.take_first.new.self c.args.start.body.now c.in-Some.next c.args.start.at c.loop-next.here c.args.slot (c.loop-next.invariant.left got) (c.loop-next.invariant.passed got) n c.in_ok-end.end c.walk_of.new.notes.least c.in_ok-end.ensures.end c.if-next-slot.false;
    }

pub returns-clause-value : goal.returns-clause-value
returns-clause-value c =
    λ got. left_none (linked_slots (meanings c.args.codec.now.nodes) c.args.slots.now) c.args.marked c.loop-next.left c.args.start.body.now c.args.start.at c.loop-next.here c.args.slot (c.loop-next.invariant.left got) c.in_default.ensures.none

pub returns-then-next-slot-clause-window : goal.returns-then-next-slot-clause-window
returns-then-next-slot-clause-window c =
    let n = next_marked c.args.codec.now.nodes c.args.slots.now c.loop-next.left c.take_first.new.self _ c.in-Some.next c.requires.slots.bounds c.loop-next.invariant.clear c.loop-next.invariant.are_bits c.in-Some.ensures.some c.in-Some.ensures.marks in
    λ got. follows c.args.codec.now.nodes c.args.slots.now c.args.marked c.loop-next.left c.take_first.new.self c.args.start.body.now c.in-Some.next c.args.start.at c.loop-next.here c.args.slot (c.loop-next.invariant.left got) (c.loop-next.invariant.passed got) n c.in_ok-end.end c.walk_of.new.notes.least c.in_ok-end.ensures.end c.if-next-slot.true
