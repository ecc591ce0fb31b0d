use Rattle.std.proofs.Common.{◌++◌, length, ap, arith, sym}
use Rattle.ax_rows.specs.Rows.{row_of}
use Rattle.ax_rows.proofs.SlotSteps.{seven_word, same_first, row_passes, row_takes, left_clear, left_set, extends_none, extends_far, links_later}
use Rattle.ax_rows.proofs.making.push_row.Goals as goal

pub loop-link-init : goal.loop-link-init
loop-link-init c = record {
  links = c.requires.links;
  has = (same_first c.args.octets.now c.args.slots.now c.args.marks).0 c.requires.has;
  few = omega arith;
  small = omega arith;
  row = ap (λ b. c.args.steps.now.items ++ row_of c.args.octets.now c.args.slots.now b 0) (sym (seven_word c.args.marks));
  kept = extends_none c.args.steps.now.items;
}

pub push_slot-requires-clause-link : goal.push_slot-requires-clause-link
push_slot-requires-clause-link c = (
  (left_set c.args.octets.now c.loop-link.left.now c.in-Some.link.now c.in-Some.later.now c.loop-link.count c.args.marks c.in-Some.ensures.cases.0 c.if-count-eq0.false c.if-marks-count-eq1.true c.loop-link.invariant.has).0.0,
  (links_later (length c.args.octets.now) c.loop-link.left.now c.in-Some.link.now c.in-Some.later.now c.in-Some.ensures.cases.0 c.loop-link.invariant.links).0,
)

pub push_slot-requires-clause-run : goal.push_slot-requires-clause-run
push_slot-requires-clause-run c =
    (left_set c.args.octets.now c.loop-link.left.now c.in-Some.link.now c.in-Some.later.now c.loop-link.count c.args.marks c.in-Some.ensures.cases.0 c.if-count-eq0.false c.if-marks-count-eq1.true c.loop-link.invariant.has).0.1

pub loop-link-preserved-then-marks-count-eq1 : goal.loop-link-preserved-then-marks-count-eq1
loop-link-preserved-then-marks-count-eq1 c = record {
  links = (links_later (length c.args.octets.now) c.loop-link.left.now c.in-Some.link.now c.in-Some.later.now c.in-Some.ensures.cases.0 c.loop-link.invariant.links).1;
  has = (left_set c.args.octets.now c.loop-link.left.now c.in-Some.link.now c.in-Some.later.now c.loop-link.count c.args.marks c.in-Some.ensures.cases.0 c.if-count-eq0.false c.if-marks-count-eq1.true c.loop-link.invariant.has).1;
  few = omega (arith, c.loop-link.invariant.few);
  small = omega (arith, c.loop-link.invariant.small, c.in_ok-skip.ensures.small, c.if-count-eq0.false);
  row = row_takes c.args.octets.now c.loop-link.left.now c.in-Some.link.now c.in-Some.later.now c.loop-link.count c.args.marks c.loop-link.skip c.in_ok-skip.skip c.loop-link.steps.items c.push_slot.new.steps.items _ c.in-Some.ensures.cases.0 c.if-count-eq0.false c.if-marks-count-eq1.true
      c.in_ok-skip.ensures.row c.loop-link.invariant.row;
  kept = extends_far c.args.steps.now.items c.loop-link.steps.items c.push_slot.new.steps.items c.loop-link.invariant.kept c.push_slot.ensures.kept;
}

pub loop-link-preserved : goal.loop-link-preserved
loop-link-preserved c = record {
  links = (links_later (length c.args.octets.now) c.loop-link.left.now c.in-Some.link.now c.in-Some.later.now c.in-Some.ensures.cases.0 c.loop-link.invariant.links).1;
  has = left_clear c.args.octets.now c.loop-link.left.now c.in-Some.link.now c.in-Some.later.now c.loop-link.count c.args.marks c.in-Some.ensures.cases.0 c.if-count-eq0.false c.if-marks-count-eq1.false c.loop-link.invariant.has;
  few = omega (arith, c.loop-link.invariant.few);
  small = omega (arith, c.loop-link.invariant.small);
  row = row_passes c.args.octets.now c.loop-link.left.now c.in-Some.link.now c.in-Some.later.now c.loop-link.count c.args.marks c.loop-link.skip c.loop-link.steps.items _ c.in-Some.ensures.cases.0 c.if-count-eq0.false c.if-marks-count-eq1.false c.loop-link.invariant.row;
  kept = c.loop-link.invariant.kept;
}
