use Rattle.std.proofs.Common.{◌-◌, length, arith}
use Rattle.ax_rows.specs.Rows.{CanBeMarked}
use Rattle.ax_rows.proofs.SlotSteps.{SameRow, same_first, same_set, same_clear, same_bad, links_after}
use Rattle.ax_rows.proofs.making.have_row.Goals.{then-marks-count-eq1+else-not-can_be_marked, else-marks-count-eq1}
use Rattle.ax_rows.proofs.making.have_row.Goals as goal

pub loop-count-init : goal.loop-count-init
loop-count-init c = record { links = c.requires; few = omega arith; same = same_first c.args.octets.now c.args.slots.now c.args.marks }

pub returns-then-not-can_be_marked : goal.returns-then-not-can_be_marked
returns-then-not-can_be_marked c =
    let bad : CanBeMarked c.args.octets.now c.loop-count.left.now → ⊥ = grind (arith, c.can_be_marked.ensures, c.if-not-can_be_marked.true) in
    (λ f. absurd (let z : ⊥ = cc in z), λ h. absurd (same_bad c.args.octets.now c.args.slots.now c.loop-count.left.now c.args.marks c.loop-count.count c.loop-count-test.true c.if-marks-count-eq1.true bad c.loop-count.invariant.same h))

pub loop-count-preserved : goal.loop-count-preserved
loop-count-preserved c = record {
  links = links_after (length c.args.octets.now) c.loop-count.left.now c.after_first-left.result.now c.after_first-left.ensures c.loop-count.invariant.links;
  few = omega (arith, c.loop-count.invariant.few);
  same = (let s : SameRow c.args.octets.now c.args.slots.now c.args.marks c.after_first-left.result.now (c.loop-count.count - 1) = elim c.if-marks-count-eq1.branch [
    | then-marks-count-eq1+else-not-can_be_marked w ↦
        (let can : CanBeMarked c.args.octets.now c.loop-count.left.now = grind (arith, w.can_be_marked.ensures, w.if-not-can_be_marked.false) in
        same_set c.args.octets.now c.args.slots.now c.loop-count.left.now c.after_first-left.result.now c.args.marks c.loop-count.count c.loop-count-test.true c.after_first-left.ensures w.if-marks-count-eq1.true can c.loop-count.invariant.same)
    | else-marks-count-eq1 w ↦ same_clear c.args.octets.now c.args.slots.now c.loop-count.left.now c.after_first-left.result.now c.args.marks c.loop-count.count c.loop-count-test.true c.after_first-left.ensures w.if-marks-count-eq1.false c.loop-count.invariant.same
  ] in s);
}
