use Rattle.std.proofs.Common.{◌≡◌, ◌-◌, ◌++◌, take, decimal, ◌∙◌, ap, Some, rules, arith}
use Rattle.ax_printed_lines.proofs.RunsRead.{step_narrow, step_fits, steps_go_on, steps_over}
use Rattle.ax_printed_lines.proofs.runs.after_steps.Goals as goal

pub with_bits-bits-requires : goal.with_bits-bits-requires
with_bits-bits-requires c =
    let all = c.args.steps.now in
    let l = c.loop-step in
    let s = c.step-item.result in
    let w = c.in_ok-width.width in
    let is : s.number ≡ Some w = search rules in
    let narrow = step_narrow all l.step-index s c.args.used c.args.first l.bits c.args.octets.now l.left.now l.invariant c.loop-step-test.true c.step-item.is w is c.requires.few in
    (omega (arith, narrow), step_fits all l.step-index s c.args.used c.args.first l.bits c.args.octets.now l.left.now l.invariant c.loop-step-test.true c.step-item.is w is c.in_ok-number.number c.requires.few c.in_ok-number.ensures.below)

pub loop-step-preserved : goal.loop-step-preserved
loop-step-preserved c =
    let all = c.args.steps.now in
    let l = c.loop-step in
    let s = c.step-item.result in
    let w = c.in_ok-width.width in
    let is : s.number ≡ Some w = search rules in
    let count = s.literal.count in
    let all_of : count - 0 ≡ count = omega arith in
    let read = c.in_ok-number.ensures.read ∙ ap (λ k. take k s.literal.octets ++ (decimal c.in_ok-number.number ++ c.in_ok-number.later.now)) all_of in
    steps_go_on all l.step-index s c.args.used c.args.first l.bits c.args.octets.now l.left.now l.invariant c.loop-step-test.true c.step-item.is w is c.in_ok-number.number c.with_bits-bits.result c.in_ok-number.later.now read c.in_ok-number.ensures.below c.with_bits-bits.ensures

pub returns : goal.returns
returns c = steps_over c.args.steps.now c.loop-step.step-index c.args.used c.args.first c.loop-step.bits c.args.octets.now c.loop-step.left.now c.loop-step.invariant c.loop-step-test.false
