use Rattle.std.proofs.Common.{◌≡◌, ◌∷◌, Some, rules}
use Rattle.ax_printed_lines.proofs.RunsRead.{later_few, whole_read}
use Rattle.ax_printed_lines.proofs.runs.after_template.Goals as goal

pub after_steps-requires-clause-few : goal.after_steps-requires-clause-few
after_steps-requires-clause-few c =
    let s = c.in_ok-step.step.now in
    let cons : c.as_slice.result.now ≡ s ∷ c.in_ok-step.later.now = search rules in
    let is : s.number ≡ Some c.in_ok-width.width = search rules in
    later_few c.args.steps.now c.as_slice.result.now c.in_ok-step.later.now s c.as_slice.ensures.members cons c.in_ok-width.width is c.requires

pub returns : goal.returns
returns c =
    let s = c.in_ok-step.step.now in
    let cons : c.as_slice.result.now ≡ s ∷ c.in_ok-step.later.now = search rules in
    let is : s.number ≡ Some c.in_ok-width.width = search rules in
    whole_read c.args.steps.now c.as_slice.result.now c.in_ok-step.later.now s c.as_slice.ensures.members cons c.in_ok-width.width is c.args.octets.now c.in_ok-first.following.now c.in_ok-bits.rest.now c.in_ok-after_tail.field-0.now c.in_ok-left.left.now c.in_ok-first.first c.in_ok-bits.bits
    c.in_ok-first.ensures.below c.in_ok-first.ensures.read c.in_ok-bits.ensures c.in_ok-after_tail.ensures c.in_ok-left.ensures
