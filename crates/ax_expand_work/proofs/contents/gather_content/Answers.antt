use Rattle.ax_bits.specs.Bits.{bits}
use Rattle.ax_format.specs.Plain.{slots_tree}
use Rattle.std.proofs.Common.{refl, subst}
use Rattle.ax_expand.specs.Answers.{IsContentFault}
use Rattle.ax_expand.specs.Expansion.{expansion_tree}
use Rattle.ax_expand_work.proofs.Appended.{on_ok}
use Rattle.ax_expand_work.proofs.Gathered.{line_spelled, line_faulty, fails_as}
use Rattle.ax_expand_work.proofs.contents.gather_content.Goals as goal

pub returns-in_ok-octets-in-Ok : goal.returns-in_ok-octets-in-Ok
returns-in_ok-octets-in-Ok c = on_ok c.push_re.result _ _ (λ e. line_spelled (expansion_tree c.args.expansion.now) c.args.name.block c.args.name.number c.args.content.now _ c.args.lines.now _ c.in-Ok.ensures.value e refl) c.push_re.ensures

pub returns-in-Err-Fault : goal.returns-in-Err-Fault
returns-in-Err-Fault c =
    let form = c.args.expansion.now.form in
    let ss = slots_tree c.args.expansion.now.slots in
    let b = bits c.args.content.now in
    let found = subst (IsContentFault form ss b) c.in-Err-Fault.field-0-is c.in-Err-Fault.ensures.fault in
    let fails = fails_as c.in-Err-Fault.bit-is c.in-Err-Fault.cause-is found in
    on_ok c.push_unread.result _ _ (λ e. line_faulty (expansion_tree c.args.expansion.now) c.args.name.block c.args.name.number c.args.content.now _ _ c.args.lines.now _ fails e refl) c.push_unread.ensures
