use Rattle.std.proofs.Common.{arith}
use Rattle.ax_format.specs.Plain.{slots_tree, entries_tree}
use Rattle.ax_format.specs.Tree.{marked}
use Rattle.ax_expand.proofs.Decoded.{octets_trail, entries_spelled, fault_inside}
use Rattle.ax_expand.proofs.decode.decode_whole.Goals as goal

pub returns-then-end-content-clause-fault : goal.returns-then-end-content-clause-fault
returns-then-end-content-clause-fault c =
    octets_trail c.args.form (slots_tree c.args.slots.now) c.args.content.now c.in-Ok.end (marked (entries_tree c.in-Ok.entries)) c.requires.bounds c.in-Ok.ensures.ok (omega (arith, c.if-end-content.true))

pub returns-else-end-content-clause-value : goal.returns-else-end-content-clause-value
returns-else-end-content-clause-value c =
    entries_spelled c.args.form (slots_tree c.args.slots.now) c.args.content.now c.in-Ok.end c.in-Ok.entries c.requires.bounds c.in-Ok.ensures.ok (omega (arith, c.if-end-content.false))

pub returns-in-Err-Fault-clause-fault : goal.returns-in-Err-Fault-clause-fault
returns-in-Err-Fault-clause-fault c =
    fault_inside c.args.form (slots_tree c.args.slots.now) c.args.content.now c.in-Err-Fault.fault c.in-Err-Fault.field-0 c.cause_of.result c.requires.bounds c.in-Err-Fault.ensures.err c.in-Err-Fault.field-0-is c.cause_of.ensures
