use Rattle.std.proofs.Common.{subst}
use Rattle.ax_format.specs.Plain.{spec_tree}
use Rattle.ax_text_lines.proofs.TablesOf.{masked}
use Rattle.ax_text_lines.proofs.TextBlocks.{text_printed, text_fails, text_opaque}
use Rattle.ax_text_lines.proofs.work.TextViewsBlockWork.take.Goals as goal
use Rattle.ax_values.specs.Decoding.{IsBodyFault, IsFaultOf}

pub print_block-requires-clause-mask : goal.print_block-requires-clause-mask
print_block-requires-clause-mask g c = masked c.in-Some.table.now

pub returns-in-Ok-clause-takes : goal.returns-in-Ok-clause-takes
returns-in-Ok-clause-takes g c =
    text_printed _ _ _ _ _ _ c.requires.sound c.get.result c.get.ensures.spec c.in-Some.table _ c.print_block.new.line.octets _ _ c.in-Some.is c.args.raw.now.within_block c.in-Ok.ensures.printed c.octets.ensures c.write_piece.ensures

pub returns-in-Err-Fault-clause-takes : goal.returns-in-Err-Fault-clause-takes
returns-in-Err-Fault-clause-takes g c =
    text_fails _ _ _ _ _ _ c.requires.sound c.get.result c.get.ensures.spec c.in-Some.table c.in-Err-Fault.fault _ _ c.in-Some.is c.args.raw.now.within_block
    (subst (IsFaultOf (IsBodyFault (spec_tree c.in-Some.table.now.items) c.args.raw.now.body.now)) c.in-Err-Fault.field-0-is c.in-Err-Fault.ensures.fault)

pub returns-in-Ok-print_opaque-clause-takes : goal.returns-in-Ok-print_opaque-clause-takes
returns-in-Ok-print_opaque-clause-takes g c =
    text_opaque _ _ _ _ _ _ c.requires.sound c.get.result c.get.ensures.spec _ c.print_opaque.new.line.octets _ _ c.in-None.is c.args.raw.now.within_block c.args.raw.now.nonempty c.in-Ok-print_opaque.ensures c.octets-in-Ok-print_opaque.ensures c.write_piece-in-Ok-print_opaque.ensures
