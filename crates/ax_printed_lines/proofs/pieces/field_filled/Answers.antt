use Rattle.std.proofs.Common.{arith}
use Rattle.ax_fspec.proofs.FieldLaws.{least_field_fits}
use Rattle.ax_printed_lines.proofs.pieces.field_filled.Goals as goal

pub write_presence-requires : goal.write_presence-requires
write_presence-requires c = omega (arith, least_field_fits c.args.marks.now, c.over-field.ensures.room)
