use Rattle.std.proofs.Common.{arith}
use Rattle.ax_fspec.specs.Fields.{least_field}
use Rattle.ax_moves.proofs.LaidBits.{lays_at}
use Rattle.ax_moves.proofs.laying.lay_field.Goals as goal

pub returns-clause-laid : goal.returns-clause-laid
returns-clause-laid c =
    lays_at (least_field c.args.marked.now) c.args.at c.min.result c.spell_field-octets.result c.saturating_add.result c.args.output.now c.spell_field-octets.new.output _ c.min.ensures (omega (arith, c.requires.room)) c.spell_field-octets.ensures.begins c.saturating_add.ensures
