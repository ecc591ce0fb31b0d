use Rattle.std.proofs.Common.{arith}
use Rattle.ax_moves.proofs.LaidBits.{lays_at}
use Rattle.ax_format.specs.Canonical.{canon}
use Rattle.ax_walk.specs.Shown.{item_kind, item_value}
use Rattle.ax_moves.proofs.laying.lay_item.Goals as goal

pub returns-clause-laid : goal.returns-clause-laid
returns-clause-laid c =
    lays_at (canon (item_kind c.args.item.now) (item_value c.args.item.now)) c.args.at c.min.result c.spell_item-octets.result c.saturating_add.result c.args.output.now c.spell_item-octets.new.output _ c.min.ensures (omega (arith, c.requires.room)) c.spell_item-octets.ensures.begins c.saturating_add.ensures
