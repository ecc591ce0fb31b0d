use Rattle.ax_moves.proofs.BareItems.{has_only}
use Rattle.ax_moves.proofs.bare.subitem_slots.Goals as goal

pub returns-in-Ok : goal.returns-in-Ok
returns-in-Ok c = has_only c.args.item.now c.node.result.now c.node.ensures c.in-Compound.mask _ c.octets.result.now c.read_presence.new.into _ c.in-Compound.is c.octets.ensures.body c.in-Ok.ensures.ok
