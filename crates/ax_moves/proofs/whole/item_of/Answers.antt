use Rattle.ax_moves.proofs.Slots.{placed_slot}
use Rattle.ax_moves.proofs.whole.item_of.Goals as goal

pub returns-clause-place : goal.returns-clause-place
returns-clause-place c = placed_slot c.args.whole.now c.args.slot c.item.result c.item.ensures.place
