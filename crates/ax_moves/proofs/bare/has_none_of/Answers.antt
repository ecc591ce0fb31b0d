use Rattle.std.proofs.Common.{not, ap, ◌∙◌}
use Rattle.ax_moves.proofs.BareItems.{none_of}
use Rattle.ax_moves.proofs.bare.has_none_of.Goals as goal

pub returns-in-Some : goal.returns-in-Some
returns-in-Some c sure = none_of c.args.item.now c.in-Some.marked c.args.slots.now c.common.result c.take_first.result c.in-Some.ensures c.common.ensures.common c.take_first.ensures.none (c.is_none.ensures ∙ ap not sure)
