use Rattle.std.proofs.Common.{not, ap, ◌∙◌}
use Rattle.ax_moves.proofs.BareItems.{has_none}
use Rattle.ax_moves.proofs.bare.is_bare.Goals as goal

pub returns-in-Some : goal.returns-in-Some
returns-in-Some c sure = has_none c.args.item.now c.in-Some.marked c.take_first.result c.in-Some.ensures c.take_first.ensures.none (c.is_none.ensures ∙ ap not sure)
