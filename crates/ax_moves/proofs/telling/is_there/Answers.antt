use Rattle.std.proofs.Common.{length, arith, sym, ◌∙◌}
use Rattle.ax_moves.proofs.TellingSteps.{leaf_none, own_part}
use Rattle.ax_walk.specs.Shown.{item_value}
use Rattle.ax_moves.proofs.telling.is_there.Goals as goal

pub returns-then-len-depth-clause-there : goal.returns-then-len-depth-clause-there
returns-then-len-depth-clause-there c = sym (leaf_none c.args.key.now.path.now c.args.depth (length c.args.key.now.runs.items) (item_value c.args.item.now) c.requires.leaf c.requires.size (omega (arith, c.if-len-depth.true)))

pub returns-clause-there : goal.returns-clause-there
returns-clause-there c = c.has_counted.ensures.has ∙ sym (own_part c.args.key.now.path.now c.args.depth (length c.args.key.now.runs.items) (item_value c.args.item.now) c.requires.size (omega (arith, c.if-len-depth.false)))
