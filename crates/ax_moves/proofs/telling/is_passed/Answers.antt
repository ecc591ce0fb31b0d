use Rattle.std.proofs.Common.{not, ap, ◌∙◌}
use Rattle.ax_moves.proofs.TellingSteps.{passed}
use Rattle.ax_moves.proofs.telling.is_passed.Goals as goal

pub returns-then-behind-run : goal.returns-then-behind-run
returns-then-behind-run c =
    λ said. passed c.args.run.now c.args.behind c.args.marked.now c.common.result c.take_first.result c.if-behind-run.true c.common.ensures.sets.0.size c.common.ensures.common c.take_first.ensures.none (c.is_none.ensures ∙ ap not said)
