use Rattle.std.proofs.Common.{◌∙◌, ap}
use Rattle.ax_filter.proofs.PlacedRecords.{entries_same}
use Rattle.ax_expressions.specs.Plans.{finds, plan_tree, says}
use Rattle.ax_walk.specs.Placing.{entries_there}
use Rattle.ax_filter.proofs.holding.says_by_places.Goals as goal

pub returns-in-Some-clause-said : goal.returns-in-Some-clause-said
returns-in-Some-clause-said c same =
    c.says.ensures.said ∙ ap (λ entries. says c.args.one.now.marked (finds c.args.one.now.questions.now entries) (plan_tree c.args.plan.now.plan))
    (ap (λ links. entries_there c.args.codec.now.nodes links c.octets-body.result.now 0) c.as_slice.ensures.members ∙ entries_same c.args.one.now.record.now c.args.codec.now c.octets-body.result.now c.octets-body.ensures.body same)
