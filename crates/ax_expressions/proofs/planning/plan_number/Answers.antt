use Rattle.std.proofs.Common.{rules}
use Rattle.ax_expressions.proofs.PlannedTests.{number_made}
use Rattle.ax_expressions.proofs.planning.plan_number.Goals as goal

pub returns-in-Some-clause-plan : goal.returns-in-Some-clause-plan
returns-in-Some-clause-plan c =
    number_made c.plan_place.new.numbering.questions c.plan_place.result c.in-Some.element c.args.element.now c.args.comparison.op c.args.comparison.number c.args.own c.want_of-want.result c.in-Some.is c.if-own.true (search rules) c.plan_place.ensures.plan
