use Rattle.ax_expressions.proofs.PlannedTests.{place_says}
use Rattle.ax_expressions.proofs.planning.plan_place.Goals as goal

pub returns-clause-plan : goal.returns-clause-plan
returns-clause-plan c = place_says _ _ _ _ _ c.in_ok-question.ensures.number
