use Rattle.std.proofs.Common.{None, ◌∙◌, ap, sym, rules}
use Rattle.ax_expressions.proofs.Levels.{quiet_says}
use Rattle.ax_expressions.specs.Plans.{finds, meets, plan_tree}
use Rattle.ax_walk.specs.Shown.{record_entries}
use Rattle.ax_filter.proofs.holding.says_of.Goals as goal

pub returns-then-not-meets-clause-said : goal.returns-then-not-meets-clause-said
returns-then-not-meets-clause-said c same =
    let one = c.args.one.now in
    c.said_of_none.ensures ∙ sym (quiet_says one.marked (finds one.questions.now (record_entries one.record.now)) (plan_tree c.args.plan.now.plan) (ap (λ x. meets x one.marked) (sym c.asked_by.ensures) ∙ (search rules)))

pub returns-then-not-meets-clause-answers : goal.returns-then-not-meets-clause-answers
returns-then-not-meets-clause-answers c = (c.requires (λ question. None)).none_later
