use Rattle.std.proofs.Common.{None, ◌∙◌, ap, sym}
use Rattle.std.specs.Option.{option_copied}
use Rattle.ax_filter.proofs.Marked.{all_slots, all_mark}
use Rattle.ax_expressions.proofs.PlanTrees.{always_says}
use Rattle.ax_expressions.proofs.PlannedTests.{said_of}
use Rattle.ax_expressions.specs.Plans.{finds, plan_tree, says}
use Rattle.ax_walk.specs.Shown.{record_entries}
use Rattle.ax_filter.proofs.filter.Filter.holds_by.Goals as goal

pub returns-in-Always-clause-holds : goal.returns-in-Always-clause-holds
returns-in-Always-clause-holds c same =
    let f = c.args.self.now in
    let r = record_entries c.args.record.one.now in
    always_says all_slots (finds f.questions r) c.in-Some.plan.now.plan c.in-Always.holds c.in-Always.is
    ∙ said_of f.questions f.plans f.test c.args.record.category c.in-Some.plan.now r all_slots f.planned (sym c.get.ensures.value ∙ ap option_copied c.in-Some.is) (all_mark c.args.record.one.now) ∙ f.same c.args.record.category r

pub returns-in_default-clause-holds : goal.returns-in_default-clause-holds
returns-in_default-clause-holds c same =
    let f = c.args.self.now in
    let r = record_entries c.args.record.one.now in
    let marks = c.marked_slots.result in
    c.says_of.ensures.said same ∙ ap (λ qs. says marks (finds qs r) (plan_tree c.in-Some.plan.now.plan)) c.as_slice.ensures.members
    ∙ said_of f.questions f.plans f.test c.args.record.category c.in-Some.plan.now r marks f.planned (sym c.get.ensures.value ∙ ap option_copied c.in-Some.is) (c.marked_slots.ensures same) ∙ f.same c.args.record.category r

pub returns-in-Always-clause-answers : goal.returns-in-Always-clause-answers
returns-in-Always-clause-answers c = (c.requires (λ question. None)).none_later

pub returns-in-None-clause-answers : goal.returns-in-None-clause-answers
returns-in-None-clause-answers c = (c.requires (λ question. None)).none_later
