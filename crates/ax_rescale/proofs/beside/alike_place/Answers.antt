use Rattle.std.proofs.Common.{length, arith, rules, sym, ◌∙◌, ap, ℕ, List}
use Rattle.ax_format.specs.Plain.{kind_tree}
use Rattle.ax_rescale.proofs.BesideSteps.{leads_start, leads_next, leads_none, leads_end, at_steps, no_place, no_alike_place, alike_place}
use Rattle.ax_rescale.proofs.beside.alike_place.Goals as goal

pub loop-number-init : goal.loop-number-init
loop-number-init c = leads_start (kind_tree c.in-Some.first.old.now) (kind_tree c.in-Some.first.new.now) c.as_slice-number-items.result.now c.new-steps.result c.new-steps.ensures

pub returns-in_default-step_beside : goal.returns-in_default-step_beside
returns-in_default-step_beside c = λ ns finds.
    no_place c.in-Some.first _ (c.in-Some.ensures ns finds) c.args.place.now.steps
    (at_steps c.as_slice-number-items.result.now c.args.place.now.steps _ _ _ c.as_slice-number-items.ensures.members
    (leads_none _ _ c.as_slice-number-items.result.now c.loop-number.number-index c.loop-number.steps _ _ _ c.loop-number.invariant (search rules) (search rules) (sym c.in_default-step_beside.ensures)))

pub push-requires : goal.push-requires
push-requires c = record { room = let counted = c.loop-number.invariant.counted in let bound = c.as_slice-number-items.ensures.bound in omega (arith, counted, bound, ap (λ (l : List ℕ). length l) c.as_slice-number-items.ensures.members) }

pub loop-number-preserved : goal.loop-number-preserved
loop-number-preserved c =
    leads_next _ _ c.as_slice-number-items.result.now c.loop-number.number-index c.loop-number.steps _ _ _ c.in-Some-step_beside.next c.push.new.self c.loop-number.invariant (search rules) (search rules) (sym c.in-Some-step_beside.ensures) (search rules)

pub returns-then-not-is_alike : goal.returns-then-not-is_alike
returns-then-not-is_alike c = λ ns finds.
    no_alike_place c.in-Some.first _ (c.in-Some.ensures ns finds) c.args.place.now.steps c.loop-number.steps (kind_tree c.loop-number.last.old.now) (kind_tree c.loop-number.last.new.now)
    (at_steps c.as_slice-number-items.result.now c.args.place.now.steps _ _ _ c.as_slice-number-items.ensures.members
    (leads_end _ _ c.as_slice-number-items.result.now c.loop-number.number-index c.loop-number.steps _ _ c.loop-number.invariant (search rules)))
    (sym c.is_alike.ensures.test ∙ c.if-not-is_alike.true)

pub returns : goal.returns
returns c = λ ns finds.
    alike_place c.in-Some.first _ (c.in-Some.ensures ns finds) c.args.place.now.steps c.loop-number.steps (kind_tree c.loop-number.last.old.now) (kind_tree c.loop-number.last.new.now)
    (at_steps c.as_slice-number-items.result.now c.args.place.now.steps _ _ _ c.as_slice-number-items.ensures.members
    (leads_end _ _ c.as_slice-number-items.result.now c.loop-number.number-index c.loop-number.steps _ _ c.loop-number.invariant (search rules)))
    (sym c.is_alike.ensures.test ∙ c.if-not-is_alike.false)
