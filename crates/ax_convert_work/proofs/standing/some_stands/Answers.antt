use Rattle.std.proofs.Common.{sym, ◌∙◌}
use Rattle.ax_convert_work.proofs.StandingValues.{records_begin, record_here, record_later, records_end}
use Rattle.ax_convert_work.proofs.standing.some_stands.Goals as goal
use Rattle.ax_walk.specs.Left.{record_shown}

pub loop-one-init : goal.loop-one-init
loop-one-init c = records_begin c.args.slots.now c.args.view.now.codec.now c.args.view.now.body.now _ c.records-later.ensures

pub returns-then-stands_in : goal.returns-then-stands_in
returns-then-stands_in c = record_here c.args.slots.now c.args.view.now.codec.now c.args.view.now.body.now (record_shown c.in-Some.one) _ _ c.in-Some.ensures.steps c.loop-one.invariant (sym c.stands_in.ensures ∙ c.if-stands_in.true)

pub loop-one-preserved : goal.loop-one-preserved
loop-one-preserved c = record_later c.args.slots.now c.args.view.now.codec.now c.args.view.now.body.now (record_shown c.in-Some.one) _ _ c.in-Some.ensures.steps c.loop-one.invariant (sym c.stands_in.ensures ∙ c.if-stands_in.false)

pub returns : goal.returns
returns c = records_end c.args.slots.now c.args.view.now.codec.now c.args.view.now.body.now _ c.in_default.ensures.steps.0 c.loop-one.invariant
