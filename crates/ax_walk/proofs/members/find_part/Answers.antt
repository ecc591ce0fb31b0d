use Rattle.std.proofs.Common.{length}
use Rattle.ax_codec.specs.Meaning.{meanings, linked_parts}
use Rattle.ax_walk.proofs.MemberSteps.{none_left}
use Rattle.ax_walk.proofs.PartSteps.{parts_looked, part_wide, part_failed, part_some, part_found_here, part_ends, part_next, parts_past_all}
use Rattle.ax_walk.proofs.UnitSteps.{fx_is, goes_on}
use Rattle.ax_walk.proofs.members.find_part.Goals as goal

pub loop-part-init : goal.loop-part-init
loop-part-init c = record { parts = parts_looked c.args.nodes.now c.args.last c.args.parts.now c.args.body.now c.args.index c.requires.links c.requires.bounds c.requires.one }

pub run-requires : goal.run-requires
run-requires c = part_wide c.args.nodes.now c.args.last c.args.parts.now c.loop-part.left.now c.in-Some.later.now c.args.body.now c.in-Some.part.now c.loop-part.here c.args.index c.loop-part.number c.loop-part.invariant.parts c.in-Some.ensures.cases.0 c.part_width.result c.fx_width-fx.result c.part_width.ensures (fx_is c.args.last (meanings c.args.nodes.now) c.in-Some.later.now c.fx_width-fx.result c.fx_width-fx.ensures)

pub is_last_part-requires : goal.is_last_part-requires
is_last_part-requires c = (part_some c.args.nodes.now c.args.last c.args.parts.now c.loop-part.left.now c.in-Some.later.now c.args.body.now c.in-Some.part.now c.loop-part.here c.args.index c.loop-part.number c.loop-part.invariant.parts c.in-Some.ensures.cases.0 c.part_width.result c.fx_width-fx.result c.part_width.ensures (fx_is c.args.last (meanings c.args.nodes.now) c.in-Some.later.now c.fx_width-fx.result c.fx_width-fx.ensures) c.in-Some-run.end c.in-Some-run.ensures.end.0 c.in-Some-run.ensures.end.1 c.in-Some-run.ensures.end.2, c.in-Some-run.ensures.end.1)

pub returns-in_default-run-clause-none : goal.returns-in_default-run-clause-none
returns-in_default-run-clause-none c = absurd (part_failed c.args.nodes.now c.args.last c.args.parts.now c.loop-part.left.now c.in-Some.later.now c.args.body.now c.in-Some.part.now c.loop-part.here c.args.index c.loop-part.number c.loop-part.invariant.parts c.in-Some.ensures.cases.0 c.part_width.result c.fx_width-fx.result c.part_width.ensures (fx_is c.args.last (meanings c.args.nodes.now) c.in-Some.later.now c.fx_width-fx.result c.fx_width-fx.ensures) c.in_default-run.ensures.short)

pub returns-then-number-eq0-clause-found : goal.returns-then-number-eq0-clause-found
returns-then-number-eq0-clause-found c = part_found_here c.args.nodes.now c.args.last c.args.parts.now c.loop-part.left.now c.in-Some.later.now c.args.body.now c.in-Some.part.now c.loop-part.here c.args.index c.loop-part.number c.loop-part.invariant.parts c.in-Some.ensures.cases.0 c.part_width.result c.fx_width-fx.result c.part_width.ensures (fx_is c.args.last (meanings c.args.nodes.now) c.in-Some.later.now c.fx_width-fx.result c.fx_width-fx.ensures) c.in-Some-run.end c.in-Some-run.ensures.end.0 c.in-Some-run.ensures.end.1 c.in-Some-run.ensures.end.2 c.if-number-eq0.true

pub returns-then-is_last_part-clause-none : goal.returns-then-is_last_part-clause-none
returns-then-is_last_part-clause-none c = part_ends c.args.nodes.now c.args.last c.args.parts.now c.loop-part.left.now c.in-Some.later.now c.args.body.now c.in-Some.part.now c.loop-part.here c.args.index c.loop-part.number c.loop-part.invariant.parts c.in-Some.ensures.cases.0 c.part_width.result c.fx_width-fx.result c.part_width.ensures (fx_is c.args.last (meanings c.args.nodes.now) c.in-Some.later.now c.fx_width-fx.result c.fx_width-fx.ensures) c.in-Some-run.end c.in-Some-run.ensures.end.0 c.in-Some-run.ensures.end.1 c.in-Some-run.ensures.end.2 c.if-number-eq0.false (c.is_last_part.ensures.0 c.if-is_last_part.true)

pub loop-part-preserved : goal.loop-part-preserved
loop-part-preserved c = record { parts = part_next c.args.nodes.now c.args.last c.args.parts.now c.loop-part.left.now c.in-Some.later.now c.args.body.now c.in-Some.part.now c.loop-part.here c.args.index c.loop-part.number c.loop-part.invariant.parts c.in-Some.ensures.cases.0 c.part_width.result c.fx_width-fx.result c.part_width.ensures (fx_is c.args.last (meanings c.args.nodes.now) c.in-Some.later.now c.fx_width-fx.result c.fx_width-fx.ensures) c.in-Some-run.end c.in-Some-run.ensures.end.0 c.in-Some-run.ensures.end.1 c.in-Some-run.ensures.end.2 c.if-number-eq0.false (goes_on c.args.last (length (linked_parts (meanings c.args.nodes.now) c.in-Some.later.now)) c.args.body.now c.in-Some-run.end c.fx_width-fx.result c.is_last_part.result c.is_last_part.ensures c.if-is_last_part.false (fx_is c.args.last (meanings c.args.nodes.now) c.in-Some.later.now c.fx_width-fx.result c.fx_width-fx.ensures)) }

pub returns-clause-none : goal.returns-clause-none
returns-clause-none c = absurd (parts_past_all c.args.nodes.now c.args.last c.args.parts.now c.loop-part.left.now c.args.body.now c.loop-part.here c.args.index c.loop-part.number c.loop-part.invariant.parts (none_left c.loop-part.left.now c.in_default.ensures.cases))
