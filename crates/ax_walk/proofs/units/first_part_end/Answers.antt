use Rattle.ax_codec.specs.Meaning.{meanings, linked_part, linked_parts}
use Rattle.ax_walk.proofs.UnitSteps.{fx_is, parts_at_first, parts_first, parts_last}
use Rattle.ax_walk.proofs.units.first_part_end.Goals as goal

pub returns-then-is_last_part : goal.returns-then-is_last_part
returns-then-is_last_part c =
    let ms = meanings c.args.nodes.now in
    let e = c.in_ok-end.ensures.end in
    let fx = fx_is c.args.last ms c.in-Some.later.now c.fx_width-fx.result c.fx_width-fx.ensures in
    let first = parts_first c.args.last (linked_parts ms c.args.parts.now) c.args.start.body.now c.args.start.at c.requires.bounds c.args.start.within in
    let here = parts_at_first c.args.last ms c.args.parts.now c.args.parts.now c.in-Some.later.now c.in-Some.part.now c.args.start.body.now c.args.start.at c.args.start.at first c.in-Some.ensures.cases.0 in
    λ least. parts_last c.args.last (linked_parts ms c.args.parts.now) (linked_part ms c.in-Some.part.now) (linked_parts ms c.in-Some.later.now) c.args.start.body.now c.args.start.at c.args.start.at c.in_ok-end.end c.part_width.result c.fx_width-fx.result least
    here c.requires.bounds e.0 e.1 c.part_width.ensures fx e.2 (c.is_last_part.ensures.0 c.if-is_last_part.true)
