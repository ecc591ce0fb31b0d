use Rattle.std.proofs.Common.{◌≡◌, ◌==◌, true, false, ◌<◌, ◌∷◌, [], List, ℕ, length, ap, arith, refl, sym, subst, ◌∙◌}
use Rattle.std.proofs.lemmas.List.{length-map}
use Rattle.ax_codec.specs.Meaning.{meanings, linked_part, linked_parts}
use Rattle.ax_codec.specs.Table.{LinksWithin}
use Rattle.ax_walk.proofs.Leading.{if_none}
use Rattle.ax_walk.proofs.UnitSteps.{parts_first, parts_last, parts_failed, parts_at_first, part_wide, part_some, parts_on, parts_end_here, fx_is, goes_on}
use Rattle.ax_walk.proofs.units.walk_parts.Goals as goal

pub loop-part-init : goal.loop-part-init
loop-part-init c =
    let ms = meanings c.args.nodes.now in
    record {
      some = (let l : length (linked_parts ms c.args.parts.now) ≡ length c.args.parts.now = length-map c.args.parts.now (linked_part ms) in let some : 0 < length (linked_parts ms c.args.parts.now) = c.requires.bounds.0 in omega arith);
      links = c.requires.links;
      parts = parts_first c.args.last (linked_parts ms c.args.parts.now) c.args.start.body.now c.args.start.at c.requires.bounds c.args.start.within;
      least = refl;
    }

pub run-requires : goal.run-requires
run-requires c =
    let ms = meanings c.args.nodes.now in
    let fx = fx_is c.args.last ms c.in-Some.later.now c.fx_width-fx.result c.fx_width-fx.ensures in
    let here = parts_at_first c.args.last ms c.args.parts.now c.loop-part.left.now c.in-Some.later.now c.in-Some.part.now c.args.start.body.now c.args.start.at c.loop-part.here c.loop-part.invariant.parts c.in-Some.ensures.cases.0 in
    part_wide c.args.last (linked_part ms c.in-Some.part.now) (linked_parts ms c.in-Some.later.now) c.part_width.result c.fx_width-fx.result here.bounds.0 c.part_width.ensures fx

pub is_last_part-requires : goal.is_last_part-requires
is_last_part-requires c =
    let ms = meanings c.args.nodes.now in
    let e = c.in_ok-end.ensures.end in
    let fx = fx_is c.args.last ms c.in-Some.later.now c.fx_width-fx.result c.fx_width-fx.ensures in
    let here = parts_at_first c.args.last ms c.args.parts.now c.loop-part.left.now c.in-Some.later.now c.in-Some.part.now c.args.start.body.now c.args.start.at c.loop-part.here c.loop-part.invariant.parts c.in-Some.ensures.cases.0 in
    (part_some c.args.last (linked_part ms c.in-Some.part.now) (linked_parts ms c.in-Some.later.now) c.part_width.result c.fx_width-fx.result here.bounds.0 c.part_width.ensures fx c.loop-part.here c.in_ok-end.end e.2, e.1)

pub returns-in_err-end-clause-fault : goal.returns-in_err-end-clause-fault
returns-in_err-end-clause-fault c =
    let ms = meanings c.args.nodes.now in
    let fx = fx_is c.args.last ms c.in-Some.later.now c.fx_width-fx.result c.fx_width-fx.ensures in
    let here = parts_at_first c.args.last ms c.args.parts.now c.loop-part.left.now c.in-Some.later.now c.in-Some.part.now c.args.start.body.now c.args.start.at c.loop-part.here c.loop-part.invariant.parts c.in-Some.ensures.cases.0 in
    if_none c.from_residual.result (parts_failed c.args.last (linked_parts ms c.args.parts.now) (linked_part ms c.in-Some.part.now) (linked_parts ms c.in-Some.later.now) c.args.start.body.now c.args.start.at c.loop-part.here c.part_width.result c.fx_width-fx.result c.run.new.notes.fault
    here c.part_width.ensures fx c.in_err-end.ensures.short (ap (λ f. f.cause) c.in_err-end.ensures.fault) (ap (λ f. f.bit) c.in_err-end.ensures.fault))

pub returns-then-is_last_part-clause-end : goal.returns-then-is_last_part-clause-end
returns-then-is_last_part-clause-end c =
    let ms = meanings c.args.nodes.now in
    let e = c.in_ok-end.ensures.end in
    let fx = fx_is c.args.last ms c.in-Some.later.now c.fx_width-fx.result c.fx_width-fx.ensures in
    let here = parts_at_first c.args.last ms c.args.parts.now c.loop-part.left.now c.in-Some.later.now c.in-Some.part.now c.args.start.body.now c.args.start.at c.loop-part.here c.loop-part.invariant.parts c.in-Some.ensures.cases.0 in
    parts_last c.args.last (linked_parts ms c.args.parts.now) (linked_part ms c.in-Some.part.now) (linked_parts ms c.in-Some.later.now) c.args.start.body.now c.args.start.at c.loop-part.here c.in_ok-end.end c.part_width.result c.fx_width-fx.result c.run.new.notes.least
    here c.requires.bounds e.0 e.1 c.part_width.ensures fx e.2 (c.is_last_part.ensures.0 c.if-is_last_part.true)

pub returns-then-is_empty-clause-fault : goal.returns-then-is_empty-clause-fault
returns-then-is_empty-clause-fault c =
    let ms = meanings c.args.nodes.now in
    let e = c.in_ok-end.ensures.end in
    let fx = fx_is c.args.last ms c.in-Some.later.now c.fx_width-fx.result c.fx_width-fx.ensures in
    let here = parts_at_first c.args.last ms c.args.parts.now c.loop-part.left.now c.in-Some.later.now c.in-Some.part.now c.args.start.body.now c.args.start.at c.loop-part.here c.loop-part.invariant.parts c.in-Some.ensures.cases.0 in
    parts_end_here c.args.last ms c.args.parts.now c.in-Some.later.now c.in-Some.part.now c.args.start.body.now c.args.start.at c.loop-part.here c.in_ok-end.end c.part_width.result c.fx_width-fx.result
    here e.0 e.1 c.part_width.ensures fx e.2 (goes_on c.args.last (length (linked_parts ms c.in-Some.later.now)) c.args.start.body.now c.in_ok-end.end c.fx_width-fx.result c.is_last_part.result c.is_last_part.ensures c.if-is_last_part.false fx)
    c.fail.new.notes.fault (sym c.is_empty.ensures ∙ c.if-is_empty.true) (ap (λ f. f.cause) c.fail.ensures.fault) (let b = ap (λ f. f.bit) c.fail.ensures.fault in let some = e.0 in let wide = e.2 in omega arith)

pub returns-in_err-end-clause-least : goal.returns-in_err-end-clause-least
returns-in_err-end-clause-least c = c.run.ensures.least ∙ c.loop-part.invariant.least

pub returns-then-is_last_part-clause-least : goal.returns-then-is_last_part-clause-least
returns-then-is_last_part-clause-least c = c.run.ensures.least ∙ c.loop-part.invariant.least

pub returns-then-is_empty-clause-least : goal.returns-then-is_empty-clause-least
returns-then-is_empty-clause-least c = c.fail.ensures.least ∙ c.run.ensures.least ∙ c.loop-part.invariant.least

pub loop-part-preserved : goal.loop-part-preserved
loop-part-preserved c =
    let ms = meanings c.args.nodes.now in
    let e = c.in_ok-end.ensures.end in
    let split = c.in-Some.ensures.cases.0 in
    let fx = fx_is c.args.last ms c.in-Some.later.now c.fx_width-fx.result c.fx_width-fx.ensures in
    let here = parts_at_first c.args.last ms c.args.parts.now c.loop-part.left.now c.in-Some.later.now c.in-Some.part.now c.args.start.body.now c.args.start.at c.loop-part.here c.loop-part.invariant.parts split in
    record {
      some = later_some c.in-Some.later.now (sym c.is_empty.ensures ∙ c.if-is_empty.false);
      links = (subst (LinksWithin (length c.args.nodes.now)) split c.loop-part.invariant.links).1;
      parts = parts_on c.args.last ms c.args.parts.now c.in-Some.later.now c.in-Some.part.now c.args.start.body.now c.args.start.at c.loop-part.here c.in_ok-end.end c.part_width.result c.fx_width-fx.result
          here e.0 e.1 c.part_width.ensures fx e.2 (goes_on c.args.last (length (linked_parts ms c.in-Some.later.now)) c.args.start.body.now c.in_ok-end.end c.fx_width-fx.result c.is_last_part.result c.is_last_part.ensures c.if-is_last_part.false fx)
          (sym c.is_empty.ensures ∙ c.if-is_empty.false);
      least = c.run.ensures.least ∙ c.loop-part.invariant.least;
    }
  where
    later_some : (xs : List ℕ) → (length xs == 0) ≡ false → 0 < length xs
    later_some [] e = absurd (let no : true ≡ false = e in cc)
    later_some (x ∷ xs) e = omega arith
