use Rattle.std.proofs.Common.{◌≡◌, length, not, map, ap, sym, subst, ◌∙◌}
use Rattle.ax_format.specs.Canonical.{parts_canon}
use Rattle.ax_format.specs.Plain.{part_tree, lists_tree}
use Rattle.ax_values.proofs.WrittenRuns.{PartsLeft, parts_first, part_bounds, part_shape, part_room, part_fx_room, parts_next, parts_next_bare, lists_ended, parts_ended, none_left, no_fx, others, not_empty}
use Rattle.ax_values.proofs.write_units.write_parts.Goals as goal

pub loop-part-init : goal.loop-part-init
loop-part-init c =
    let last = c.args.last in
    let whole = parts_canon last (map part_tree c.args.parts.now) (lists_tree c.args.lists.now) in
    let at_rest = subst (λ ls. PartsLeft last c.args.out.now c.args.out.now whole c.args.parts.now ls) (sym c.as_slice-rest.ensures.members) (parts_first last c.args.out.now c.args.parts.now c.args.lists.now c.requires.bounds c.requires.shape) in
    subst (λ ps. PartsLeft last c.args.out.now c.args.out.now whole ps c.as_slice-rest.result.now) (sym c.as_slice-left.ensures.members) at_rest

pub returns-in_default-split_first : goal.returns-in_default-split_first
returns-in_default-split_first c =
    lists_ended c.args.last c.args.out.now c.loop-part.out (parts_canon c.args.last (map part_tree c.args.parts.now) (lists_tree c.args.lists.now)) c.loop-part.left.now c.loop-part.rest.now c.loop-part.invariant (none_left c.loop-part.rest.now c.in_default-split_first.ensures.cases)

pub write_members-requires : goal.write_members-requires
write_members-requires c =
    let last = c.args.last in
    let whole = parts_canon last (map part_tree c.args.parts.now) (lists_tree c.args.lists.now) in
    let left = c.loop-part.left.now in
    let lists = c.loop-part.rest.now in
    let p = c.in-Some.part.now in
    let ps = c.in-Some.others.now in
    let vs = c.in-Some-split_first.values.now in
    let ls = c.in-Some-split_first.later.now in
    record {
      bounds = part_bounds last c.args.out.now c.loop-part.out whole left ps p lists ls vs c.loop-part.invariant c.in-Some.ensures.cases.0 c.in-Some-split_first.ensures.cases.0;
      shape = part_shape last c.args.out.now c.loop-part.out whole left ps p lists ls vs c.loop-part.invariant c.in-Some.ensures.cases.0 c.in-Some-split_first.ensures.cases.0;
      room = part_room last c.args.out.now c.loop-part.out whole left ps p lists ls vs c.loop-part.invariant c.in-Some.ensures.cases.0 c.in-Some-split_first.ensures.cases.0 c.requires.room;
    }

pub write_fx-requires : goal.write_fx-requires
write_fx-requires c =
    let last = c.args.last in
    let whole = parts_canon last (map part_tree c.args.parts.now) (lists_tree c.args.lists.now) in
    let ps = c.in-Some.others.now in
    part_fx_room last c.args.out.now c.loop-part.out whole c.loop-part.left.now ps c.in-Some.part.now c.loop-part.rest.now c.in-Some-split_first.later.now c.in-Some-split_first.values.now c.loop-part.invariant c.in-Some.ensures.cases.0 c.in-Some-split_first.ensures.cases.0
    c.write_members.new.out c.requires.room (sym c.fx_width.ensures ∙ c.if-fx_width-eq1.true) c.write_members.ensures

pub loop-part-preserved-then-fx_width-eq1 : goal.loop-part-preserved-then-fx_width-eq1
loop-part-preserved-then-fx_width-eq1 c =
    let last = c.args.last in
    let whole = parts_canon last (map part_tree c.args.parts.now) (lists_tree c.args.lists.now) in
    let ls = c.in-Some-split_first.later.now in
    let more : not c.is_empty.result ≡ others ls = ap not c.is_empty.ensures ∙ not_empty ls in
    parts_next last c.args.out.now c.loop-part.out whole c.loop-part.left.now c.in-Some.others.now c.in-Some.part.now c.loop-part.rest.now ls c.in-Some-split_first.values.now c.loop-part.invariant c.in-Some.ensures.cases.0 c.in-Some-split_first.ensures.cases.0
    c.write_members.new.out c.write_fx.new.out (not c.is_empty.result) (sym c.fx_width.ensures ∙ c.if-fx_width-eq1.true) c.write_members.ensures more c.write_fx.ensures

pub loop-part-preserved : goal.loop-part-preserved
loop-part-preserved c =
    let last = c.args.last in
    let whole = parts_canon last (map part_tree c.args.parts.now) (lists_tree c.args.lists.now) in
    let ps = c.in-Some.others.now in
    parts_next_bare last c.args.out.now c.loop-part.out whole c.loop-part.left.now ps c.in-Some.part.now c.loop-part.rest.now c.in-Some-split_first.later.now c.in-Some-split_first.values.now c.loop-part.invariant c.in-Some.ensures.cases.0 c.in-Some-split_first.ensures.cases.0
    c.write_members.new.out (no_fx last (length ps) (λ e. c.if-fx_width-eq1.false (c.fx_width.ensures ∙ e))) c.write_members.ensures

pub returns : goal.returns
returns c =
    parts_ended c.args.last c.args.out.now c.loop-part.out (parts_canon c.args.last (map part_tree c.args.parts.now) (lists_tree c.args.lists.now)) c.loop-part.left.now c.loop-part.rest.now c.loop-part.invariant (none_left c.loop-part.left.now c.in_default.ensures.cases)
