use Rattle.std.proofs.Common.{◌/◌, drop, map, ap, arith, refl, length, ◌∙◌}
use Rattle.ax_held_kinds.specs.Held.{held_part}
use Rattle.ax_format.specs.Tree.{extended}
use Rattle.ax_format.specs.Widths.{members_width}
use Rattle.ax_fspec.specs.Reading.{kind_read}
use Rattle.ax_listing.proofs.Stops.{stopped_within}
use Rattle.ax_listing.proofs.UnitLines.{parts_start, parts_next, parts_over, parts_fault, part_listable}
use Rattle.ax_values.proofs.Continuing.{err_by_fault}
use Rattle.ax_listing.proofs.units.show_parts.Goals as goal

pub loop-part-init : goal.loop-part-init
loop-part-init c = record {
  body = c.of-left.ensures.body;
  parts = parts_start c.args.last c.of-left.result.last c.args.parts.now (drop c.of-left.result.index c.of-left.result.parts.now) c.args.path.now c.args.from.body.now c.of-left.result.body.now c.args.from.at c.of-left.result.at c.of-left.result.more c.args.lister.now.out.octets
      c.of-left.ensures.last (c.of-left.ensures.parts ∙ c.as_slice.ensures.members) c.of-left.ensures.body c.of-left.ensures.at c.of-left.ensures.more c.of-left.ensures.ready c.requires.listable;
}

pub returns-in_err-part-clause-err : goal.returns-in_err-part-clause-err
returns-in_err-part-clause-err c =
    let left = c.loop-part.left in
    let fault = c.in_err-part.field-0.0 in
    err_by_fault (kind_read (extended c.args.last (map held_part c.args.parts.now)) c.args.from.body.now c.args.from.at) c.args.from.at c.from_residual.result fault c.from_residual.ensures.1
    (parts_fault c.args.last (map held_part c.args.parts.now) left.last left.more (map held_part (drop left.index left.parts.now)) c.args.path.now c.args.from.body.now left.body.now c.args.from.at left.at c.args.lister.now.out.octets c.loop-part.lister.out.octets c.loop-part.count c.loop-part.invariant.parts c.loop-part.invariant.body fault c.in_err-part.ensures.fault)

pub show_members-requires-clause-listable : goal.show_members-requires-clause-listable
show_members-requires-clause-listable c =
    let left = c.loop-part.left in
    let new = c.next.new.self in
    let met = rw c.in-Some.is at c.in_ok-part.ensures.some in
    part_listable c.args.last (map held_part c.args.parts.now) left.last left.more (map held_part (drop left.index left.parts.now)) c.args.path.now c.args.from.body.now left.body.now c.args.from.at left.at c.args.lister.now.out.octets c.loop-part.lister.out.octets c.loop-part.count c.loop-part.invariant.parts c.loop-part.invariant.body
    (held_part c.in-Some.part.now) new.more (map held_part (drop new.index new.parts.now)) new.at met

pub loop-part-preserved : goal.loop-part-preserved
loop-part-preserved c =
    let left = c.loop-part.left in
    let new = c.next.new.self in
    let met = rw c.in-Some.is at c.in_ok-part.ensures.some in
    let bit = rw c.in-Some.is at c.in_ok-part.ensures.bit in
    record {
      body = c.next.ensures.body ∙ c.loop-part.invariant.body;
      parts = parts_next c.args.last (map held_part c.args.parts.now) left.last left.more (map held_part (drop left.index left.parts.now)) c.args.path.now c.args.from.body.now left.body.now c.args.from.at left.at c.args.lister.now.out.octets c.loop-part.lister.out.octets c.loop-part.count c.loop-part.invariant.parts c.loop-part.invariant.body
          new.last new.body.now c.show_members.new.lister.out.octets c.in-Some.first (held_part c.in-Some.part.now) new.more (map held_part (drop new.index new.parts.now)) new.at c.next.ensures.last c.next.ensures.body met c.in_ok-part.ensures.ready bit c.in_default-show_members.ensures.lines;
    }

pub returns-in-Err-clause-err : goal.returns-in-Err-clause-err
returns-in-Err-clause-err c =
    let met = rw c.in-Some.is at c.in_ok-part.ensures.some in
    let bit = rw c.in-Some.is at c.in_ok-part.ensures.bit in
    let same = ap (λ body. length body) c.loop-part.invariant.body in
    stopped_within (kind_read (extended c.args.last (map held_part c.args.parts.now)) c.args.from.body.now c.args.from.at) c.args.from.body.now c.args.from.at (c.in-Some.first / 8) c.in-Some.first (members_width (held_part c.in-Some.part.now)) c.in-Err.stop c.of_unit.result c.in-Err.ensures.stop
    (omega (arith, met.width, met.within, met.forwards, bit, same)) c.of_unit.ensures

pub returns-clause-ok : goal.returns-clause-ok
returns-clause-ok c =
    let left = c.loop-part.left in
    let end = rw c.in_default.is at c.in_ok-part.ensures.end in
    let at = rw c.in_default.is at c.in_ok-part.ensures.at in
    parts_over c.args.last (map held_part c.args.parts.now) left.last left.more (map held_part (drop left.index left.parts.now)) c.args.path.now c.args.from.body.now left.body.now c.args.from.at left.at c.args.lister.now.out.octets c.loop-part.lister.out.octets c.loop-part.count c.loop-part.invariant.parts c.loop-part.invariant.body
    c.next.new.self.at c.loop-part.count end at refl
