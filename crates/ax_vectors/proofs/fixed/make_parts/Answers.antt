use Rattle.std.proofs.Common.{◌≡◌, ◌-◌, suc, arith}
use Rattle.ax_vectors.proofs.Left.{parts_first, parts_next, parts_ended}
use Rattle.ax_vectors.proofs.fixed.make_parts.Goals as goal

pub loop-part-init : goal.loop-part-init
loop-part-init c = parts_first c.args.last c.args.parts.now c.as_slice-rest.result.now c.args.count c.args.into.now c.args.draws.now c.as_slice-rest.ensures.members c.requires

pub loop-part-preserved : goal.loop-part-preserved
loop-part-preserved c =
    let last = c.args.last in
    let p = c.in-Some.part.now in
    let later = c.in-Some.later.now in
    let n = c.loop-part.left in
    let more : n ≡ suc (n - 1) = omega (arith, c.if-left-eq0.false) in
    parts_next last c.args.parts.now c.loop-part.rest.now later n (n - 1) c.args.count c.fx_width.result p c.args.into.now c.loop-part.into c.make_members.new.into c.push_fx.new.into c.args.draws.now c.loop-part.draws c.make_members.new.draws
    c.loop-part.invariant c.in-Some.ensures.cases.0 more c.fx_width.ensures c.in_ok-make_members.ensures c.in_ok-push_fx.ensures

pub returns : goal.returns
returns c = parts_ended c.args.last c.args.parts.now c.loop-part.rest.now c.loop-part.left c.args.count c.args.into.now c.loop-part.into c.args.draws.now c.loop-part.draws c.loop-part.invariant c.in_default.ensures.cases
