use Rattle.std.proofs.Common.{◌≡◌, ◌+◌, ◌-◌, suc, get_or, arith, subst}
use Rattle.std.proofs.lemmas.Nat.{and_mask}
use Rattle.ax_walk.proofs.ExtentWalks.{OctetPartsLeft, octet_parts_begin, octet_parts_go_on, octet_parts_end}
use Rattle.ax_walk.proofs.extents.octet_parts_end.Goals as goal

pub loop-init : goal.loop-init
loop-init c = record {
  within = c.args.start.within;
  left = subst (OctetPartsLeft c.args.most c.args.start.body.now c.args.start.at c.args.start.at) (let e : c.args.most ≡ c.args.most - 0 = omega arith in e) (octet_parts_begin c.args.most c.args.start.body.now c.args.start.at c.args.start.within);
}

pub loop-preserved : goal.loop-preserved
loop-preserved c =
    let most = c.args.most in
    let body = c.args.start.body.now in
    let one : most - c.loop.counter ≡ suc (most - (c.loop.counter + 1)) = omega (arith, c.loop-test.true) in
    record {
      within = omega (arith, c.if-here-body.false);
      left = octet_parts_go_on most body c.args.start.at c.loop.here (most - (c.loop.counter + 1)) (subst (OctetPartsLeft most body c.args.start.at c.loop.here) one c.loop.invariant.left) c.if-here-body.false (omega (arith, c.if-octet-eq0.false, and_mask (get_or body c.loop.here 0) 1));
    }

pub returns-then-octet-eq0 : goal.returns-then-octet-eq0
returns-then-octet-eq0 c =
    let most = c.args.most in
    let body = c.args.start.body.now in
    let one : most - c.loop.counter ≡ suc (most - (c.loop.counter + 1)) = omega (arith, c.loop-test.true) in
    octet_parts_end most body c.args.start.at c.loop.here (most - (c.loop.counter + 1)) (subst (OctetPartsLeft most body c.args.start.at c.loop.here) one c.loop.invariant.left) c.if-here-body.false (omega (arith, c.if-octet-eq0.true, and_mask (get_or body c.loop.here 0) 1))
