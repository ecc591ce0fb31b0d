use Rattle.std.proofs.Common.{◌-◌, arith, get_or, subst, List, ℕ}
use Rattle.ax_codec.specs.Meaning.{fixed_of, linked, meanings}
use Rattle.ax_walk.proofs.FixedSpots.{fixed_bounds, fixed_fits, spot_known}
use Rattle.ax_walk.specs.Spots.{FindsFixed}
use Rattle.ax_walk.proofs.fixed_spot.FixedSpot.of.Goals as goal

pub find_fixed-requires-clause-bounds : goal.find_fixed-requires-clause-bounds
find_fixed-requires-clause-bounds c = fixed_bounds c.args.codec.now c.args.place.now c.as_slice-nodes.result.now c.as_slice-links.result.now c.index-nodes-link.result c.as_slice-nodes.ensures.members c.as_slice-links.ensures.members (omega (arith, c.if-link-eq0.false)) (omega (arith, c.if-place-links.false, c.if-place-eq0.false)) c.index-nodes-link.is (omega (arith, c.if-fixed_width-eq0.false, c.fixed_width.ensures))

pub find_fixed-requires-clause-room : goal.find_fixed-requires-clause-room
find_fixed-requires-clause-room c = fixed_fits c.args.codec.now c.args.place.now c.as_slice-nodes.result.now c.as_slice-links.result.now c.index-nodes-link.result c.as_slice-nodes.ensures.members c.as_slice-links.ensures.members (omega (arith, c.if-link-eq0.false)) (omega (arith, c.if-place-links.false, c.if-place-eq0.false)) c.index-nodes-link.is (omega (arith, c.if-fixed_width-eq0.false, c.fixed_width.ensures))

pub returns : goal.returns
returns c = spot_known c.args.codec.now c.args.place.now c.as_slice-nodes.result.now c.as_slice-links.result.now c.index-nodes-link.result c.as_slice-nodes.ensures.members c.as_slice-links.ensures.members (omega (arith, c.if-link-eq0.false)) (omega (arith, c.if-place-links.false, c.if-place-eq0.false)) c.index-nodes-link.is (omega (arith, c.if-fixed_width-eq0.false, c.fixed_width.ensures)) (record { bit = c.in_ok-last.bit; width = c.in-Element.width }) c.in_ok-last.last c.index-nodes-last.result (subst (λ (steps : List ℕ). FindsFixed c.as_slice-nodes.result.now (fixed_of (linked (meanings c.as_slice-nodes.result.now) (get_or c.as_slice-links.result.now (c.args.place.now.frn - 1) 0))) 0 steps c.in_ok-last.last c.in_ok-last.bit) c.as_slice.ensures.members c.in_ok-last.ensures.found) c.index-nodes-last.is c.in-Element.is
