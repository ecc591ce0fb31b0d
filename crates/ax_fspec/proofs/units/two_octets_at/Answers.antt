use Rattle.std.proofs.Common.{◌+◌, ◌*◌, ℕ, get_or, arith, refl, Fits, w8}
use Rattle.ax_fspec.proofs.Counting.{two_is_count}
use Rattle.ax_fspec.proofs.units.two_octets_at.Goals as goal

pub returns-clause-count : goal.returns-clause-count
returns-clause-count c =
    let body = c.args.body.now in
    let at : ℕ = c.args.at in
    let a : Fits w8 (get_or body at 0) = c.type_inv.body at in
    let b : Fits w8 (get_or body (at + 1) 0) = c.type_inv.body (at + 1) in
    two_is_count body at (get_or body at 0) (get_or body (at + 1) 0) _ (omega (arith, c.if-body-first.false)) refl refl (omega (arith, a)) (omega (arith, b)) (λ i. c.from.ensures i * 256 + c.from-2.ensures i)
