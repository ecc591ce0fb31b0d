use Rattle.std.proofs.Common.{◌≡◌, ◌+◌, length, take, arith, length-take-le, subst}
use Rattle.std.proofs.lemmas.List.{take-take}
use Rattle.ax_octets.specs.Placed.{Placed}
use Rattle.ax_octets.proofs.Places.{Placed-less}
use Rattle.ax_octets.proofs.place.place_some.Goals as goal

pub returns : goal.returns
returns g c =
    let front = take g.row.N c.args.text.now in
    let long : length front ≡ g.row.N = length-take-le g.row.N c.args.text.now c.requires.0 in
    let kept = Placed-less c.args.count (omega (arith, c.requires)) (omega (arith, c.requires, long)) c.place_front.ensures in
    subst (λ xs. Placed c.args.buffer.now c.place_front.new.buffer c.args.at xs (c.args.at + c.args.count)) (take-take c.args.count g.row.N c.args.text.now (omega (arith, c.requires))) kept
