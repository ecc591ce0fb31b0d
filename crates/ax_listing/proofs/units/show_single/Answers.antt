use Rattle.std.proofs.Common.{arith, drop, refl, ◌*◌, ◌/◌}
use Rattle.ax_bits.specs.Bits.{bits}
use Rattle.ax_held_kinds.specs.HeldFixed.{held_fixed}
use Rattle.ax_format.specs.Reader.{fixed_value}
use Rattle.ax_fspec.proofs.AtOctets.{fixed_gets}
use Rattle.ax_listing.proofs.units.show_single.Goals as goal

pub returns-in-Ok-clause-ok : goal.returns-in-Ok-clause-ok
returns-in-Ok-clause-ok c =
    let f = held_fixed c.args.fixed.now in
    let v = fixed_value f (drop (8 * c.args.from.at) (bits c.args.from.body.now)) in
    record {
      value = v;
      read = fixed_gets f c.args.from.body.now c.args.from.at (c.in-Ok.bit / 8) v (omega (arith, c.in-Ok.ensures.end.0)) (omega (arith, c.in-Ok.ensures.end.1)) (omega (arith, c.in-Ok.ensures.end.0, c.requires.bounds.0)) refl;
      put = c.in-Ok.ensures.lines;
    }
