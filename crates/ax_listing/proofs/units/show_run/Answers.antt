use Rattle.std.proofs.Common.{◌≡◌, ◌+◌, ◌*◌, ◌/◌, ◌≤◌, length, arith, refl}
use Rattle.ax_held_kinds.specs.HeldFixed.{held_fixed}
use Rattle.ax_format.specs.Tree.{by_fx}
use Rattle.ax_format.specs.Widths.{width}
use Rattle.ax_fspec.specs.Reading.{kind_read}
use Rattle.ax_listing.proofs.Stops.{unit_stopped}
use Rattle.ax_listing.proofs.UnitLines.{run_first, run_next, run_last, run_failed}
use Rattle.ax_values.proofs.Repeating.{unit_is}
use Rattle.ax_listing.proofs.units.show_run.Goals as goal

pub loop-bit-init : goal.loop-bit-init
loop-bit-init c = run_first (held_fixed c.args.fixed.now) c.args.path.now c.args.from.body.now c.args.from.at c.args.lister.now.out.octets c.args.from.within

pub returns-in-Err-clause-err : goal.returns-in-Err-clause-err
returns-in-Err-clause-err c =
    let f = held_fixed c.args.fixed.now in
    let path = c.args.path.now in
    let body = c.args.from.body.now in
    let here = c.loop-bit.here in
    let old = c.args.lister.now.out.octets in
    let now = c.loop-bit.lister.out.octets in
    unit_stopped (kind_read (by_fx f) body c.args.from.at) body c.args.from.at here (width f) c.in-Err.stop c.of_unit.result c.in-Err.ensures.stop c.of_unit.ensures
    (λ fault less cause bit. run_failed f path body c.args.from.at here old now c.loop-bit.count fault c.loop-bit.invariant less cause bit)

pub returns-then-not-has_fx-clause-ok : goal.returns-then-not-has_fx-clause-ok
returns-then-not-has_fx-clause-ok c =
    let f = held_fixed c.args.fixed.now in
    let path = c.args.path.now in
    let body = c.args.from.body.now in
    let here = c.loop-bit.here in
    let old = c.args.lister.now.out.octets in
    let now = c.loop-bit.lister.out.octets in
    let end = c.in-Ok.bit / 8 + 1 in
    let to : c.in-Ok.bit ≡ 8 * here + width f = c.in-Ok.ensures.end.0 in
    let inside : c.in-Ok.bit ≤ 8 * length body = c.in-Ok.ensures.end.1 in
    let u = unit_is body here end (width f) c.in-Ok.bit c.has_fx.result c.requires.bounds.0 (omega (arith, to)) (omega (arith, to, inside, c.requires.bounds.0)) (omega (arith, to, c.requires.bounds.0)) to c.has_fx.ensures in
    run_last f path body c.args.from.at here end (width f) old now c.show_occurrence.new.lister.out.octets c.loop-bit.count c.has_fx.result c.loop-bit.invariant u refl c.in-Ok.ensures.lines (c.loop-bit.count + 1) c.if-not-has_fx.true refl

pub loop-bit-preserved : goal.loop-bit-preserved
loop-bit-preserved c =
    let f = held_fixed c.args.fixed.now in
    let path = c.args.path.now in
    let body = c.args.from.body.now in
    let here = c.loop-bit.here in
    let old = c.args.lister.now.out.octets in
    let now = c.loop-bit.lister.out.octets in
    let end = c.in-Ok.bit / 8 + 1 in
    let to : c.in-Ok.bit ≡ 8 * here + width f = c.in-Ok.ensures.end.0 in
    let inside : c.in-Ok.bit ≤ 8 * length body = c.in-Ok.ensures.end.1 in
    let u = unit_is body here end (width f) c.in-Ok.bit c.has_fx.result c.requires.bounds.0 (omega (arith, to)) (omega (arith, to, inside, c.requires.bounds.0)) (omega (arith, to, c.requires.bounds.0)) to c.has_fx.ensures in
    run_next f path body c.args.from.at here end (width f) old now c.show_occurrence.new.lister.out.octets c.loop-bit.count c.has_fx.result c.loop-bit.invariant u refl c.in-Ok.ensures.lines c.if-not-has_fx.false
