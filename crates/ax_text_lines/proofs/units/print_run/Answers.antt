use Rattle.std.proofs.Common.{◌≡◌, true, false, ap, arith, refl, ◌+◌, ◌*◌}
use Rattle.ax_format.specs.Plain.{fixed_tree}
use Rattle.ax_format.specs.Widths.{width}
use Rattle.ax_format.specs.Tree.{by_fx}
use Rattle.ax_fspec.specs.Reading.{kind_read}
use Rattle.ax_text_lines.proofs.Repeated.{run_begins, run_more, run_done, run_short}
use Rattle.ax_values.proofs.Continuing.{err_by_fault}
use Rattle.ax_values.proofs.Repeating.{unit_is}
use Rattle.ax_text_lines.proofs.units.print_run.Goals as goal

pub loop-end-init : goal.loop-end-init
loop-end-init c = run_begins (fixed_tree c.args.fixed.now.fixed.now) c.args.body.now c.args.at _ _ c.requires.at c.in_ok-open.ensures.appended

pub returns-in_err-end-clause-err : goal.returns-in_err-end-clause-err
returns-in_err-end-clause-err c =
    let f = fixed_tree c.args.fixed.now.fixed.now in
    let fault = c.in_err-end.field-0.0 in
    err_by_fault (kind_read (by_fx f) c.args.body.now c.args.at) c.args.at c.from_residual-in_err-end.result fault c.from_residual-in_err-end.ensures.1
    (run_short f c.args.body.now c.args.at c.loop-end.here c.args.line.now.octets c.loop-end.line.octets fault c.loop-end.invariant (omega (arith, c.in_err-end.ensures.short, c.args.fixed.now.wide, c.requires.bounds.1)) (ap (λ f. f.cause) c.in_err-end.ensures.fault) (ap (λ f. f.bit) c.in_err-end.ensures.fault))

pub returns-then-not-has_fx-clause-ok : goal.returns-then-not-has_fx-clause-ok
returns-then-not-has_fx-clause-ok c =
    let f = fixed_tree c.args.fixed.now.fixed.now in
    let body = c.args.body.now in
    let here = c.loop-end.here in
    let end = c.in_ok-end.end in
    let ok = c.in_ok-end.ensures.ok in
    let u = unit_is body here end (width f) (8 * here + c.args.fixed.now.width) c.has_fx.result c.requires.bounds.0 ok.0 ok.1 (omega (arith, ok.2, c.args.fixed.now.wide, c.requires.bounds.1)) (omega (arith, c.args.fixed.now.wide, c.requires.bounds.1)) c.has_fx.ensures in
    let none : c.has_fx.result ≡ false = c.if-not-has_fx.true in
    run_done f body c.args.at here end (width f) c.args.line.now.octets c.loop-end.line.octets c.print_held.new.line.octets c.has_fx.result c.loop-end.invariant u refl c.in_ok-print_held.ensures c.close.new.self.octets none c.in_ok-close.ensures.appended

pub loop-end-preserved : goal.loop-end-preserved
loop-end-preserved c =
    let f = fixed_tree c.args.fixed.now.fixed.now in
    let body = c.args.body.now in
    let here = c.loop-end.here in
    let end = c.in_ok-end.end in
    let ok = c.in_ok-end.ensures.ok in
    let u = unit_is body here end (width f) (8 * here + c.args.fixed.now.width) c.has_fx.result c.requires.bounds.0 ok.0 ok.1 (omega (arith, ok.2, c.args.fixed.now.wide, c.requires.bounds.1)) (omega (arith, c.args.fixed.now.wide, c.requires.bounds.1)) c.has_fx.ensures in
    let one : c.has_fx.result ≡ true = c.if-not-has_fx.false in
    run_more f body c.args.at here end (width f) c.args.line.now.octets c.loop-end.line.octets c.print_held.new.line.octets c.has_fx.result c.loop-end.invariant u refl c.in_ok-print_held.ensures one
