use Rattle.std.proofs.Common.{◌≡◌, ◌++◌, ◌∷◌, [], true, false, ap, arith, refl, subst, sym}
use Rattle.ax_format.specs.Plain.{fixed_tree, values_tree}
use Rattle.ax_format.specs.Widths.{width}
use Rattle.ax_format.specs.Tree.{by_fx, occurrences}
use Rattle.ax_fspec.proofs.AtOctets.{by_fx_gets, by_fx_fails}
use Rattle.ax_values.proofs.Continuing.{err_by_fault}
use Rattle.ax_values.proofs.Repeating.{RunSoFar, unit_is, run_more, run_done, run_short}
use Rattle.ax_fspec.specs.Reading.{Gets, kind_read}
use Rattle.ax_values.proofs.units.decode_run.Goals as goal

pub returns-in_err-end-clause-err : goal.returns-in_err-end-clause-err
returns-in_err-end-clause-err c =
    let f = fixed_tree c.args.fixed.now in
    let fault = c.in_err-end.field-0.0 in
    err_by_fault (kind_read (by_fx f) c.args.body.now c.args.at) c.args.at c.from_residual.result fault c.from_residual.ensures.1
    (by_fx_fails f c.args.body.now c.args.at fault (run_short f c.args.body.now c.args.at c.loop-made.here c.loop-made.made fault c.loop-made.invariant (omega (arith, c.in_err-end.ensures.short, c.width-width.ensures, c.requires.bounds.1)) (ap (λ f. f.cause) c.in_err-end.ensures.fault) (ap (λ f. f.bit) c.in_err-end.ensures.fault)))

pub returns-then-not-has_fx-clause-ok : goal.returns-then-not-has_fx-clause-ok
returns-then-not-has_fx-clause-ok c =
    let f = fixed_tree c.args.fixed.now in
    let body = c.args.body.now in
    let here = c.loop-made.here in
    let end = c.in_ok-end.end in
    let ok = c.in_ok-end.ensures.ok in
    let u = unit_is body here end (width f) c.decode_fixed.new.at c.has_fx.result c.requires.bounds.0 ok.0 ok.1 (omega (arith, ok.2, c.width-width.ensures, c.requires.bounds.1)) c.in_ok-value.ensures.at c.has_fx.ensures in
    let none : c.has_fx.result ≡ false = c.if-not-has_fx.true in
    subst (λ made. Gets (kind_read (by_fx f) body c.args.at) body c.args.at end (occurrences (values_tree made))) (sym c.in_ok-push.ensures.ok)
    (by_fx_gets f body c.args.at end (values_tree (c.loop-made.made ++ c.in_ok-value.value ∷ [])) (run_done f body c.args.at here end (width f) c.loop-made.made c.in_ok-value.value c.has_fx.result c.loop-made.invariant u refl none c.in_ok-value.ensures.value))

pub loop-made-preserved : goal.loop-made-preserved
loop-made-preserved c =
    let f = fixed_tree c.args.fixed.now in
    let body = c.args.body.now in
    let here = c.loop-made.here in
    let end = c.in_ok-end.end in
    let ok = c.in_ok-end.ensures.ok in
    let u = unit_is body here end (width f) c.decode_fixed.new.at c.has_fx.result c.requires.bounds.0 ok.0 ok.1 (omega (arith, ok.2, c.width-width.ensures, c.requires.bounds.1)) c.in_ok-value.ensures.at c.has_fx.ensures in
    let one : c.has_fx.result ≡ true = c.if-not-has_fx.false in
    subst (λ made. RunSoFar f body c.args.at end made) (sym c.in_ok-push.ensures.ok)
    (run_more f body c.args.at here end (width f) c.loop-made.made c.in_ok-value.value c.has_fx.result c.loop-made.invariant u refl one c.in_ok-value.ensures.value)
