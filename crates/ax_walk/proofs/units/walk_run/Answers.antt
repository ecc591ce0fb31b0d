use Rattle.std.proofs.Common.{◌-◌, get_or, ap, refl, ◌∙◌}
use Rattle.ax_codec.specs.Meaning.{meanings, linked, fixed_of}
use Rattle.ax_walk.proofs.Leading.{if_none}
use Rattle.ax_walk.proofs.UnitSteps.{run_first, run_next, run_last, run_failed, fx_set, fx_clear}
use Rattle.ax_walk.proofs.units.walk_run.Goals as goal

pub loop-end-init : goal.loop-end-init
loop-end-init c = record { run = run_first (fixed_of (linked (meanings c.args.nodes.now) c.args.inner)) c.args.start.body.now c.args.start.at c.args.start.within; least = refl }

pub returns-in_err-end-clause-fault : goal.returns-in_err-end-clause-fault
returns-in_err-end-clause-fault c =
    if_none c.from_residual.result (run_failed (fixed_of (linked (meanings c.args.nodes.now) c.args.inner)) c.args.start.body.now c.args.start.at c.loop-end.here c.fixed_width-width.result c.run.new.notes.fault
    c.loop-end.invariant.run c.fixed_width-width.ensures c.in_err-end.ensures.short (ap (λ f. f.cause) c.in_err-end.ensures.fault) (ap (λ f. f.bit) c.in_err-end.ensures.fault))

pub returns-then-not-ends_with_fx-clause-end : goal.returns-then-not-ends_with_fx-clause-end
returns-then-not-ends_with_fx-clause-end c =
    let e = c.in_ok-end.ensures.end in
    run_last (fixed_of (linked (meanings c.args.nodes.now) c.args.inner)) c.args.start.body.now c.args.start.at c.loop-end.here c.in_ok-end.end c.fixed_width-width.result c.run.new.notes.least
    c.loop-end.invariant.run c.requires.bounds e.0 e.1 c.fixed_width-width.ensures e.2 (fx_clear c.ends_with_fx.result (get_or c.args.start.body.now (c.in_ok-end.end - 1) 0) c.ends_with_fx.ensures (cc))

pub returns-in_err-end-clause-least : goal.returns-in_err-end-clause-least
returns-in_err-end-clause-least c = c.run.ensures.least ∙ c.loop-end.invariant.least

pub returns-then-not-ends_with_fx-clause-least : goal.returns-then-not-ends_with_fx-clause-least
returns-then-not-ends_with_fx-clause-least c = c.run.ensures.least ∙ c.loop-end.invariant.least

pub loop-end-preserved : goal.loop-end-preserved
loop-end-preserved c =
    let e = c.in_ok-end.ensures.end in
    record {
      run = run_next (fixed_of (linked (meanings c.args.nodes.now) c.args.inner)) c.args.start.body.now c.args.start.at c.loop-end.here c.in_ok-end.end c.fixed_width-width.result
          c.loop-end.invariant.run e.0 e.1 c.fixed_width-width.ensures e.2 (fx_set c.ends_with_fx.result (get_or c.args.start.body.now (c.in_ok-end.end - 1) 0) c.ends_with_fx.ensures (cc));
      least = c.run.ensures.least ∙ c.loop-end.invariant.least;
    }
