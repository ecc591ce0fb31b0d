use Rattle.std.proofs.Common.{◌≡◌, ◌∷◌, not, ap, sym, subst, ◌∙◌}
use Rattle.ax_format.specs.Canonical.{run_canon}
use Rattle.ax_format.specs.Plain.{fixed_tree, values_tree}
use Rattle.ax_values.proofs.WrittenRuns.{RunLeft, run_first, value_shape, value_room, fx_room, run_next, run_ended, none_left, others, not_empty}
use Rattle.ax_values.proofs.write_units.write_run.Goals as goal

pub loop-value-init : goal.loop-value-init
loop-value-init c =
    let f = fixed_tree c.args.fixed.now in
    subst (λ vs. RunLeft f c.args.out.now c.args.out.now (run_canon f (values_tree c.args.values.now)) vs) (sym c.as_slice-left.ensures.members) (run_first f c.args.out.now c.args.values.now c.requires.shape)

pub write_fixed-requires : goal.write_fixed-requires
write_fixed-requires c =
    let f = fixed_tree c.args.fixed.now in
    let whole = run_canon f (values_tree c.args.values.now) in
    let split = c.in-Some.ensures.cases.0 in
    record {
      bounds = c.requires.bounds;
      shape = value_shape f c.args.out.now c.loop-value.out whole c.loop-value.left.now c.in-Some.value.now c.in-Some.later.now c.loop-value.invariant split;
      room = value_room f c.args.out.now c.loop-value.out whole c.loop-value.left.now c.in-Some.value.now c.in-Some.later.now c.loop-value.invariant split c.requires.room;
    }

pub write_fx-requires : goal.write_fx-requires
write_fx-requires c =
    let f = fixed_tree c.args.fixed.now in
    fx_room f c.args.out.now c.loop-value.out c.write_fixed.new.out (run_canon f (values_tree c.args.values.now)) c.loop-value.left.now c.in-Some.value.now c.in-Some.later.now c.loop-value.invariant c.in-Some.ensures.cases.0 c.requires.room c.write_fixed.ensures

pub loop-value-preserved : goal.loop-value-preserved
loop-value-preserved c =
    let f = fixed_tree c.args.fixed.now in
    let later = c.in-Some.later.now in
    let split : c.loop-value.left.now ≡ c.in-Some.value.now ∷ later = c.in-Some.ensures.cases.0 in
    let more : not c.is_empty.result ≡ others later = ap not c.is_empty.ensures ∙ not_empty later in
    run_next f c.args.out.now c.loop-value.out c.write_fixed.new.out c.write_fx.new.out (run_canon f (values_tree c.args.values.now)) c.loop-value.left.now c.in-Some.value.now later (not c.is_empty.result) c.loop-value.invariant split c.write_fixed.ensures more c.write_fx.ensures

pub returns : goal.returns
returns c =
    let f = fixed_tree c.args.fixed.now in
    run_ended f c.args.out.now c.loop-value.out (run_canon f (values_tree c.args.values.now)) c.loop-value.left.now c.loop-value.invariant (none_left c.loop-value.left.now c.in_default.ensures.cases)
