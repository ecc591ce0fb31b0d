use Rattle.std.proofs.Common.{Ok, ◌≡◌, ◌∷◌, ◌++◌, [], length, ap, arith, refl}
use Rattle.std.proofs.lemmas.List.{length_push}
use Rattle.std.proofs.lemmas.Result.{err_from_is_err_and}
use Rattle.ax_format.specs.Plain.{fixed_tree}
use Rattle.ax_block_reader.proofs.RunWays.{no_value_read, value_lacks, value_read, run_goes_on, run_cut, run_ends}
use Rattle.ax_block_reader.proofs.extended.run_values.Goals as goal

pub loop-values-init : goal.loop-values-init
loop-values-init c = record { read = no_value_read (fixed_tree c.args.fixed.now) _ _ _ c.new-values.ensures refl; count = omega (arith, ap length c.new-values.ensures) }

pub returns-in_err-value-clause-gives : goal.returns-in_err-value-clause-gives
returns-in_err-value-clause-gives c =
    let p = err_from_is_err_and c.from_residual.result c.from_residual.ensures.1 in
    rw (p.1, p.2) (value_lacks (fixed_tree c.args.fixed.now) _ _ _ _ _ c.loop-values.invariant.read c.in_err-value.ensures.gives)

pub loop-values-preserved : goal.loop-values-preserved
loop-values-preserved c =
    let pushed : c.push.new.self ≡ c.loop-values.values ++ c.in_ok-value.value ∷ [] = c.in_ok-push.ensures.ok in
    let other = c.in_ok-takes.ensures.other (ap Ok c.if-branch.false) in
    let one = value_read (fixed_tree c.args.fixed.now) _ _ c.in_ok-value.value _ _ _ c.loop-values.invariant.read c.in_ok-value.ensures.gives pushed in
    record {
      read = run_goes_on (fixed_tree c.args.fixed.now) _ _ _ _ one other.0 other.1;
      count = omega (arith, ap length pushed, length_push c.loop-values.values c.in_ok-value.value, c.loop-values.invariant.count, c.in_ok-value.ensures.moves, ap length other.0);
    }

pub returns-in_err-takes-clause-gives : goal.returns-in_err-takes-clause-gives
returns-in_err-takes-clause-gives c =
    let p = err_from_is_err_and c.from_residual-in_err-takes.result c.from_residual-in_err-takes.ensures.1 in
    let pushed : c.push.new.self ≡ c.loop-values.values ++ c.in_ok-value.value ∷ [] = c.in_ok-push.ensures.ok in
    let one = value_read (fixed_tree c.args.fixed.now) _ _ c.in_ok-value.value _ _ _ c.loop-values.invariant.read c.in_ok-value.ensures.gives pushed in
    let end = c.in_err-takes.ensures.end in
    rw (p.1, p.2) (run_cut (fixed_tree c.args.fixed.now) _ _ _ _ _ c.requires.readable one end.1 end.2)

pub returns-then-branch-clause-gives : goal.returns-then-branch-clause-gives
returns-then-branch-clause-gives c =
    let pushed : c.push.new.self ≡ c.loop-values.values ++ c.in_ok-value.value ∷ [] = c.in_ok-push.ensures.ok in
    let one = value_read (fixed_tree c.args.fixed.now) _ _ c.in_ok-value.value _ _ _ c.loop-values.invariant.read c.in_ok-value.ensures.gives pushed in
    run_ends (fixed_tree c.args.fixed.now) _ _ _ _ c.requires.readable one (c.in_ok-takes.ensures.taken (ap Ok c.if-branch.true))
