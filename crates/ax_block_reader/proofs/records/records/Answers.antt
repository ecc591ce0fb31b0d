use Rattle.std.proofs.Common.{Ok, ◌≡◌, ◌∷◌, ◌++◌, [], length, ap, arith, refl}
use Rattle.std.proofs.lemmas.List.{length_push}
use Rattle.std.proofs.lemmas.Result.{err_from_is_err_and}
use Rattle.ax_format.specs.Plain.{spec_tree}
use Rattle.ax_block_reader.proofs.RecordListWays.{no_record_read, record_lacks, one_read, records_go_on, records_cut, records_end}
use Rattle.ax_block_reader.proofs.records.records.Goals as goal

pub loop-made-init : goal.loop-made-init
loop-made-init c = record { read = no_record_read (spec_tree c.args.items.now.spec.now) _ _ _ c.new-made.ensures refl; count = omega (arith, ap length c.new-made.ensures) }

pub returns-in_err-one-clause-gives : goal.returns-in_err-one-clause-gives
returns-in_err-one-clause-gives c =
    let p = err_from_is_err_and c.from_residual.result c.from_residual.ensures.1 in
    rw (p.1, p.2) (record_lacks (spec_tree c.args.items.now.spec.now) _ _ _ _ _ c.loop-made.invariant.read c.in_err-one.ensures.gives)

pub loop-made-preserved : goal.loop-made-preserved
loop-made-preserved c =
    let pushed : c.push.new.self ≡ c.loop-made.made ++ c.in_ok-one.one ∷ [] = c.in_ok-push.ensures.ok in
    let other = c.in_ok-takes.ensures.other (ap Ok c.if-branch.false) in
    let one = one_read (spec_tree c.args.items.now.spec.now) _ _ c.in_ok-one.one _ _ _ c.loop-made.invariant.read c.in_ok-one.ensures.gives pushed in
    record {
      read = records_go_on (spec_tree c.args.items.now.spec.now) _ _ _ _ one other.0 other.1;
      count = omega (arith, ap length pushed, length_push c.loop-made.made c.in_ok-one.one, c.loop-made.invariant.count, c.in_ok-one.ensures.moves, ap length other.0);
    }

pub returns-in_err-takes-clause-gives : goal.returns-in_err-takes-clause-gives
returns-in_err-takes-clause-gives c =
    let p = err_from_is_err_and c.from_residual-in_err-takes.result c.from_residual-in_err-takes.ensures.1 in
    let pushed : c.push.new.self ≡ c.loop-made.made ++ c.in_ok-one.one ∷ [] = c.in_ok-push.ensures.ok in
    let one = one_read (spec_tree c.args.items.now.spec.now) _ _ c.in_ok-one.one _ _ _ c.loop-made.invariant.read c.in_ok-one.ensures.gives pushed in
    let end = c.in_err-takes.ensures.end in
    rw (p.1, p.2) (records_cut (spec_tree c.args.items.now.spec.now) _ _ _ _ _ one end.1 end.2)

pub returns-then-branch-clause-gives : goal.returns-then-branch-clause-gives
returns-then-branch-clause-gives c =
    let pushed : c.push.new.self ≡ c.loop-made.made ++ c.in_ok-one.one ∷ [] = c.in_ok-push.ensures.ok in
    let one = one_read (spec_tree c.args.items.now.spec.now) _ _ c.in_ok-one.one _ _ _ c.loop-made.invariant.read c.in_ok-one.ensures.gives pushed in
    records_end (spec_tree c.args.items.now.spec.now) _ _ _ _ one (c.in_ok-takes.ensures.taken (ap Ok c.if-branch.true))
