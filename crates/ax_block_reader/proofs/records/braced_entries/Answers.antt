use Rattle.std.proofs.Common.{arith}
use Rattle.std.proofs.lemmas.Result.{err_from_is_err_and, on_ok_weaker}
use Rattle.ax_format.specs.Plain.{spec_tree}
use Rattle.ax_block_reader.proofs.RecordWays.{open_way, braced_gives}
use Rattle.ax_block_reader.proofs.records.braced_entries.Goals as goal

pub returns-in_err-expect-clause-gives : goal.returns-in_err-expect-clause-gives
returns-in_err-expect-clause-gives c =
    let p = err_from_is_err_and c.from_residual.result c.from_residual.ensures.1 in
    rw (p.1, p.2) (open_way (spec_tree c.args.items.now.spec.now) _ _ _ c.in_err-expect.ensures.reads)

pub returns-clause-gives : goal.returns-clause-gives
returns-clause-gives c = braced_gives (spec_tree c.args.items.now.spec.now) c.record_entries.result _ _ _ c.in_ok-expect.ensures.reads.1 c.record_entries.ensures.gives

pub returns-clause-moves : goal.returns-clause-moves
returns-clause-moves c = on_ok_weaker c.record_entries.result (λ lt. omega (arith, lt, c.in_ok-expect.ensures.moves)) c.record_entries.ensures.moves
