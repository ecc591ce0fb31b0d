use Rattle.std.proofs.lemmas.Result.{err_from_is_err_and}
use Rattle.ax_format.specs.Plain.{spec_tree}
use Rattle.ax_block_reader.proofs.RecordWays.{after_way, record_is_read}
use Rattle.ax_block_reader.proofs.records.record.Goals as goal

pub returns-in_err-entries-clause-gives : goal.returns-in_err-entries-clause-gives
returns-in_err-entries-clause-gives c =
    let p = err_from_is_err_and c.from_residual-in_err-entries.result c.from_residual-in_err-entries.ensures.1 in
    rw (p.1, p.2) (after_way (spec_tree c.args.items.now.spec.now) _ _ _ _ c.in_ok-expect.ensures.reads.1 c.in_err-entries.ensures.gives)

pub returns-clause-gives : goal.returns-clause-gives
returns-clause-gives c = record_is_read (spec_tree c.args.items.now.spec.now) _ _ _ _ c.in_ok-expect.ensures.reads.1 c.in_ok-entries.ensures.gives
