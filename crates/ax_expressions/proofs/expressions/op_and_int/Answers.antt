use Rattle.std.proofs.lemmas.Result.{err_from_is_err_and}
use Rattle.ax_expressions.proofs.Ways.{op_lacks, int_lacks}
use Rattle.ax_expressions.proofs.expressions.op_and_int.Goals as goal

pub returns-in_err-op-clause-gives : goal.returns-in_err-op-clause-gives
returns-in_err-op-clause-gives c =
    let p = err_from_is_err_and c.from_residual.result c.from_residual.ensures.1 in rw (p.1, p.2) (op_lacks _ _ _ c.in_err-op.ensures.reads)

pub returns-in_err-number-clause-gives : goal.returns-in_err-number-clause-gives
returns-in_err-number-clause-gives c =
    let p = err_from_is_err_and c.from_residual-in_err-number.result c.from_residual-in_err-number.ensures.1 in
    rw (p.1, p.2) (int_lacks _ _ _ _ c.in_ok-op.op c.in_ok-op.ensures.reads.0 c.in_ok-op.ensures.reads.1 c.in_err-number.ensures.gives)
