use Rattle.std.proofs.lemmas.Result.{err_from_is_err_and}
use Rattle.ax_expressions.proofs.Ways.{path_lacks, rest_lacks}
use Rattle.ax_expressions.proofs.expressions.comparison.Goals as goal

pub returns-in_err-path-clause-gives : goal.returns-in_err-path-clause-gives
returns-in_err-path-clause-gives c =
    let p = err_from_is_err_and c.from_residual.result c.from_residual.ensures.1 in rw (p.1, p.2) (path_lacks _ _ _ c.in_err-path.ensures.gives)

pub returns-in_err-op-clause-gives : goal.returns-in_err-op-clause-gives
returns-in_err-op-clause-gives c =
    let p = err_from_is_err_and c.from_residual-in_err-op.result c.from_residual-in_err-op.ensures.1 in
    rw (p.1, p.2) (rest_lacks _ _ _ _ _ c.in_ok-path.ensures.gives.0 c.in_ok-path.ensures.gives.1 c.in_err-op.ensures.gives)
