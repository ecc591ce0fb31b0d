use Rattle.std.proofs.Common.{rules}
use Rattle.std.proofs.lemmas.Result.{err_from_is_err_and}
use Rattle.ax_format.specs.Plain.{catalogue_tree}
use Rattle.ax_expressions.specs.Tree.{expr_tree}
use Rattle.ax_expressions.proofs.Whole.{over, fault_in, fault_before}
use Rattle.ax_filter.proofs.Read.{filter_over}
use Rattle.ax_filter.proofs.reading.read_filter.Goals as goal

pub returns-in_ok-judge_paths-in-Ok-clause-spells : goal.returns-in_ok-judge_paths-in-Ok-clause-spells
returns-in_ok-judge_paths-in-Ok-clause-spells c =
    filter_over (catalogue_tree c.args.catalogue.now) c.args.tokens.now c.in-Ok.expr c.filter_of.result
    (over (catalogue_tree c.args.catalogue.now) c.args.tokens.now (expr_tree c.in-Ok.expr) c.count.result (search rules) (search rules) (search rules)) c.filter_of.ensures.expression

pub returns-in_err-judge_paths-in-Ok-clause-fault : goal.returns-in_err-judge_paths-in-Ok-clause-fault
returns-in_err-judge_paths-in-Ok-clause-fault c =
    let p = err_from_is_err_and c.from_residual.result c.from_residual.ensures.1 in rw (p.1, p.2) (fault_in _ _ _ _ _ c.in-Ok.ensures.spells c.in_err-judge_paths-in-Ok.ensures.fault)

pub returns-in_err-judge_paths-in-Err-BadToken-clause-fault : goal.returns-in_err-judge_paths-in-Err-BadToken-clause-fault
returns-in_err-judge_paths-in-Err-BadToken-clause-fault c =
    let p = err_from_is_err_and c.from_residual-in_err-judge_paths-in-Err-BadToken.result c.from_residual-in_err-judge_paths-in-Err-BadToken.ensures.1 in
    rw (p.1, p.2) (fault_before _ _ _ _ (rw c.in-Err-BadToken.field-0-is at c.in-Err-BadToken.ensures.bad) c.in_err-judge_paths-in-Err-BadToken.ensures.fault)

pub returns-in_ok-judge_paths-in-Err-BadToken-clause-fault : goal.returns-in_ok-judge_paths-in-Err-BadToken-clause-fault
returns-in_ok-judge_paths-in-Err-BadToken-clause-fault c = (rw c.in-Err-BadToken.field-0-is at c.in-Err-BadToken.ensures.bad, c.in_ok-judge_paths-in-Err-BadToken.ensures.lead)
