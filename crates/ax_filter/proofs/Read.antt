-- The filter of an expression that the tokens spell.
use Rattle.std.proofs.Common.{◌≡◌, List, sym, subst, Ok, Err, IfOk}
use Rattle.std.specs.Prelude.{Result}
use Rattle.ax_tokens.specs.PlainToken.{PlainToken}
use Rattle.ax_format.specs.Specification.{SpecTree}
use Rattle.ax_expressions.specs.FilterTokens.{IsFilterOf}
use Rattle.ax_expressions.specs.Tree.{expr_tree}
use Rattle.ax_expressions.specs.declared.error.FilterError.{FilterError}
use Rattle.ax_expressions.specs.declared.expr.Expr.{Expr}
use Rattle.ax_filter.specs.OfCode.{expression}
use Rattle.ax_filter.specs.declared.filter.Filter.{Filter}

pub filter_over : (catalogue : List SpecTree) (tokens : List PlainToken) (e : Expr) (r : Result Filter FilterError) → IsFilterOf catalogue tokens (expr_tree e) → IfOk r (λ filter. filter.expr ≡ e) → IfOk r (λ filter. IsFilterOf catalogue tokens (expression filter))
filter_over catalogue tokens e (Ok filter) over same = subst (λ x. IsFilterOf catalogue tokens (expr_tree x)) (sym same) over
filter_over catalogue tokens e (Err error) over same = tt
