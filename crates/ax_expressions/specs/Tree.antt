-- Expressions as plain trees.
use Rattle.std.specs.Prelude.{List, [], ◌∷◌, ℤ}
use Rattle.ax_expressions.specs.declared.expr.Expr.{Expr, fold-Expr}
use Rattle.ax_expressions.specs.declared.expr.Expr.TheOpen.{Expr-F}
use Rattle.ax_expressions.specs.declared.expr.FullPath.{FullPath}
use Rattle.ax_expressions.specs.declared.expr.Op.{Op}

mutual
  -- all of some hold, any of them does, one doesn't; something stands at a path, or a number that compares so with this one
  pub data ExprTree : Type 0 where
    all_of : ExprsTree → ExprTree
    any_of : ExprsTree → ExprTree
    not_of : ExprTree → ExprTree
    present : FullPath → ExprTree
    compared : FullPath → Op → ℤ → ExprTree

  pub data ExprsTree : Type 0 where
    no_exprs : ExprsTree
    expr_and : ExprTree → ExprsTree → ExprsTree

abbrev pub exprs_of : List ExprTree → ExprsTree
exprs_of [] = no_exprs
exprs_of (e ∷ es) = expr_and e (exprs_of es)

abbrev pub expr_step : Expr-F ExprTree → ExprTree
expr_step (Expr-F.All es) = all_of (exprs_of es)
expr_step (Expr-F.Any es) = any_of (exprs_of es)
expr_step (Expr-F.Not e) = not_of e.value
expr_step (Expr-F.Present path) = present path
expr_step (Expr-F.Is path op number) = compared path op number

-- what an expression of the code says
abbrev pub expr_tree : Expr → ExprTree
expr_tree e = fold-Expr ExprTree expr_step e
