-- The texts of an expression's tokens (this project's own form).
use Rattle.std.specs.Prelude.{◌≡◌, ℕ, List, [], ◌∷◌, ◌++◌, map, codes}
use Rattle.ax_tokens.specs.Stopping.{Texts}
use Rattle.ax_expressions.specs.Tree.{ExprTree, all_of, any_of, not_of, present, compared, ExprsTree, no_exprs, expr_and, exprs_of, expr_tree}
use Rattle.ax_expressions.specs.Words.{keyword_text, op_text, IsPath, path_word, IsInt, int_text}
use Rattle.ax_expressions.specs.declared.expr.Expr.{Expr}
use Rattle.ax_expressions.specs.declared.words.FilterKeyword.TheVariants as Word

abbrev pub opening : List ℕ
opening = codes "{"

abbrev pub closing : List ℕ
closing = codes "}"

abbrev mutual
  pub expr_texts : ExprTree → Texts
  expr_texts (all_of es) = keyword_text Word.All ∷ opening ∷ (exprs_texts es ++ closing ∷ [])
  expr_texts (any_of es) = keyword_text Word.Any ∷ opening ∷ (exprs_texts es ++ closing ∷ [])
  expr_texts (not_of e) = keyword_text Word.Not ∷ opening ∷ (expr_texts e ++ closing ∷ [])
  expr_texts (present path) = keyword_text Word.Present ∷ path_word path ∷ []
  expr_texts (compared path op number) = keyword_text Word.Is ∷ path_word path ∷ op_text op ∷ int_text number ∷ []

  pub exprs_texts : ExprsTree → Texts
  exprs_texts no_exprs = []
  exprs_texts (expr_and e es) = expr_texts e ++ exprs_texts es

abbrev mutual
  -- each path is a category and names, and each number has at most 38 digits
  pub InForm : ExprTree → Type 0
  InForm (all_of es) = AllInForm es
  InForm (any_of es) = AllInForm es
  InForm (not_of e) = InForm e
  InForm (present path) = IsPath path
  InForm (compared path op number) = IsPath path × IsInt number

  pub AllInForm : ExprsTree → Type 0
  AllInForm no_exprs = Unit {0}
  AllInForm (expr_and e es) = InForm e × AllInForm es

-- ---- over the code's types

abbrev pub AreInForm : List Expr → Type 0
AreInForm es = AllInForm (exprs_of (map expr_tree es))

abbrev pub texts_of_all : List Expr → Texts
texts_of_all es = exprs_texts (exprs_of (map expr_tree es))

-- ---- the language

-- the texts are an expression
abbrev pub IsExpr : Texts → Type 0
IsExpr texts = (e : ExprTree) × InForm e × (texts ≡ expr_texts e)
