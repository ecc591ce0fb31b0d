-- An expression is determined by its texts, and no expression is the beginning of another.
use Rattle.std.proofs.Common.{◌≡◌, ℕ, true, false, List, [], ◌∷◌, ◌++◌, refl, sym, ◌∙◌, ap, append_assoc}
use Rattle.std.specs.Prelude.{Option, Some, bytes_eq}
use Rattle.std.proofs.lemmas.Slice.Eq.{bytes_eq-Decides}
use Rattle.ax_tokens.specs.Stopping.{Texts}
use Rattle.ax_tokens.proofs.Stops.{PrefixFree, NeverBegins}
use Rattle.ax_expressions.specs.Words.{op_text, op_of, keyword_text}
use Rattle.ax_expressions.specs.Tree.{ExprTree, all_of, any_of, not_of, present, compared, ExprsTree, no_exprs, expr_and}
use Rattle.ax_expressions.specs.Spelling.{closing, expr_texts, exprs_texts, InForm, AllInForm, IsExpr}
use Rattle.ax_expressions.specs.declared.expr.Op.{Op}
use Rattle.ax_expressions.specs.declared.words.FilterKeyword.{FilterKeyword}
use Rattle.ax_expressions.specs.declared.words.FilterKeyword.TheVariants as Word
use Rattle.ax_expressions.proofs.Decimals.{same_int}
use Rattle.ax_expressions.proofs.FullPaths.{same_path}
use Rattle.ax_expressions.proofs.Tokens.{op_back}

abbrev first : Texts → List ℕ
first [] = []
first (text ∷ texts) = text

-- the first word of an expression
abbrev pub keyword_in : ExprTree → FilterKeyword
keyword_in (all_of es) = Word.All
keyword_in (any_of es) = Word.Any
keyword_in (not_of e) = Word.Not
keyword_in (present path) = Word.Present
keyword_in (compared path op number) = Word.Is

pub first_is : (e : ExprTree) (x : Texts) → first (expr_texts e ++ x) ≡ keyword_text (keyword_in e)
first_is (all_of es) x = refl
first_is (any_of es) x = refl
first_is (not_of e) x = refl
first_is (present path) x = refl
first_is (compared path op number) x = refl

different : (a b : List ℕ) → bytes_eq a b ≡ false → a ≡ b → ⊥
different a b n e = let yes : bytes_eq a b ≡ true = (bytes_eq-Decides a b).1 e in cc

-- texts that begin otherwise are no expression
pub apart : (e : ExprTree) (x t : Texts) → bytes_eq (first t) (keyword_text (keyword_in e)) ≡ false → t ≡ expr_texts e ++ x → ⊥
apart e x t n h = different _ _ n (ap first h ∙ first_is e x)

pub never_closing : (e : ExprTree) → bytes_eq closing (keyword_text (keyword_in e)) ≡ false
never_closing (all_of es) = refl
never_closing (any_of es) = refl
never_closing (not_of e) = refl
never_closing (present path) = refl
never_closing (compared path op number) = refl

following : (a b : List ℕ) (x y : Texts) → a ∷ x ≡ b ∷ y → x ≡ y
following a b x y e = cc

front : (a b : List ℕ) (x y : Texts) → a ∷ x ≡ b ∷ y → a ≡ b
front a b x y e = cc

shift : (a b : Texts) (c x : Texts) → ((a ++ b) ++ c) ++ x ≡ a ++ ((b ++ c) ++ x)
shift a b c x = ap (λ t. t ++ x) (append_assoc a b c) ∙ append_assoc a (b ++ c) x

abbrev some : {A : Type 0} → A → Option A
some x = Some x

some_same : (a b : Op) → some a ≡ some b → a ≡ b
some_same a b e = cc

same_op : (op other : Op) → op_text op ≡ op_text other → op ≡ other
same_op op other e = let found = sym (op_back op) ∙ ap op_of e ∙ op_back other in some_same op other found

mutual
  pub same_expr : (e f : ExprTree) → InForm e → InForm f → (x y : Texts) → expr_texts e ++ x ≡ expr_texts f ++ y → (e ≡ f) × (x ≡ y)
  same_expr (all_of es) (all_of fs) i j x y h = let r = same_exprs es fs i j x y (following _ _ _ _ (following _ _ _ _ h)) in (ap all_of r.0, r.1)
  same_expr (any_of es) (any_of fs) i j x y h = let r = same_exprs es fs i j x y (following _ _ _ _ (following _ _ _ _ h)) in (ap any_of r.0, r.1)
  same_expr (not_of e) (not_of f) i j x y h =
      let r = same_expr e f i j (closing ∷ x) (closing ∷ y) (sym (append_assoc (expr_texts e) (closing ∷ []) x) ∙ following _ _ _ _ (following _ _ _ _ h) ∙ append_assoc (expr_texts f) (closing ∷ []) y) in
      (ap not_of r.0, following _ _ _ _ r.1)
  same_expr (present p) (present q) i j x y h = (ap present (same_path p q i j (front _ _ _ _ (following _ _ _ _ h))), following _ _ _ _ (following _ _ _ _ h))
  same_expr (compared p o n) (compared q r m) i j x y h =
      let h1 = following _ _ _ _ h in
      let h2 = following _ _ _ _ h1 in
      let h3 = following _ _ _ _ h2 in
      let a : p ≡ q = same_path p q i.0 j.0 (front _ _ _ _ h1) in
      let b : o ≡ r = same_op o r (front _ _ _ _ h2) in
      let c : n ≡ m = same_int n m i.1 j.1 (front _ _ _ _ h3) in
      ((λ k. compared (a k) (b k) (c k)), following _ _ _ _ h3)
  same_expr e f i j x y h = absurd (apart f y (expr_texts e ++ x) refl h)

  pub same_exprs : (es fs : ExprsTree) → AllInForm es → AllInForm fs → (x y : Texts) → (exprs_texts es ++ closing ∷ []) ++ x ≡ (exprs_texts fs ++ closing ∷ []) ++ y → (es ≡ fs) × (x ≡ y)
  same_exprs no_exprs no_exprs i j x y h = (refl, following _ _ _ _ h)
  same_exprs no_exprs (expr_and f fs) i j x y h = absurd (apart f _ (closing ∷ x) (never_closing f) (h ∙ shift (expr_texts f) (exprs_texts fs) (closing ∷ []) y))
  same_exprs (expr_and e es) no_exprs i j x y h = absurd (apart e _ (closing ∷ y) (never_closing e) (sym h ∙ shift (expr_texts e) (exprs_texts es) (closing ∷ []) x))
  same_exprs (expr_and e es) (expr_and f fs) i j x y h =
      let r = same_expr e f i.0 j.0 ((exprs_texts es ++ closing ∷ []) ++ x) ((exprs_texts fs ++ closing ∷ []) ++ y) (sym (shift (expr_texts e) (exprs_texts es) (closing ∷ []) x) ∙ h ∙ shift (expr_texts f) (exprs_texts fs) (closing ∷ []) y) in
      let s = same_exprs es fs i.1 j.1 x y r.1 in
      ((λ k. expr_and (r.0 k) (s.0 k)), s.1)

pub expr_free : PrefixFree IsExpr
expr_free a b x y (e, i, p) (f, j, q) h = p ∙ ap expr_texts (same_expr e f i j x y (sym (ap (λ t. t ++ x) p) ∙ h ∙ ap (λ t. t ++ y) q)).0 ∙ sym q

pub expr_never : NeverBegins IsExpr closing
expr_never member following x (e, i, p) h = apart e following (closing ∷ x) (never_closing e) (sym h ∙ ap (λ t. t ++ following) p)
