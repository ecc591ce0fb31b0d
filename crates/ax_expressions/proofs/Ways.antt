-- Each way through the rules.
use Rattle.std.proofs.Common.{◌≡◌, ℕ, List, [], ◌∷◌, ◌++◌, map, refl, sym, ◌∙◌, ap, subst, codes, append_assoc, append-nil, lit<, pos}
use Rattle.std.specs.Prelude.{decimal, Result, Ok, Err}
use Rattle.ax_tokens.specs.Stopping.{Texts, StopsAt, Stops, IsNotFirst, Word, One, joined, Closed}
use Rattle.ax_tokens.specs.declared.stopped.Stopped.{Stopped}
use Rattle.ax_tokens.specs.declared.stopped.Stopped.TheVariants.{Bad, OutOfMemory}
use Rattle.ax_tokens.proofs.Stops.{PrefixFree, first_lacks, second_lacks, closed_stops, closed_cut}
use Rattle.ax_expressions.specs.Words.{op_text, keyword_text, path_word, IsPath, IsPathText, IsIntText, IsOpText, IsKeyword}
use Rattle.ax_expressions.specs.Tree.{ExprTree, all_of, ExprsTree, no_exprs, exprs_of, expr_tree}
use Rattle.ax_expressions.specs.Spelling.{opening, closing, expr_texts, exprs_texts, InForm, AllInForm, IsExpr}
use Rattle.ax_expressions.specs.Parts.{IsOpAndInt, IsComparison, IsBraced, IsClosed, IsNegated, Gives}
use Rattle.ax_expressions.specs.declared.expr.Expr.{Expr}
use Rattle.ax_expressions.specs.declared.expr.FullPath.{FullPath}
use Rattle.ax_expressions.specs.declared.expr.Op.{Op}
use Rattle.ax_expressions.specs.declared.expr.Op.TheVariants.{Equal}
use Rattle.ax_expressions.specs.declared.words.FilterKeyword.TheVariants as Word
use Rattle.ax_expressions.proofs.Unique.{expr_free, expr_never}
use Rattle.ax_expressions.proofs.Arms.{scatter, word_stops}

first_same : (a b : List ℕ) (x y : Texts) → a ∷ x ≡ b ∷ y → a ≡ b
first_same a b x y e = cc

one_free : (P : List ℕ → Type 0) → PrefixFree (One P)
one_free P a b x y l m e = l.1 ∙ ap (λ w. w ∷ []) (first_same l.0 m.0 x y (sym (ap (λ t. t ++ x) l.1) ∙ e ∙ ap (λ t. t ++ y) m.1)) ∙ sym m.1

word_free : (w : List ℕ) → PrefixFree (Word w)
word_free w a b x y l m e = l ∙ sym m

-- ---- comparisons

due_int : One IsIntText (decimal 0 ∷ [])
due_int = (decimal 0, refl, (pos 0, lit< tt, refl))

pub op_lacks : (stopped : Stopped) (old new : Texts) → Stops stopped (One IsOpText) old new → Stops stopped IsOpAndInt old new
op_lacks = first_lacks (One IsOpText) (One IsIntText) (decimal 0 ∷ []) due_int

pub int_lacks : (stopped : Stopped) (old mid new : Texts) (op : Op) → One IsOpText (op_text op ∷ []) → old ≡ (op_text op ∷ []) ++ mid → Stops stopped (One IsIntText) mid new → Stops stopped IsOpAndInt old new
int_lacks stopped old mid new op l e s = second_lacks (One IsOpText) (One IsIntText) (one_free IsOpText) stopped old (op_text op ∷ []) mid new l e s

pub ruleset op_and_int_ways = (op_lacks, int_lacks)

due_comparison : IsOpAndInt (codes "=" ∷ decimal 0 ∷ [])
due_comparison = (codes "=" ∷ [], decimal 0 ∷ [], refl, (codes "=", refl, (Equal, refl)), due_int)

pub path_lacks : (stopped : Stopped) (old new : Texts) → Stops stopped (One IsPathText) old new → Stops stopped IsComparison old new
path_lacks = first_lacks (One IsPathText) IsOpAndInt (codes "=" ∷ decimal 0 ∷ []) due_comparison

pub rest_lacks : (stopped : Stopped) (old mid new : Texts) (path : FullPath) → IsPath path → old ≡ (path_word path ∷ []) ++ mid → Stops stopped IsOpAndInt mid new → Stops stopped IsComparison old new
rest_lacks stopped old mid new path i e s = second_lacks (One IsPathText) IsOpAndInt (one_free IsPathText) stopped old (path_word path ∷ []) mid new (path_word path, refl, (path, i, refl)) e s

pub ruleset comparison_ways = (path_lacks, rest_lacks)

-- ---- lists

abbrev tree_of : List Expr → ExprsTree
tree_of es = exprs_of (map expr_tree es)

pub record ReadSoFar (old now : Texts) (made : List Expr) : Type 0 where
  pub form : AllInForm (tree_of made)
  pub split : old ≡ exprs_texts (tree_of made) ++ now

pub none_so_far : (old now : Texts) (made : List Expr) → made ≡ [] → now ≡ old → ReadSoFar old now made
none_so_far old now made e f = subst (λ m. ReadSoFar old now m) (sym e) (record { form = tt; split = sym f })

more_in_form : (es : List Expr) (e : Expr) → AllInForm (tree_of es) → InForm (expr_tree e) → AllInForm (tree_of (es ++ e ∷ []))
more_in_form [] e all one = (one, tt)
more_in_form (x ∷ es) e all one = (all.0, more_in_form es e all.1 one)

more_texts : (es : List Expr) (e : Expr) → exprs_texts (tree_of (es ++ e ∷ [])) ≡ exprs_texts (tree_of es) ++ expr_texts (expr_tree e)
more_texts [] e = append-nil _
more_texts (x ∷ es) e = ap (λ t. expr_texts (expr_tree x) ++ t) (more_texts es e) ∙ sym (append_assoc (expr_texts (expr_tree x)) (exprs_texts (tree_of es)) (expr_texts (expr_tree e)))

pub one_more : (old now mid new : Texts) (made more : List Expr) (e : Expr) → ReadSoFar old now made → mid ≡ now → InForm (expr_tree e) × (mid ≡ expr_texts (expr_tree e) ++ new) → more ≡ made ++ e ∷ [] → ReadSoFar old new more
one_more old now mid new made more e r same one is = subst (λ m. ReadSoFar old new m) (sym is) (record {
  form = more_in_form made e r.form one.0;
  split = r.split ∙ ap (λ t. exprs_texts (tree_of made) ++ t) (sym same ∙ one.1) ∙ sym (append_assoc (exprs_texts (tree_of made)) (expr_texts (expr_tree e)) new) ∙ ap (λ t. t ++ new) (sym (more_texts made e));
})

-- the old texts, as the members read and what is left
members_first : (old now : Texts) (made : List Expr) (r : ReadSoFar old now made) → old ≡ joined (scatter (tree_of made) r.form).0 ++ now
members_first old now made r = r.split ∙ ap (λ t. t ++ now) (sym (scatter (tree_of made) r.form).2)

pub list_cut : (old now new : Texts) (made : List Expr) → ReadSoFar old now made → now ≡ [] → new ≡ [] → StopsAt (Closed IsExpr closing) old new
list_cut old now new made r e f =
    let s = scatter (tree_of made) r.form in
    subst (λ t. StopsAt (Closed IsExpr closing) old t) (sym f) (subst (λ t. StopsAt (Closed IsExpr closing) t []) (sym (members_first old now made r ∙ ap (λ t. joined s.0 ++ t) e)) (closed_cut IsExpr closing s.0 expr_free expr_never s.1))

pub list_stops : (stopped : Stopped) (old now mid new : Texts) (made : List Expr) → ReadSoFar old now made → mid ≡ now → IsNotFirst (λ text. text ≡ closing) now → Stops stopped IsExpr mid new → Stops stopped (Closed IsExpr closing) old new
list_stops Bad old now mid new made r same first s =
    let m = scatter (tree_of made) r.form in
    subst (λ t. StopsAt (Closed IsExpr closing) t new) (sym (members_first old now made r)) (closed_stops IsExpr closing m.0 now new expr_free expr_never m.1 first (subst (λ t. StopsAt IsExpr t new) same s))
list_stops OutOfMemory old now mid new made r same first s = tt

pub list_ends : (old now new : Texts) (made : List Expr) → ReadSoFar old now made → now ≡ closing ∷ new → AllInForm (tree_of made) × (old ≡ (exprs_texts (tree_of made) ++ closing ∷ []) ++ new)
list_ends old now new made r e = (r.form, r.split ∙ ap (λ t. exprs_texts (tree_of made) ++ t) e ∙ sym (append_assoc (exprs_texts (tree_of made)) (closing ∷ []) new))

pub ruleset exprs_ways = (none_so_far, one_more, list_cut, list_stops, list_ends)

-- the tokens end before the brace that closes the list
pub list_cut_short : (stopped : Stopped) (old now new : Texts) (made : List Expr) → ReadSoFar old now made → (stopped ≡ Bad) × (now ≡ []) × (new ≡ []) → Stops stopped (Closed IsExpr closing) old new
list_cut_short stopped old now new made r e = subst (λ s. Stops s (Closed IsExpr closing) old new) (sym e.0) (list_cut old now new made r e.1 e.2)

-- ---- braces

pub open_lacks : (stopped : Stopped) (old new : Texts) → Stops stopped (Word opening) old new → Stops stopped IsBraced old new
open_lacks = first_lacks (Word opening) (Closed IsExpr closing) (closing ∷ []) ([], tt, refl)

pub list_lacks : (stopped : Stopped) (old mid new : Texts) → old ≡ (opening ∷ []) ++ mid → Stops stopped (Closed IsExpr closing) mid new → Stops stopped IsBraced old new
list_lacks stopped old mid new e s = second_lacks (Word opening) (Closed IsExpr closing) (word_free opening) stopped old (opening ∷ []) mid new refl e s

pub ruleset braced_ways = (open_lacks, list_lacks)

-- what the list gives, with the brace before it
pub braced_gives : (result : Result (List Expr) Stopped) (old mid new : Texts) → old ≡ (opening ∷ []) ++ mid → Gives (λ es. AllInForm (tree_of es)) (λ es. exprs_texts (tree_of es) ++ closing ∷ []) (Closed IsExpr closing) result mid new
    → Gives (λ es. AllInForm (tree_of es)) (λ es. opening ∷ (exprs_texts (tree_of es) ++ closing ∷ [])) IsBraced result old new
braced_gives (Ok es) old mid new e h = (h.0, e ∙ ap (λ t. opening ∷ t) h.1)
braced_gives (Err stopped) old mid new e h = list_lacks stopped old mid new e h

pub inner_lacks : (stopped : Stopped) (old new : Texts) → Stops stopped IsExpr old new → Stops stopped IsClosed old new
inner_lacks = first_lacks IsExpr (Word closing) (closing ∷ []) refl

pub close_lacks : (stopped : Stopped) (old mid new : Texts) (e : ExprTree) → InForm e → old ≡ expr_texts e ++ mid → Stops stopped (Word closing) mid new → Stops stopped IsClosed old new
close_lacks stopped old mid new e i h s = second_lacks IsExpr (Word closing) expr_free stopped old (expr_texts e) mid new (e, i, refl) h s

pub closed_split : (old mid new : Texts) (e : ExprTree) → old ≡ expr_texts e ++ mid → mid ≡ (closing ∷ []) ++ new → old ≡ (expr_texts e ++ closing ∷ []) ++ new
closed_split old mid new e h k = h ∙ ap (λ t. expr_texts e ++ t) k ∙ sym (append_assoc (expr_texts e) (closing ∷ []) new)

pub ruleset closed_ways = (inner_lacks, close_lacks, closed_split)

due_closed : IsClosed (keyword_text Word.All ∷ opening ∷ closing ∷ closing ∷ [])
due_closed = (keyword_text Word.All ∷ opening ∷ closing ∷ [], closing ∷ [], refl, (all_of no_exprs, tt, refl), refl)

pub brace_lacks : (stopped : Stopped) (old new : Texts) → Stops stopped (Word opening) old new → Stops stopped IsNegated old new
brace_lacks = first_lacks (Word opening) IsClosed (keyword_text Word.All ∷ opening ∷ closing ∷ closing ∷ []) due_closed

pub closed_lacks : (stopped : Stopped) (old mid new : Texts) → old ≡ (opening ∷ []) ++ mid → Stops stopped IsClosed mid new → Stops stopped IsNegated old new
closed_lacks stopped old mid new e s = second_lacks (Word opening) IsClosed (word_free opening) stopped old (opening ∷ []) mid new refl e s

pub ruleset negated_ways = (brace_lacks, closed_lacks)

-- what the expression and the brace after it give, with the brace before them
pub negated_gives : (result : Result Expr Stopped) (old mid new : Texts) → old ≡ (opening ∷ []) ++ mid → Gives (λ e. InForm (expr_tree e)) (λ e. expr_texts (expr_tree e) ++ closing ∷ []) IsClosed result mid new
    → Gives (λ e. InForm (expr_tree e)) (λ e. opening ∷ (expr_texts (expr_tree e) ++ closing ∷ [])) IsNegated result old new
negated_gives (Ok x) old mid new e h = (h.0, e ∙ ap (λ t. opening ∷ t) h.1)
negated_gives (Err stopped) old mid new e h = closed_lacks stopped old mid new e h

-- ---- expressions

pub no_word : (stopped : Stopped) (old : Texts) → (stopped ≡ Bad) × IsNotFirst IsKeyword old → Stops stopped IsExpr old old
no_word stopped old n = subst (λ s. Stops s IsExpr old old) (sym n.0) (word_stops old n.1)

-- the texts of a variant are its first word and what stood after it
pub arm_read : (e f : ExprTree) (word : List ℕ) (t old rest new : Texts) → e ≡ f → InForm f → expr_texts f ≡ word ∷ t → old ≡ word ∷ rest → rest ≡ t ++ new → InForm e × (old ≡ expr_texts e ++ new)
arm_read e f word t old rest new same i h s r = (subst InForm (sym same) i, s ∙ ap (λ x. word ∷ x) r ∙ ap (λ x. x ++ new) (sym (ap expr_texts same ∙ h)))
