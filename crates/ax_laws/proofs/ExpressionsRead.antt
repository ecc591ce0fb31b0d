-- Tokens spell an expression, or one of them is the first bad one.
use Rattle.std.proofs.Common.{◌≡◌, ℕ, zero, suc, ◌-◌, ◌<◌, ◌≤◌, ◌^◌, ◌==◌, ◌⊎◌, inl, inr, Bool, true, false, List, [], ◌∷◌, ◌++◌, length, codes, Option, Some, None, refl, sym, ◌∙◌, ap, subst, arith, lit<, lit≤, pos, negsuc}
use Rattle.std.specs.Prelude.{bytes_eq, decimal}
use Rattle.std.proofs.lemmas.Bool.{eqb-true}
use Rattle.std.proofs.lemmas.Slice.Eq.{bytes_eq-Decides}
use Rattle.ax_expressions.proofs.Arms.{all_f, any_f, not_f, present_f, is_f, all_stops, any_stops, not_stops, present_stops, is_stops, word_stops}
use Rattle.ax_expressions.proofs.Decimals.{bare_minus, minus_zero, no_digits}
use Rattle.ax_expressions.proofs.FullPaths.{split_word, no_category, no_names, is_path, is_word}
use Rattle.ax_expressions.proofs.Tokens.{op_back, op_split, keyword_refused}
use Rattle.ax_expressions.proofs.Unique.{expr_free, expr_never}
use Rattle.ax_expressions.proofs.Whole.{trails, stopped, spells}
use Rattle.ax_expressions.specs.Answers.{Spells}
use Rattle.ax_expressions.specs.Parts.{IsComparison, IsOpAndInt, IsBraced, IsClosed, IsNegated}
use Rattle.ax_expressions.specs.Spelling.{opening, closing, IsExpr}
use Rattle.ax_expressions.specs.Tree.{ExprTree, all_of, no_exprs}
use Rattle.ax_expressions.specs.Words.{op_text, op_of, keyword_of, IsPathText, IsOpText, IsIntText}
use Rattle.ax_expressions.specs.declared.expr.FullPath.{FullPath}
use Rattle.ax_expressions.specs.declared.expr.Op.{Op}
use Rattle.ax_expressions.specs.declared.expr.Op.TheVariants.{Equal}
use Rattle.ax_format.specs.Paths.{three_digits}
use Rattle.ax_tokens.specs.FirstBad.{FirstBad}
use Rattle.ax_tokens.specs.PlainToken.{PlainToken}
use Rattle.ax_tokens.specs.Stopping.{Texts, StopsAt, Word, One, Closed, texts_of}
use Rattle.ax_tokens.specs.declared.stopped.Stopped.TheVariants.{Bad}
use Rattle.ax_laws.proofs.NumbersRead.{IsNumberBelow, number_or_not}
use Rattle.ax_laws.proofs.PathsRead.{HasNames, HasCategory, names_in_or_not, category_or_not}
use Rattle.ax_laws.proofs.Readers.{IsOrNot, Reading, found, stops, one_reading, word_reading, one_free, word_free, then_reading, closed_reading}

-- ---- a path

pub path_or_not : (text : List ℕ) → IsOrNot (IsPathText text)
path_or_not (a ∷ b ∷ c ∷ x ∷ rest) = by (x == 47) refl (category_or_not a b c) (names_in_or_not rest)
  where
    slash_is : IsPathText (a ∷ b ∷ c ∷ x ∷ rest) → x ≡ 47
    slash_is (path, is, e) = let f = e ∙ split_word path is in cc

    with_slash : x ≡ 47 → IsOrNot (IsPathText (a ∷ b ∷ c ∷ 47 ∷ rest)) → IsOrNot (IsPathText (a ∷ b ∷ c ∷ x ∷ rest))
    with_slash e h = subst (λ y. IsOrNot (IsPathText (a ∷ b ∷ c ∷ y ∷ rest))) (sym e) h

    there : (n : ℕ) → n < 256 → a ∷ b ∷ c ∷ [] ≡ three_digits n → HasNames rest → IsPathText (a ∷ b ∷ c ∷ 47 ∷ rest)
    there n lt e (names, is) =
        let path : FullPath = record { category = n; names = names } in
        (path, is_path path rest lt is, is_word path a b c rest e is)

    by : (t : Bool) → (x == 47) ≡ t → IsOrNot (HasCategory (a ∷ b ∷ c ∷ [])) → IsOrNot (HasNames rest) → IsOrNot (IsPathText (a ∷ b ∷ c ∷ x ∷ rest))
    by false e category names = inr (λ p. absurd (let f : (47 == 47) ≡ false = ap (λ y. y == 47) (sym (slash_is p)) ∙ e in let g : ◌≡◌ {A = Bool} true false = f in cc))
    by true e (inl (n, lt, is)) (inl names) = with_slash (eqb-true x 47 e) (inl (there n lt is names))
    by true e (inr none) names = with_slash (eqb-true x 47 e) (inr (no_category a b c rest (λ n lt is. none (n, lt, is))))
    by true e category (inr none) = with_slash (eqb-true x 47 e) (inr (no_names a b c rest (λ names is. none (names, is))))
path_or_not text = inr (λ p. let size = ap length (p.2 ∙ split_word p.0 p.1) in absurd (omega (arith, size)))

-- ---- a comparison

pub op_or_not : (text : List ℕ) → IsOrNot (IsOpText text)
op_or_not text = by (op_of text) refl
  where
    by : (o : Option Op) → op_of text ≡ o → IsOrNot (IsOpText text)
    by (Some op) e = inl (op, (let s : text ∷ [] ≡ op_text op ∷ [] = op_split (text ∷ []) text op refl e in cc))
    by None e = inr (λ h. absurd (let bad : Some h.0 ≡ None = sym (op_back h.0) ∙ ap op_of (sym h.1) ∙ e in cc))

-- ---- a whole number

abbrev IsSize : List ℕ → Type 0
IsSize = IsNumberBelow (10 ^ 38)

size_or_not : (text : List ℕ) → IsOrNot (IsSize text)
size_or_not text = number_or_not (10 ^ 38) text (omega arith)

minus_or_not : (digits : List ℕ) → IsOrNot (IsSize digits) → IsOrNot (IsIntText (45 ∷ digits))
minus_or_not digits (inl (zero, lt, e)) = inr (minus_zero digits e)
minus_or_not digits (inl (suc n, lt, e)) = inl (negsuc n, lt, ap (λ ds. 45 ∷ ds) e)
minus_or_not digits (inr none) = inr (bare_minus digits (λ n lt e. none (n, lt, e)))

plain_or_not : (text : List ℕ) → ((digits : List ℕ) → text ≡ 45 ∷ digits → ⊥) → IsOrNot (IsSize text) → IsOrNot (IsIntText text)
plain_or_not text other (inl (n, lt, e)) = inl (pos n, lt, e)
plain_or_not text other (inr none) = inr (no_digits text other (λ n lt e. none (n, lt, e)))

pub int_or_not : (text : List ℕ) → IsOrNot (IsIntText text)
int_or_not [] = plain_or_not [] (λ digits e. absurd cc) (size_or_not [])
int_or_not (x ∷ digits) = by (x == 45) refl
  where
    first : (ds : List ℕ) → x ∷ digits ≡ 45 ∷ ds → x ≡ 45
    first ds e = cc

    by : (t : Bool) → (x == 45) ≡ t → IsOrNot (IsIntText (x ∷ digits))
    by true e = subst (λ y. IsOrNot (IsIntText (y ∷ digits))) (sym (eqb-true x 45 e)) (minus_or_not digits (size_or_not digits))
    by false e = plain_or_not (x ∷ digits) (λ ds h. absurd (let f : (45 == 45) ≡ false = ap (λ y. y == 45) (sym (first ds h)) ∙ e in let g : ◌≡◌ {A = Bool} true false = f in cc)) (size_or_not (x ∷ digits))

-- ---- expressions

path_reading : (old : Texts) → Reading (One IsPathText) old
path_reading old = one_reading IsPathText (codes "000/A") (record { category = 0; names = codes "A" ∷ [] }, record { category = lit< tt; some = lit< tt; named = ((lit≤ tt, lit≤ tt, refl), tt) }, refl) path_or_not old

comparison_reading : (old : Texts) → Reading IsComparison old
comparison_reading old =
    then_reading (One IsPathText) IsOpAndInt (codes "=" ∷ decimal 0 ∷ []) old (codes "=" ∷ [], decimal 0 ∷ [], refl, (codes "=", refl, (Equal, refl)), (decimal 0, refl, (pos 0, lit< tt, refl))) (one_free IsPathText) (path_reading old) (λ rest le.
    then_reading (One IsOpText) (One IsIntText) (decimal 0 ∷ []) rest (decimal 0, refl, (pos 0, lit< tt, refl)) (one_free IsOpText) (one_reading IsOpText (codes "=") (Equal, refl) op_or_not rest) (λ more less.
    one_reading IsIntText (decimal 0) (pos 0, lit< tt, refl) int_or_not more))

with_word : (L : Texts → Type 0) (word : List ℕ) → ((t : Texts) → L t → IsExpr (word ∷ t)) → ((old rest new : Texts) → old ≡ word ∷ rest → StopsAt L rest new → StopsAt IsExpr old new) → (rest : Texts) → Reading L rest → Reading IsExpr (word ∷ rest)
with_word L word f g rest (found front later e l) = found (word ∷ front) later (ap (λ t. word ∷ t) e) (f front l)
with_word L word f g rest (stops new s) = stops new (g (word ∷ rest) rest new refl s)

no_keyword : (text : List ℕ) → bytes_eq (codes "all") text ≡ false → bytes_eq (codes "any") text ≡ false → bytes_eq (codes "not") text ≡ false → bytes_eq (codes "present") text ≡ false → bytes_eq (codes "is") text ≡ false → keyword_of text ≡ None
unfolding keyword_of
no_keyword text a b c d e = rw (a, b, c, d, e) refl

some_expr : IsExpr (codes "all" ∷ opening ∷ closing ∷ [])
some_expr = (all_of no_exprs, tt, refl)

module _ (n : ℕ) (element : (old : Texts) → length old ≤ n → Reading IsExpr old) where
  braced_reading : (old : Texts) → length old ≤ n → Reading IsBraced old
  braced_reading old le = then_reading (Word opening) (Closed IsExpr closing) (closing ∷ []) old ([], tt, refl) (word_free opening) (word_reading opening old) (λ rest less. closed_reading IsExpr closing expr_free expr_never n element rest (omega (arith, le, less)))

  closed_one : (old : Texts) → length old ≤ n → Reading IsClosed old
  closed_one old le = then_reading IsExpr (Word closing) (closing ∷ []) old refl expr_free (element old le) (λ rest less. word_reading closing rest)

  negated_reading : (old : Texts) → length old ≤ n → Reading IsNegated old
  negated_reading old le =
      then_reading (Word opening) IsClosed (codes "all" ∷ opening ∷ closing ∷ closing ∷ []) old (codes "all" ∷ opening ∷ closing ∷ [], closing ∷ [], refl, some_expr, refl) (word_free opening) (word_reading opening old) (λ rest less. closed_one rest (omega (arith, le, less)))

  -- the text is this word, or the others decide
  pick : (word text : List ℕ) (rest : Texts) → Reading IsExpr (word ∷ rest) → (bytes_eq word text ≡ false → Reading IsExpr (text ∷ rest)) → Reading IsExpr (text ∷ rest)
  pick word text rest here others = by (bytes_eq word text) refl
    where
      by : (t : Bool) → bytes_eq word text ≡ t → Reading IsExpr (text ∷ rest)
      by true e = subst (λ w. Reading IsExpr (w ∷ rest)) ((bytes_eq-Decides word text).0 e) here
      by false e = others e

  by_word : (text : List ℕ) (rest : Texts) → length rest ≤ n → Reading IsExpr (text ∷ rest)
  by_word text rest le =
      pick (codes "all") text rest (with_word IsBraced (codes "all") all_f (all_stops Bad) rest (braced_reading rest le)) (λ a.
      pick (codes "any") text rest (with_word IsBraced (codes "any") any_f (any_stops Bad) rest (braced_reading rest le)) (λ b.
      pick (codes "not") text rest (with_word IsNegated (codes "not") not_f (not_stops Bad) rest (negated_reading rest le)) (λ c.
      pick (codes "present") text rest (with_word (One IsPathText) (codes "present") present_f (present_stops Bad) rest (path_reading rest)) (λ d.
      pick (codes "is") text rest (with_word IsComparison (codes "is") is_f (is_stops Bad) rest (comparison_reading rest)) (λ e.
      stops (text ∷ rest) (word_stops (text ∷ rest) (keyword_refused (text ∷ rest) text refl (no_keyword text a b c d e))))))))

expr_reading : (n : ℕ) (old : Texts) → length old ≤ n → Reading IsExpr old
expr_reading n [] le = stops [] (word_stops [] tt)
expr_reading zero (text ∷ rest) le = absurd (omega arith)
expr_reading (suc n) (text ∷ rest) le = by_word n (λ old less. expr_reading n old less) text rest (omega arith)

-- ---- tokens

abbrev pub ExprOrBad : List PlainToken → Type 0
ExprOrBad tokens = ((e : ExprTree) × Spells tokens e) ⊎ ((token : ℕ) × FirstBad IsExpr (texts_of tokens) token)

pub expr_or_bad : (tokens : List PlainToken) → ExprOrBad tokens
expr_or_bad tokens = by (expr_reading (length (texts_of tokens)) (texts_of tokens) (omega arith))
  where
    by_rest : (front rest : Texts) (x : IsExpr front) → texts_of tokens ≡ front ++ rest → ExprOrBad tokens
    by_rest front [] (x, i, h) e = inl (x, spells tokens (texts_of tokens) [] x refl (i, e ∙ ap (λ t. t ++ []) h) (omega arith))
    by_rest front (text ∷ rest) (x, i, h) e = inr (length (texts_of tokens) - length (text ∷ rest), trails tokens (texts_of tokens) (text ∷ rest) x refl (i, e ∙ ap (λ t. t ++ text ∷ rest) h) (omega arith))

    by : Reading IsExpr (texts_of tokens) → ExprOrBad tokens
    by (found front rest e l) = by_rest front rest l e
    by (stops new s) = inr (length (texts_of tokens) - length new, stopped tokens (texts_of tokens) new refl s)
