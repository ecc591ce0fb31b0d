-- What may stand after the first word of an expression.
use Rattle.std.proofs.Common.{◌≡◌, ℕ, false, List, [], ◌∷◌, ◌++◌, refl, sym, ◌∙◌, ap}
use Rattle.std.specs.Prelude.{bytes_eq}
use Rattle.std.specs.List.{AllByRecursion}
use Rattle.ax_tokens.specs.Stopping.{Texts, first_with, StopsAt, IsNotFirst, Stops, One, joined}
use Rattle.ax_tokens.specs.declared.stopped.Stopped.{Stopped}
use Rattle.ax_tokens.proofs.Stops.{after_lacks}
use Rattle.ax_expressions.specs.Words.{op_text, keyword_text, path_word, int_text, IsPathText, IsKeyword}
use Rattle.ax_expressions.specs.Tree.{ExprTree, all_of, any_of, not_of, present, compared, ExprsTree, no_exprs, expr_and}
use Rattle.ax_expressions.specs.Spelling.{opening, closing, expr_texts, exprs_texts, AllInForm, IsExpr}
use Rattle.ax_expressions.specs.Parts.{IsComparison, IsBraced, IsNegated}
use Rattle.ax_expressions.specs.declared.words.FilterKeyword.TheVariants as Word
use Rattle.ax_expressions.proofs.Unique.{apart, keyword_in}

-- ---- lists of expressions

pub gather : (members : List Texts) → AllByRecursion IsExpr members → (es : ExprsTree) × AllInForm es × (joined members ≡ exprs_texts es)
gather [] all = (no_exprs, tt, refl)
gather (m ∷ members) all =
    let g = gather members all.1 in
    (expr_and all.0.0 g.0, (all.0.1, g.1), ap (λ t. t ++ joined members) all.0.2 ∙ ap (λ t. expr_texts all.0.0 ++ t) g.2)

pub scatter : (es : ExprsTree) → AllInForm es → (members : List Texts) × AllByRecursion IsExpr members × (joined members ≡ exprs_texts es)
scatter no_exprs i = ([], tt, refl)
scatter (expr_and e es) i =
    let s = scatter es i.1 in
    (expr_texts e ∷ s.0, ((e, i.0, refl), s.1), ap (λ t. expr_texts e ++ t) s.2)

-- ---- after each word

following : (a b : List ℕ) (x y : Texts) → a ∷ x ≡ b ∷ y → x ≡ y
following a b x y e = cc

append-none : (x : Texts) → x ≡ x ++ []
append-none [] = refl
append-none (t ∷ x) = ap (λ y. t ∷ y) (append-none x)

-- another first word
other : (w : List ℕ) (t : Texts) (e : ExprTree) → bytes_eq w (keyword_text (keyword_in e)) ≡ false → w ∷ t ≡ expr_texts e → ⊥
other w t e n h = apart e [] (w ∷ t) n (h ∙ append-none (expr_texts e))

list_texts : (t : Texts) → IsBraced t → (es : ExprsTree) × AllInForm es × (t ≡ opening ∷ (exprs_texts es ++ closing ∷ []))
list_texts t (a, b, e, w, (members, all, f)) =
    let g = gather members all in
    (g.0, g.1, e ∙ ap (λ x. x ++ b) w ∙ ap (λ x. opening ∷ x) (f ∙ ap (λ x. x ++ closing ∷ []) g.2))

texts_list : (es : ExprsTree) (t : Texts) → AllInForm es → t ≡ opening ∷ (exprs_texts es ++ closing ∷ []) → IsBraced t
texts_list es t i h =
    let s = scatter es i in
    (opening ∷ [], exprs_texts es ++ closing ∷ [], h, refl, (s.0, s.1, ap (λ x. x ++ closing ∷ []) (sym s.2)))

pub all_f : (t : Texts) → IsBraced t → IsExpr (keyword_text Word.All ∷ t)
all_f t b = let l = list_texts t b in (all_of l.0, l.1, ap (λ x. keyword_text Word.All ∷ x) l.2)

all_g : (t : Texts) → IsExpr (keyword_text Word.All ∷ t) → IsBraced t
all_g t (all_of es, i, h) = texts_list es t i (following _ _ _ _ h)
all_g t (e, i, h) = absurd (other (keyword_text Word.All) t e refl h)

pub any_f : (t : Texts) → IsBraced t → IsExpr (keyword_text Word.Any ∷ t)
any_f t b = let l = list_texts t b in (any_of l.0, l.1, ap (λ x. keyword_text Word.Any ∷ x) l.2)

any_g : (t : Texts) → IsExpr (keyword_text Word.Any ∷ t) → IsBraced t
any_g t (any_of es, i, h) = texts_list es t i (following _ _ _ _ h)
any_g t (e, i, h) = absurd (other (keyword_text Word.Any) t e refl h)

pub not_f : (t : Texts) → IsNegated t → IsExpr (keyword_text Word.Not ∷ t)
not_f t (a, b, e, w, (c, d, f, (x, i, g), v)) =
    (not_of x, i, ap (λ y. keyword_text Word.Not ∷ y) (e ∙ ap (λ y. y ++ b) w ∙ ap (λ y. opening ∷ y) (f ∙ ap (λ y. y ++ d) g ∙ ap (λ y. expr_texts x ++ y) v)))

not_g : (t : Texts) → IsExpr (keyword_text Word.Not ∷ t) → IsNegated t
not_g t (not_of e, i, h) = (opening ∷ [], expr_texts e ++ closing ∷ [], following _ _ _ _ h, refl, (expr_texts e, closing ∷ [], refl, (e, i, refl), refl))
not_g t (e, i, h) = absurd (other (keyword_text Word.Not) t e refl h)

pub present_f : (t : Texts) → One IsPathText t → IsExpr (keyword_text Word.Present ∷ t)
present_f t (text, e, (path, i, w)) = (present path, i, ap (λ y. keyword_text Word.Present ∷ y) (e ∙ ap (λ y. y ∷ []) w))

present_g : (t : Texts) → IsExpr (keyword_text Word.Present ∷ t) → One IsPathText t
present_g t (present path, i, h) = (path_word path, following _ _ _ _ h, (path, i, refl))
present_g t (e, i, h) = absurd (other (keyword_text Word.Present) t e refl h)

pub is_f : (t : Texts) → IsComparison t → IsExpr (keyword_text Word.Is ∷ t)
is_f t (a, b, e, (word, f, (path, p, w)), (c, d, g, (text, h, (op, o)), (digits, k, (number, n, v)))) = (
  compared path op number,
  (p, n),
  ap (λ y. keyword_text Word.Is ∷ y)
      (e ∙ ap (λ y. y ++ b) (f ∙ ap (λ y. y ∷ []) w) ∙ ap (λ y. path_word path ∷ y) (g ∙ ap (λ y. y ++ d) (h ∙ ap (λ y. y ∷ []) o) ∙ ap (λ y. op_text op ∷ y) (k ∙ ap (λ y. y ∷ []) v))),
)

is_g : (t : Texts) → IsExpr (keyword_text Word.Is ∷ t) → IsComparison t
is_g t (compared path op number, i, h) = (
  path_word path ∷ [],
  op_text op ∷ int_text number ∷ [],
  following _ _ _ _ h,
  (path_word path, refl, (path, i.0, refl)),
  (op_text op ∷ [], int_text number ∷ [], refl, (op_text op, refl, (op, refl)), (int_text number, refl, (number, i.1, refl))),
)
is_g t (e, i, h) = absurd (other (keyword_text Word.Is) t e refl h)

-- ---- stops

nothing : (e : ExprTree) → [] ≡ expr_texts e → ⊥
nothing (all_of es) h = cc
nothing (any_of es) h = cc
nothing (not_of e) h = cc
nothing (present path) h = cc
nothing (compared path op number) h = cc

no_expr : IsExpr [] → ⊥
no_expr (e, i, h) = nothing e h

stops_after : (L : Texts → Type 0) (word : List ℕ) → ((t : Texts) → L t → IsExpr (word ∷ t)) → ((t : Texts) → IsExpr (word ∷ t) → L t) → (stopped : Stopped) (old rest new : Texts) → old ≡ word ∷ rest → Stops stopped L rest new
    → Stops stopped IsExpr old new
stops_after L word f g = after_lacks L IsExpr word no_expr f g

pub all_stops : (stopped : Stopped) (old rest new : Texts) → old ≡ keyword_text Word.All ∷ rest → Stops stopped IsBraced rest new → Stops stopped IsExpr old new
all_stops = stops_after IsBraced (keyword_text Word.All) all_f all_g

pub any_stops : (stopped : Stopped) (old rest new : Texts) → old ≡ keyword_text Word.Any ∷ rest → Stops stopped IsBraced rest new → Stops stopped IsExpr old new
any_stops = stops_after IsBraced (keyword_text Word.Any) any_f any_g

pub not_stops : (stopped : Stopped) (old rest new : Texts) → old ≡ keyword_text Word.Not ∷ rest → Stops stopped IsNegated rest new → Stops stopped IsExpr old new
not_stops = stops_after IsNegated (keyword_text Word.Not) not_f not_g

pub present_stops : (stopped : Stopped) (old rest new : Texts) → old ≡ keyword_text Word.Present ∷ rest → Stops stopped (One IsPathText) rest new → Stops stopped IsExpr old new
present_stops = stops_after (One IsPathText) (keyword_text Word.Present) present_f present_g

pub is_stops : (stopped : Stopped) (old rest new : Texts) → old ≡ keyword_text Word.Is ∷ rest → Stops stopped IsComparison rest new → Stops stopped IsExpr old new
is_stops = stops_after IsComparison (keyword_text Word.Is) is_f is_g

-- no first word
first_text : (a b : List ℕ) (x y : Texts) → a ∷ x ≡ b ∷ y → a ≡ b
first_text a b x y e = cc

expr_begins : (e : ExprTree) (following : Texts) → (t : Texts) × (expr_texts e ++ following ≡ keyword_text (keyword_in e) ∷ t)
expr_begins (all_of es) following = (_, refl)
expr_begins (any_of es) following = (_, refl)
expr_begins (not_of e) following = (_, refl)
expr_begins (present path) following = (_, refl)
expr_begins (compared path op number) following = (_, refl)

word_refuses : (texts : Texts) → IsNotFirst IsKeyword texts → (member following more : Texts) → IsExpr member → member ++ following ≡ first_with texts more → ⊥
word_refuses [] n member following more (e, i, p) h = let b = expr_begins e following in let bad : keyword_text (keyword_in e) ∷ b.0 ≡ [] = sym b.1 ∙ sym (ap (λ t. t ++ following) p) ∙ h in absurd cc
word_refuses (text ∷ texts) n member following more (e, i, p) h =
    let b = expr_begins e following in
    n (keyword_in e, first_text text _ more b.0 (sym h ∙ ap (λ t. t ++ following) p ∙ b.1))

pub word_stops : (texts : Texts) → IsNotFirst IsKeyword texts → StopsAt IsExpr texts texts
word_stops texts n = record {
  front = [];
  split = refl;
  rest = keyword_text Word.All ∷ opening ∷ closing ∷ [];
  begins = (all_of no_exprs, tt, refl);
  refuses = word_refuses texts n;
}
