-- Tokens spell one expression, or have one fault.
use Rattle.std.proofs.Common.{◌≡◌, ℕ, ◌<◌, ◌≤◌, true, false, leb, List, [], length, ◌⊎◌, inl, inr, refl, sym, ◌∙◌, ap, subst, arith, append-nil}
use Rattle.std.proofs.lemmas.Bool.Decides.{leb_tells}
use Rattle.std.proofs.lemmas.List.{length-map}
use Rattle.std.proofs.lemmas.Option.{slice_get_within}
use Rattle.std.proofs.Math.Nat.{eq-or-lt_of_le}
use Rattle.ax_format.specs.Specification.{SpecTree}
use Rattle.ax_tokens.specs.Stopping.{Texts, texts_of}
use Rattle.ax_tokens.proofs.Bad.{first_bad_once}
use Rattle.ax_tokens.specs.PlainToken.{PlainToken}
use Rattle.ax_expressions.specs.Answers.{Spells}
use Rattle.ax_expressions.specs.Faults.{IsUnknown, IsUnknownAt, IsNoElementAt, PathsLead, IsFault, TokenIs}
use Rattle.ax_expressions.specs.FilterTokens.{IsFilterOf}
use Rattle.ax_expressions.specs.Spelling.{expr_texts, IsExpr}
use Rattle.ax_expressions.specs.Tree.{ExprTree}
use Rattle.ax_expressions.specs.declared.error.FilterError.{FilterError}
use Rattle.ax_expressions.specs.declared.error.FilterError.TheVariants.{BadToken, UnknownPath, NotAnElement, OutOfMemory}
use Rattle.ax_expressions.proofs.Leads.{other_not_unknown, same_text}
use Rattle.ax_expressions.proofs.Unique.{same_expr}

pub one_expression : (tokens : List PlainToken) (e other : ExprTree) → Spells tokens e → Spells tokens other → e ≡ other
one_expression tokens e other s t = (same_expr e other s.in_form t.in_form [] [] (append-nil (expr_texts e) ∙ sym s.texts ∙ t.texts ∙ sym (append-nil (expr_texts other)))).0

-- ---- two faults

abbrev Order : ℕ → ℕ → Type 0
Order a b = (a ≡ b) ⊎ ((a < b) ⊎ (b < a))

of_equal_or_less : (a b : ℕ) → (a ≡ b) ⊎ (a < b) → Order a b
of_equal_or_less a b (inl e) = inl e
of_equal_or_less a b (inr lt) = inr (inl lt)

of_test : (a b : ℕ) → ((leb a b ≡ true) × (a ≤ b)) ⊎ ((leb a b ≡ false) × (b < a)) → Order a b
of_test a b (inl le) = of_equal_or_less a b (eq-or-lt_of_le le.1)
of_test a b (inr gt) = inr (inr gt.1)

order : (a b : ℕ) → Order a b
order a b = of_test a b (leb_tells a b)

-- at one token a path can't be unknown and lead to a place
not_both : (catalogue : List SpecTree) (texts : Texts) (number : ℕ) → IsUnknownAt catalogue texts number → IsNoElementAt catalogue texts number → ⊥
not_both catalogue texts number u o = other_not_unknown catalogue o.0 o.2 (subst (IsUnknown catalogue) (same_text texts number u.0 o.0 u.1 o.1) u.2)

same_unknown : (catalogue : List SpecTree) (texts : Texts) (x y : ℕ) → Order x y → IsUnknownAt catalogue texts x → PathsLead catalogue texts x → IsUnknownAt catalogue texts y → PathsLead catalogue texts y → x ≡ y
same_unknown catalogue texts x y (inl e) a before b after = e
same_unknown catalogue texts x y (inr (inl lt)) a before b after = absurd ((after x lt).0 a)
same_unknown catalogue texts x y (inr (inr gt)) a before b after = absurd ((before y gt).0 b)

same_other : (catalogue : List SpecTree) (texts : Texts) (x y : ℕ) → Order x y → IsNoElementAt catalogue texts x → PathsLead catalogue texts x → IsNoElementAt catalogue texts y → PathsLead catalogue texts y → x ≡ y
same_other catalogue texts x y (inl e) a before b after = e
same_other catalogue texts x y (inr (inl lt)) a before b after = absurd ((after x lt).1 a)
same_other catalogue texts x y (inr (inr gt)) a before b after = absurd ((before y gt).1 b)

different : (catalogue : List SpecTree) (texts : Texts) (x y : ℕ) → Order x y → IsUnknownAt catalogue texts x → PathsLead catalogue texts x → IsNoElementAt catalogue texts y → PathsLead catalogue texts y → ⊥
different catalogue texts x y (inl e) a before b after = not_both catalogue texts y (subst (IsUnknownAt catalogue texts) e a) b
different catalogue texts x y (inr (inl lt)) a before b after = (after x lt).0 a
different catalogue texts x y (inr (inr gt)) a before b after = (before y gt).1 b

abbrev Same : FilterError → FilterError → Type 0
Same a b = (a ≡ b) ⊎ ((a ≡ OutOfMemory) ⊎ (b ≡ OutOfMemory))

pub one_fault : (catalogue : List SpecTree) (tokens : List PlainToken) (a b : FilterError) → IsFault catalogue (texts_of tokens) a → IsFault catalogue (texts_of tokens) b → Same a b
one_fault catalogue tokens OutOfMemory b f g = inr (inl refl)
one_fault catalogue tokens (BadToken x) OutOfMemory f g = inr (inr refl)
one_fault catalogue tokens (UnknownPath x) OutOfMemory f g = inr (inr refl)
one_fault catalogue tokens (NotAnElement x) OutOfMemory f g = inr (inr refl)
one_fault catalogue tokens (BadToken x) (BadToken y) f g = inl (ap BadToken (first_bad_once IsExpr (texts_of tokens) x y f.0 g.0))
one_fault catalogue tokens (BadToken x) (UnknownPath y) f g = absurd ((f.1 y (g.2 x f.0)).0 g.0)
one_fault catalogue tokens (BadToken x) (NotAnElement y) f g = absurd ((f.1 y (g.2 x f.0)).1 g.0)
one_fault catalogue tokens (UnknownPath x) (BadToken y) f g = absurd ((g.1 x (f.2 y g.0)).0 f.0)
one_fault catalogue tokens (UnknownPath x) (UnknownPath y) f g = inl (ap UnknownPath (same_unknown catalogue (texts_of tokens) x y (order x y) f.0 f.1 g.0 g.1))
one_fault catalogue tokens (UnknownPath x) (NotAnElement y) f g = absurd (different catalogue (texts_of tokens) x y (order x y) f.0 f.1 g.0 g.1)
one_fault catalogue tokens (NotAnElement x) (BadToken y) f g = absurd ((g.1 x (f.2 y g.0)).1 f.0)
one_fault catalogue tokens (NotAnElement x) (UnknownPath y) f g = absurd (different catalogue (texts_of tokens) y x (order y x) g.0 g.1 f.0 f.1)
one_fault catalogue tokens (NotAnElement x) (NotAnElement y) f g = inl (ap NotAnElement (same_other catalogue (texts_of tokens) x y (order x y) f.0 f.1 g.0 g.1))

-- ---- a fault, and a filter

token_within : (tokens : List PlainToken) (number : ℕ) (text : List ℕ) → TokenIs (texts_of tokens) number text → number < length tokens
token_within tokens number text e = omega (arith, slice_get_within (texts_of tokens) number text e, length-map tokens (λ t. t.text))

pub no_fault : (catalogue : List SpecTree) (tokens : List PlainToken) (e : ExprTree) (error : FilterError) → IsFilterOf catalogue tokens e → IsFault catalogue (texts_of tokens) error → error ≡ OutOfMemory
no_fault catalogue tokens e (BadToken token) f g = absurd (g.0.no_member (e, f.spells.in_form, f.spells.texts))
no_fault catalogue tokens e (UnknownPath token) f g = absurd ((f.lead token (token_within tokens token g.0.0 g.0.1)).0 g.0)
no_fault catalogue tokens e (NotAnElement token) f g = absurd ((f.lead token (token_within tokens token g.0.0 g.0.1)).1 g.0)
no_fault catalogue tokens e OutOfMemory f g = refl
