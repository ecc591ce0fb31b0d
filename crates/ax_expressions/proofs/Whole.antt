-- All of the tokens.
use Rattle.std.proofs.Common.{◌≡◌, ℕ, ◌-◌, ◌<◌, ◌≤◌, List, [], ◌∷◌, ◌++◌, length, refl, sym, ◌∙◌, ap, subst, append-nil, arith}
use Rattle.std.proofs.lemmas.List.{length-map}
use Rattle.ax_tokens.specs.PlainToken.{PlainToken}
use Rattle.ax_tokens.specs.Stopping.{Texts, StopsAt, texts_of}
use Rattle.ax_tokens.specs.FirstBad.{FirstBad}
use Rattle.ax_tokens.proofs.Bad.{stops_bad, trails_bad, first_bad_once}
use Rattle.ax_format.specs.Specification.{SpecTree}
use Rattle.ax_expressions.specs.Faults.{PathsLead, IsFault}
use Rattle.ax_expressions.specs.Leading.{IsPathFault}
use Rattle.ax_expressions.specs.FilterTokens.{IsFilterOf}
use Rattle.ax_expressions.specs.declared.error.FilterError.{FilterError}
use Rattle.ax_expressions.specs.declared.error.FilterError.TheVariants.{BadToken, UnknownPath, NotAnElement, OutOfMemory}
use Rattle.ax_expressions.specs.Answers.{Spells}
use Rattle.ax_expressions.specs.Spelling.{InForm, expr_texts, IsExpr}
use Rattle.ax_expressions.specs.Tree.{ExprTree}
use Rattle.ax_expressions.proofs.Unique.{expr_free}

abbrev BadBefore : List PlainToken → Texts → Type 0
BadBefore tokens new = FirstBad IsExpr (texts_of tokens) (length (texts_of tokens) - length new)

-- an expression, and tokens after it
pub trails : (tokens : List PlainToken) (old new : Texts) (e : ExprTree) → old ≡ texts_of tokens → InForm e × (old ≡ expr_texts e ++ new) → 0 < length new → BadBefore tokens new
trails tokens old new e same h lt = trails_bad IsExpr (texts_of tokens) (expr_texts e) new expr_free (e, h.0, refl) (sym same ∙ h.1) lt

pub stopped : (tokens : List PlainToken) (old new : Texts) → old ≡ texts_of tokens → StopsAt IsExpr old new → BadBefore tokens new
stopped tokens old new e s = stops_bad IsExpr (texts_of tokens) new (subst (λ t. StopsAt IsExpr t new) e s)

is_empty : (x : Texts) → length x ≤ 0 → x ≡ []
is_empty [] lt = refl
is_empty (t ∷ x) lt = absurd (omega (arith, lt))

pub spells : (tokens : List PlainToken) (old new : Texts) (e : ExprTree) → old ≡ texts_of tokens → InForm e × (old ≡ expr_texts e ++ new) → length new ≤ 0 → Spells tokens e
spells tokens old new e same h lt = record { in_form = h.0; texts = sym same ∙ h.1 ∙ ap (λ x. expr_texts e ++ x) (is_empty new lt) ∙ append-nil (expr_texts e) }

pub count_is : (tokens : List PlainToken) (new : Texts) (a b : ℕ) → a ≡ length tokens → b ≡ length new → BadBefore tokens new → FirstBad IsExpr (texts_of tokens) (a - b)
count_is tokens new a b e f h = subst (λ n. FirstBad IsExpr (texts_of tokens) n) (omega (arith, e, f, length-map tokens (λ t. t.text))) h

-- ---- filters

pub count_within : (tokens : List PlainToken) (token : ℕ) → FirstBad IsExpr (texts_of tokens) token → token ≤ length tokens
count_within tokens token bad = omega (arith, bad.within, length-map tokens (λ t. t.text))

pub over : (catalogue : List SpecTree) (tokens : List PlainToken) (e : ExprTree) (count : ℕ) → Spells tokens e → count ≡ length tokens → PathsLead catalogue (texts_of tokens) count → IsFilterOf catalogue tokens e
over catalogue tokens e count s is lead = record { spells = s; lead = subst (PathsLead catalogue (texts_of tokens)) is lead }

no_bad : (tokens : List PlainToken) (e : ExprTree) (bad : ℕ) → Spells tokens e → FirstBad IsExpr (texts_of tokens) bad → ⊥
no_bad tokens e bad s b = b.no_member (e, s.in_form, s.texts)

-- a fault of a path, where the tokens spell an expression
pub fault_in : (catalogue : List SpecTree) (tokens : List PlainToken) (e : ExprTree) (count : ℕ) (error : FilterError) → Spells tokens e → IsPathFault catalogue (texts_of tokens) count error → IsFault catalogue (texts_of tokens) error
fault_in catalogue tokens e count (BadToken token) s f = absurd f
fault_in catalogue tokens e count (UnknownPath token) s f = (f.1, f.2, λ bad b. absurd (no_bad tokens e bad s b))
fault_in catalogue tokens e count (NotAnElement token) s f = (f.1, f.2, λ bad b. absurd (no_bad tokens e bad s b))
fault_in catalogue tokens e count OutOfMemory s f = tt

-- a fault of a path before the first bad token
pub fault_before : (catalogue : List SpecTree) (texts : Texts) (token : ℕ) (error : FilterError) → FirstBad IsExpr texts token → IsPathFault catalogue texts token error → IsFault catalogue texts error
fault_before catalogue texts token (BadToken number) b f = absurd f
fault_before catalogue texts token (UnknownPath number) b f = (f.1, f.2, λ bad other. subst (λ n. number < n) (first_bad_once IsExpr texts token bad b other) f.0)
fault_before catalogue texts token (NotAnElement number) b f = (f.1, f.2, λ bad other. subst (λ n. number < n) (first_bad_once IsExpr texts token bad b other) f.0)
fault_before catalogue texts token OutOfMemory b f = tt

pub ruleset filters = (count_within, over, fault_in, fault_before)
