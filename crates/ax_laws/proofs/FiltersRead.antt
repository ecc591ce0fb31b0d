-- A text is a filter over a catalogue, or is refused.
use Rattle.std.proofs.Common.{◌≡◌, ◌≢◌, ℕ, zero, suc, ◌<◌, ◌≤◌, ◌⊎◌, inl, inr, List, length, codes, Option, Some, None, slice_get, refl, sym, ◌∙◌, ap, subst, arith}
use Rattle.std.proofs.lemmas.Bool.{cases_lt}
use Rattle.ax_expressions.proofs.FullPaths.{same_path}
use Rattle.ax_expressions.proofs.Whole.{fault_in, fault_before}
use Rattle.ax_expressions.specs.Answers.{Spells}
use Rattle.ax_expressions.specs.Faults.{place_in, element_in, IsUnknown, IsNoElement, TokenIs, IsUnknownAt, IsAfterIs, IsNoElementAt, PathsLead, IsFault}
use Rattle.ax_expressions.specs.Leading.{IsPathFault}
use Rattle.ax_expressions.specs.Spelling.{IsExpr}
use Rattle.ax_expressions.specs.Texts.{deepest, IsFilterText, IsRefused}
use Rattle.ax_expressions.specs.Tree.{ExprTree}
use Rattle.ax_expressions.specs.Words.{IsPathText}
use Rattle.ax_expressions.specs.declared.error.FilterError.{FilterError}
use Rattle.ax_expressions.specs.declared.error.FilterError.TheVariants as FilterErrorOf
use Rattle.ax_expressions.specs.declared.error.FilterError.TheVariants.{UnknownPath, NotAnElement, OutOfMemory}
use Rattle.ax_expressions.specs.declared.stop.FilterFault.{FilterFault}
use Rattle.ax_expressions.specs.declared.stop.FilterFault.TheVariants as FaultOf
use Rattle.ax_format.specs.Specification.{SpecTree}
use Rattle.ax_format.specs.Tree.{FixedTree}
use Rattle.ax_format.specs.declared.place.Place.{Place}
use Rattle.ax_tokens.proofs.Once.{lexed_or_faulty}
use Rattle.ax_tokens.specs.Faults.{HasBadByte, IsTooDeep}
use Rattle.ax_tokens.specs.FirstBad.{FirstBad}
use Rattle.ax_tokens.specs.Lexing.{AreTokensOf}
use Rattle.ax_tokens.specs.PlainToken.{PlainToken}
use Rattle.ax_tokens.specs.Stopping.{Texts, texts_of}
use Rattle.ax_laws.proofs.ExpressionsRead.{ExprOrBad, path_or_not, expr_or_bad}
use Rattle.ax_laws.proofs.Readers.{IsOrNot, same_or_not}

some_same : (a b : List ℕ) → Some a ≡ Some b → a ≡ b
some_same a b e = cc

-- ---- where a text leads

module _ (catalogue : List SpecTree) (text : List ℕ) where
  unknown_or_not : IsOrNot (IsUnknown catalogue text)
  unknown_or_not = by (path_or_not text)
    where
      by_place : (p : IsPathText text) (place : Option Place) → place_in catalogue p.0 ≡ place → IsOrNot (IsUnknown catalogue text)
      by_place p None e = inl (record { path = p.0; form = p.1; spelled = p.2; nowhere = e })
      by_place p (Some place) e = inr (λ u. absurd (
          let same : u.path ≡ p.0 = same_path u.path p.0 u.form p.1 (sym u.spelled ∙ p.2) in
          let bad : None ≡ Some place = sym u.nowhere ∙ ap (place_in catalogue) same ∙ e in cc))

      by : IsOrNot (IsPathText text) → IsOrNot (IsUnknown catalogue text)
      by (inl p) = by_place p (place_in catalogue p.0) refl
      by (inr none) = inr (λ u. none (u.path, u.form, u.spelled))

  other_or_not : IsOrNot (IsNoElement catalogue text)
  other_or_not = by (path_or_not text)
    where
      by_element : (p : IsPathText text) (place : Option Place) → place_in catalogue p.0 ≡ place → (fixed : Option FixedTree) → element_in catalogue p.0 ≡ fixed → IsOrNot (IsNoElement catalogue text)
      by_element p (Some place) e None f = inl (record { path = p.0; form = p.1; spelled = p.2; place = place; leads = e; other = f })
      by_element p None e fixed f = inr (λ u. absurd (
          let same : u.path ≡ p.0 = same_path u.path p.0 u.form p.1 (sym u.spelled ∙ p.2) in
          let bad : Some u.place ≡ None = sym u.leads ∙ ap (place_in catalogue) same ∙ e in cc))
      by_element p place e (Some one) f = inr (λ u. absurd (
          let same : u.path ≡ p.0 = same_path u.path p.0 u.form p.1 (sym u.spelled ∙ p.2) in
          let bad : None ≡ Some one = sym u.other ∙ ap (element_in catalogue) same ∙ f in cc))

      by : IsOrNot (IsPathText text) → IsOrNot (IsNoElement catalogue text)
      by (inl p) = by_element p (place_in catalogue p.0) refl (element_in catalogue p.0) refl
      by (inr none) = inr (λ u. none (u.path, u.form, u.spelled))

-- ---- at a token

module _ (catalogue : List SpecTree) (texts : Texts) where
  unknown_at_or_not : (number : ℕ) → IsOrNot (IsUnknownAt catalogue texts number)
  unknown_at_or_not number = by (slice_get texts number) refl
    where
      by_text : (text : List ℕ) → TokenIs texts number text → IsOrNot (IsUnknown catalogue text) → IsOrNot (IsUnknownAt catalogue texts number)
      by_text text e (inl u) = inl (text, e, u)
      by_text text e (inr none) = inr (λ h. let same : Some h.0 ≡ Some text = sym h.1 ∙ e in let t : h.0 ≡ text = some_same h.0 text same in none (subst (IsUnknown catalogue) t h.2))

      by : (o : Option (List ℕ)) → slice_get texts number ≡ o → IsOrNot (IsUnknownAt catalogue texts number)
      by None e = inr (λ h. absurd (let bad : Some h.0 ≡ None = sym h.1 ∙ e in cc))
      by (Some text) e = by_text text e (unknown_or_not catalogue text)

  after_is_or_not : (number : ℕ) → IsOrNot (IsAfterIs texts number)
  after_is_or_not zero = inr (λ h. let e = h.1 in absurd (omega (arith, e)))
  after_is_or_not (suc before) = by (slice_get texts before) refl
    where
      earlier : (h : IsAfterIs texts (suc before)) → h.0 ≡ before
      earlier h = let e = h.1 in omega (arith, e)

      by_text : (text : List ℕ) → TokenIs texts before text → IsOrNot (text ≡ codes "is") → IsOrNot (IsAfterIs texts (suc before))
      by_text text e (inl same) = inl (before, omega arith, e ∙ ap Some same)
      by_text text e (inr differs) = inr (λ h. let same : Some text ≡ Some (codes "is") = sym e ∙ sym (ap (slice_get texts) (earlier h)) ∙ h.2 in let t : text ≡ codes "is" = some_same text (codes "is") same in differs t)

      by : (o : Option (List ℕ)) → slice_get texts before ≡ o → IsOrNot (IsAfterIs texts (suc before))
      by None e = inr (λ h. absurd (let bad : None ≡ Some (codes "is") = sym e ∙ sym (ap (slice_get texts) (earlier h)) ∙ h.2 in cc))
      by (Some text) e = by_text text e (same_or_not text (codes "is"))

  other_at_or_not : (number : ℕ) → IsOrNot (IsNoElementAt catalogue texts number)
  other_at_or_not number = by (slice_get texts number) refl (after_is_or_not number)
    where
      by_text : (text : List ℕ) → TokenIs texts number text → IsAfterIs texts number → IsOrNot (IsNoElement catalogue text) → IsOrNot (IsNoElementAt catalogue texts number)
      by_text text e after (inl u) = inl (text, e, u, after)
      by_text text e after (inr none) = inr (λ h. let same : Some h.0 ≡ Some text = sym h.1 ∙ e in let t : h.0 ≡ text = some_same h.0 text same in none (subst (IsNoElement catalogue) t h.2))

      by : (o : Option (List ℕ)) → slice_get texts number ≡ o → IsOrNot (IsAfterIs texts number) → IsOrNot (IsNoElementAt catalogue texts number)
      by None e after = inr (λ h. absurd (let bad : Some h.0 ≡ None = sym h.1 ∙ e in cc))
      by (Some text) e (inl after) = by_text text e after (other_or_not catalogue text)
      by (Some text) e (inr none) = inr (λ h. none h.3)

  -- ---- the first path that leads nowhere

  abbrev LeadOrFault : ℕ → Type 0
  LeadOrFault end = PathsLead catalogue texts end ⊎ ((error : FilterError) × IsPathFault catalogue texts end error × (error ≢ OutOfMemory))

  lead_more : (n : ℕ) → PathsLead catalogue texts n → (IsUnknownAt catalogue texts n → ⊥) → (IsNoElementAt catalogue texts n → ⊥) → PathsLead catalogue texts (suc n)
  lead_more n lead u o number lt = by (cases_lt number n)
    where
      by : (number < n) ⊎ (n ≤ number) → (IsUnknownAt catalogue texts number → ⊥) × (IsNoElementAt catalogue texts number → ⊥)
      by (inl less) = lead number less
      by (inr le) = let same : n ≡ number = omega arith in subst (λ k. (IsUnknownAt catalogue texts k → ⊥) × (IsNoElementAt catalogue texts k → ⊥)) same (u, o)

  later : (n : ℕ) (error : FilterError) → IsPathFault catalogue texts n error → IsPathFault catalogue texts (suc n) error
  later n (UnknownPath token) h = (let lt = h.0 in omega (arith, lt), h.1, h.2)
  later n (NotAnElement token) h = (let lt = h.0 in omega (arith, lt), h.1, h.2)
  later n (FilterErrorOf.BadToken token) h = absurd h
  later n OutOfMemory h = tt

  one_more : (n : ℕ) → LeadOrFault n → IsOrNot (IsUnknownAt catalogue texts n) → IsOrNot (IsNoElementAt catalogue texts n) → LeadOrFault (suc n)
  one_more n (inr (error, h, never)) u o = inr (error, later n error h, never)
  one_more n (inl lead) (inl u) o = inr (UnknownPath n, (omega arith, u, lead), λ e. absurd cc)
  one_more n (inl lead) (inr none) (inl o) = inr (NotAnElement n, (omega arith, o, lead), λ e. absurd cc)
  one_more n (inl lead) (inr none) (inr nor) = inl (lead_more n lead none nor)

  lead_or_fault : (end : ℕ) → LeadOrFault end
  lead_or_fault zero = inl (λ number lt. absurd (omega arith))
  lead_or_fault (suc n) = one_more n (lead_or_fault n) (unknown_at_or_not n) (other_at_or_not n)

-- ---- texts

abbrev pub FilterOrRefused : List SpecTree → List ℕ → Type 0
FilterOrRefused catalogue text = ((e : ExprTree) × IsFilterText catalogue text e) ⊎ ((fault : FilterFault) × IsRefused catalogue text fault)

module _ (catalogue : List SpecTree) (text : List ℕ) where
  refused : (tokens : List PlainToken) → AreTokensOf text deepest tokens → (error : FilterError) → IsFault catalogue (texts_of tokens) error → error ≢ OutOfMemory → FilterOrRefused catalogue text
  refused tokens lexed (FilterErrorOf.BadToken token) h never = inr (FaultOf.BadToken token, record { tokens = tokens; lexed = lexed; fault = h })
  refused tokens lexed (UnknownPath token) h never = inr (FaultOf.UnknownPath token, record { tokens = tokens; lexed = lexed; fault = h })
  refused tokens lexed (NotAnElement token) h never = inr (FaultOf.NotAnElement token, record { tokens = tokens; lexed = lexed; fault = h })
  refused tokens lexed OutOfMemory h never = absurd (never refl)

  module _ (tokens : List PlainToken) (lexed : AreTokensOf text deepest tokens) where
    spelled : (e : ExprTree) → Spells tokens e → PathsLead catalogue (texts_of tokens) (length tokens) ⊎ ((error : FilterError) × IsPathFault catalogue (texts_of tokens) (length tokens) error × (error ≢ OutOfMemory)) → FilterOrRefused catalogue text
    spelled e s (inl lead) = inl (e, record { tokens = tokens; lexed = lexed; filter = record { spells = s; lead = lead } })
    spelled e s (inr (error, h, never)) = refused tokens lexed error (fault_in catalogue tokens e (length tokens) error s h) never

    bad : (token : ℕ) → FirstBad IsExpr (texts_of tokens) token → PathsLead catalogue (texts_of tokens) token ⊎ ((error : FilterError) × IsPathFault catalogue (texts_of tokens) token error × (error ≢ OutOfMemory)) → FilterOrRefused catalogue text
    bad token b (inl lead) = refused tokens lexed (FilterErrorOf.BadToken token) (b, lead) (λ e. absurd cc)
    bad token b (inr (error, h, never)) = refused tokens lexed error (fault_before catalogue (texts_of tokens) token error b h) never

    by_tokens : ExprOrBad tokens → FilterOrRefused catalogue text
    by_tokens (inl (e, s)) = spelled e s (lead_or_fault catalogue (texts_of tokens) (length tokens))
    by_tokens (inr (token, b)) = bad token b (lead_or_fault catalogue (texts_of tokens) token)

  by_octets : ((tokens : List PlainToken) × AreTokensOf text deepest tokens) ⊎ ((place : ℕ) × HasBadByte text deepest place) ⊎ ((number : ℕ) × IsTooDeep text deepest number) → FilterOrRefused catalogue text
  by_octets (inl (tokens, lexed)) = by_tokens tokens lexed (expr_or_bad tokens)
  by_octets (inr (inl (place, b))) = inr (FaultOf.BadByte place, b)
  by_octets (inr (inr (number, deep))) = inr (FaultOf.TooDeep number, deep)

  pub filter_or_refused : FilterOrRefused catalogue text
  filter_or_refused = by_octets (lexed_or_faulty text deepest)
