-- Where texts lead, and the walk over them.
use Rattle.std.proofs.Common.{◌≡◌, ℕ, zero, suc, ◌+◌, ◌<◌, ◌≤◌, List, [], ◌∷◌, Option, Some, None, option_and_then, slice_get, is_some, MatchOption, Bool, true, false, IsTrue, ◌↔◌, ◌⊎◌, inl, inr, refl, sym, ◌∙◌, ap, subst, arith, codes}
use Rattle.ax_check.specs.Places.{place_of, element_at}
use Rattle.ax_format.specs.Specification.{SpecTree, spec_of}
use Rattle.ax_format.specs.Tree.{FixedTree}
use Rattle.ax_format.specs.declared.place.Place.{Place}
use Rattle.ax_tokens.specs.Stopping.{Texts, texts_of}
use Rattle.ax_tokens.specs.PlainToken.{PlainToken}
use Rattle.std.proofs.lemmas.Bool.{both_ways}
use Rattle.std.proofs.Math.Nat.{eq-or-lt_of_le}
use Rattle.ax_expressions.specs.Faults.{place_in, element_in, IsUnknown, IsNoElement, TokenIs, IsUnknownAt, IsAfterIs, IsNoElementAt, PathsLead}
use Rattle.ax_expressions.specs.Leading.{IsElementPath, HasFault, HasNoFault, IsFirstFault}
use Rattle.ax_expressions.specs.Words.{IsPath, path_word, IsPathText}
use Rattle.ax_expressions.specs.declared.expr.FullPath.{FullPath}
use Rattle.ax_expressions.specs.declared.faults.PathFault.{PathFault}
use Rattle.ax_expressions.specs.declared.faults.PathFault.TheVariants.{Unknown, NoElement}
use Rattle.ax_expressions.proofs.FullPaths.{same_path}

-- ---- where a text leads

pub place_is : (catalogue : List SpecTree) (path : FullPath) (spec : SpecTree) → spec_of path.category catalogue ≡ Some spec → place_in catalogue path ≡ place_of spec path.names
place_is catalogue path spec e = ap (option_and_then (λ s. place_of s path.names)) e

pub element_is : (catalogue : List SpecTree) (path : FullPath) (spec : SpecTree) (place : Place) → spec_of path.category catalogue ≡ Some spec → place_of spec path.names ≡ Some place → element_in catalogue path ≡ element_at spec place
element_is catalogue path spec place e h = ap (option_and_then (λ s. option_and_then (element_at s) (place_of s path.names))) e ∙ ap (option_and_then (element_at spec)) h

pub no_file : (catalogue : List SpecTree) (path : FullPath) → spec_of path.category catalogue ≡ None → place_in catalogue path ≡ None
no_file catalogue path e = ap (option_and_then (λ s. place_of s path.names)) e

pub unknown_file : (catalogue : List SpecTree) (text : List ℕ) (path : FullPath) → IsPath path → text ≡ path_word path → spec_of path.category catalogue ≡ None → IsUnknown catalogue text
unknown_file catalogue text path i e h = record { path = path; form = i; spelled = e; nowhere = no_file catalogue path h }

pub unknown_names : (catalogue : List SpecTree) (text : List ℕ) (path : FullPath) (spec : SpecTree) → IsPath path → text ≡ path_word path → spec_of path.category catalogue ≡ Some spec → None ≡ place_of spec path.names → IsUnknown catalogue text
unknown_names catalogue text path spec i e s h = record { path = path; form = i; spelled = e; nowhere = place_is catalogue path spec s ∙ sym h }

pub to_element : (catalogue : List SpecTree) (text : List ℕ) (path : FullPath) (spec : SpecTree) (place : Place) (f : FixedTree) → IsPath path → text ≡ path_word path → spec_of path.category catalogue ≡ Some spec
    → Some place ≡ place_of spec path.names → element_at spec place ≡ Some f → IsElementPath catalogue text
to_element catalogue text path spec place f i e s h g = record { path = path; form = i; spelled = e; element = f; leads = element_is catalogue path spec place s (sym h) ∙ g }

pub to_other : (catalogue : List SpecTree) (text : List ℕ) (path : FullPath) (spec : SpecTree) (place : Place) → IsPath path → text ≡ path_word path → spec_of path.category catalogue ≡ Some spec
    → Some place ≡ place_of spec path.names → element_at spec place ≡ None → IsNoElement catalogue text
to_other catalogue text path spec place i e s h g =
    record { path = path; form = i; spelled = e; place = place; leads = place_is catalogue path spec s ∙ sym h; other = element_is catalogue path spec place s (sym h) ∙ g }

pub ruleset leads = (unknown_file, unknown_names, to_element, to_other)

-- ---- the fault of a text

none_some : {A : Type 0} (o : Option A) (x : A) → o ≡ None → o ≡ Some x → ⊥
none_some o x e h = cc

no_place : (catalogue : List SpecTree) (path : FullPath) → place_in catalogue path ≡ None → element_in catalogue path ≡ None
no_place catalogue path = by_file (spec_of path.category catalogue)
  where
    by_place : (spec : SpecTree) (o : Option Place) → o ≡ None → option_and_then (element_at spec) o ≡ None
    by_place spec o e = ap (option_and_then (element_at spec)) e

    by_file : (o : Option SpecTree) → option_and_then (λ s. place_of s path.names) o ≡ None → option_and_then (λ s. option_and_then (element_at s) (place_of s path.names)) o ≡ None
    by_file None e = refl
    by_file (Some spec) e = by_place spec (place_of spec path.names) e

abbrev NotUnknown : List SpecTree → List ℕ → Type 0
NotUnknown catalogue text = IsUnknown catalogue text → ⊥

abbrev NotOther : List SpecTree → List ℕ → Type 0
NotOther catalogue text = IsNoElement catalogue text → ⊥

path_not_unknown : (catalogue : List SpecTree) (text : List ℕ) → (IsPathText text → ⊥) → NotUnknown catalogue text
path_not_unknown catalogue text n u = n (u.path, u.form, u.spelled)

path_not_other : (catalogue : List SpecTree) (text : List ℕ) → (IsPathText text → ⊥) → NotOther catalogue text
path_not_other catalogue text n u = n (u.path, u.form, u.spelled)

pub other_not_unknown : (catalogue : List SpecTree) (text : List ℕ) → IsNoElement catalogue text → NotUnknown catalogue text
other_not_unknown catalogue text o u =
    let same : u.path ≡ o.path = same_path u.path o.path u.form o.form (sym u.spelled ∙ o.spelled) in
    none_some (place_in catalogue o.path) o.place (sym (ap (place_in catalogue) same) ∙ u.nowhere) o.leads

element_not_unknown : (catalogue : List SpecTree) (text : List ℕ) → IsElementPath catalogue text → NotUnknown catalogue text
element_not_unknown catalogue text o u =
    let same : u.path ≡ o.path = same_path u.path o.path u.form o.form (sym u.spelled ∙ o.spelled) in
    none_some (element_in catalogue o.path) o.element (sym (ap (element_in catalogue) same) ∙ no_place catalogue u.path u.nowhere) o.leads

element_not_other : (catalogue : List SpecTree) (text : List ℕ) → IsElementPath catalogue text → NotOther catalogue text
element_not_other catalogue text o u =
    let same : u.path ≡ o.path = same_path u.path o.path u.form o.form (sym u.spelled ∙ o.spelled) in
    none_some (element_in catalogue o.path) o.element (sym (ap (element_in catalogue) same) ∙ u.other) o.leads

pub fine_word : (catalogue : List SpecTree) (text : List ℕ) (after_is : Bool) → (IsPathText text → ⊥) → HasNoFault catalogue text after_is
fine_word catalogue text after_is n = (path_not_unknown catalogue text n, λ _. path_not_other catalogue text n)

pub fine_element : (catalogue : List SpecTree) (text : List ℕ) (after_is : Bool) → IsElementPath catalogue text → HasNoFault catalogue text after_is
fine_element catalogue text after_is e = (element_not_unknown catalogue text e, λ _. element_not_other catalogue text e)

pub fine_other : (catalogue : List SpecTree) (text : List ℕ) (after_is : Bool) → after_is ≡ false → IsNoElement catalogue text → HasNoFault catalogue text after_is
fine_other catalogue text after_is e o = (other_not_unknown catalogue text o, λ yes _. both_ways after_is e yes)

pub ruleset tokens = (fine_word, fine_element, fine_other)

-- ---- the walk

some_same : {A : Type 0} (x y : A) → Some x ≡ Some y → x ≡ y
some_same x y e = cc

some_text : (tokens : List PlainToken) (number : ℕ) (t : PlainToken) → slice_get tokens number ≡ Some t → slice_get (texts_of tokens) number ≡ Some t.text
some_text [] number t e = absurd cc
some_text (u ∷ tokens) zero t e = ap Some (ap (λ x. x.text) (some_same u t e))
some_text (u ∷ tokens) (suc number) t e = some_text tokens number t e

pub none_yet : (catalogue : List SpecTree) (texts : Texts) → PathsLead catalogue texts 0
none_yet catalogue texts number lt = absurd (omega (arith, lt))

pub not_after : (texts : Texts) → IsTrue false ↔ IsAfterIs texts 0
not_after texts = ((λ e. absurd cc), (λ a. absurd (omega (arith, a.1))))

pub same_text : (texts : Texts) (number : ℕ) (text other : List ℕ) → TokenIs texts number text → TokenIs texts number other → text ≡ other
same_text texts number text other e h = some_same text other (sym e ∙ h)

pub one_more : (catalogue : List SpecTree) (tokens : List PlainToken) (number : ℕ) (t : PlainToken) (after_is : Bool) → slice_get tokens number ≡ Some t → IsTrue after_is ↔ IsAfterIs (texts_of tokens) number
    → HasNoFault catalogue t.text after_is → PathsLead catalogue (texts_of tokens) number → PathsLead catalogue (texts_of tokens) (number + 1)
one_more catalogue tokens number t after_is at after fine before i lt = by_place (eq-or-lt_of_le (omega (arith, lt)))
  where
    here : i ≡ number → (IsUnknownAt catalogue (texts_of tokens) i → ⊥) × (IsNoElementAt catalogue (texts_of tokens) i → ⊥)
    here e = (
      (λ u. let w : TokenIs (texts_of tokens) number u.0 = subst (λ n. TokenIs (texts_of tokens) n u.0) e u.1 in
          fine.0 (subst (IsUnknown catalogue) (same_text (texts_of tokens) number u.0 t.text w (some_text tokens number t at)) u.2)),
      (λ u. let w : TokenIs (texts_of tokens) number u.0 = subst (λ n. TokenIs (texts_of tokens) n u.0) e u.1 in
          fine.1 (after.1 (subst (IsAfterIs (texts_of tokens)) e u.3)) (subst (IsNoElement catalogue) (same_text (texts_of tokens) number u.0 t.text w (some_text tokens number t at)) u.2)),
    )

    by_place : (i ≡ number) ⊎ (i < number) → (IsUnknownAt catalogue (texts_of tokens) i → ⊥) × (IsNoElementAt catalogue (texts_of tokens) i → ⊥)
    by_place (inl e) = here e
    by_place (inr less) = before i less

pub still_after : (tokens : List PlainToken) (number : ℕ) (t : PlainToken) (is : Bool) → slice_get tokens number ≡ Some t → IsTrue is ↔ (t.text ≡ codes "is") → IsTrue is ↔ IsAfterIs (texts_of tokens) (number + 1)
still_after tokens number t is at same = (
  (λ e. (number, refl, some_text tokens number t at ∙ ap Some (same.0 e))),
  (λ a. let e : number ≡ a.0 = omega (arith, a.1) in same.1 (same_text (texts_of tokens) number t.text (codes "is") (some_text tokens number t at) (subst (λ n. TokenIs (texts_of tokens) n (codes "is")) (sym e) a.2))),
)

first_is : (catalogue : List SpecTree) (tokens : List PlainToken) (number end : ℕ) (t : PlainToken) (after_is : Bool) (fault : PathFault) → number < end → slice_get tokens number ≡ Some t → IsTrue after_is ↔ IsAfterIs (texts_of tokens) number
    → HasFault catalogue t.text after_is number fault → PathsLead catalogue (texts_of tokens) number → IsFirstFault catalogue (texts_of tokens) end fault
first_is catalogue tokens number end t after_is (Unknown token) lt at after f before =
    subst (λ n. (n < end) × IsUnknownAt catalogue (texts_of tokens) n × PathsLead catalogue (texts_of tokens) n) (sym f.0) (lt, (t.text, some_text tokens number t at, f.1), before)
first_is catalogue tokens number end t after_is (NoElement token) lt at after f before =
    subst (λ n. (n < end) × IsNoElementAt catalogue (texts_of tokens) n × PathsLead catalogue (texts_of tokens) n) (sym f.0) (lt, (t.text, some_text tokens number t at, f.1, after.0 f.2), before)

abbrev Judged : List SpecTree → List ℕ → Bool → ℕ → Option PathFault → Type 0
Judged catalogue text after_is number fault = MatchOption fault (HasNoFault catalogue text after_is) (HasFault catalogue text after_is number)

pub found : (catalogue : List SpecTree) (tokens : List PlainToken) (number end : ℕ) (t : PlainToken) (after_is : Bool) (fault : Option PathFault) → is_some fault ≡ true → number < end → slice_get tokens number ≡ Some t
    → IsTrue after_is ↔ IsAfterIs (texts_of tokens) number → Judged catalogue t.text after_is number fault → PathsLead catalogue (texts_of tokens) number
    → MatchOption fault (PathsLead catalogue (texts_of tokens) end) (IsFirstFault catalogue (texts_of tokens) end)
found catalogue tokens number end t after_is None some lt at after f before = absurd cc
found catalogue tokens number end t after_is (Some fault) some lt at after f before = first_is catalogue tokens number end t after_is fault lt at after f before

pub no_fault : (catalogue : List SpecTree) (text : List ℕ) (after_is : Bool) (number : ℕ) (fault : Option PathFault) → is_some fault ≡ false → Judged catalogue text after_is number fault → HasNoFault catalogue text after_is
no_fault catalogue text after_is number None none f = f
no_fault catalogue text after_is number (Some fault) none f = absurd cc

pub to_the_end : (catalogue : List SpecTree) (texts : Texts) (number end : ℕ) → end ≤ number → PathsLead catalogue texts number → PathsLead catalogue texts end
to_the_end catalogue texts number end le before i lt = before i (omega (arith, le, lt))

pub ruleset walks = (none_yet, not_after, to_the_end)
