-- What is held of specifications, as a list of them, and by their categories.
use Rattle.std.proofs.Common.{◌≡◌, ℕ, zero, suc, arith, ◌≤◌, ◌+◌, ◌<◌, ◌==◌, Bool, true, false, cond, List, [], ◌∷◌, ◌++◌, length, map, take, get_or, slice_get, refl, sym, ◌∙◌, ap, subst, Some, None, Bor}
use Rattle.std.specs.Prelude.{Option, find, IfSome, IsSome}
use Rattle.std.specs.List.{AllByRecursion}
use Rattle.std.specs.Option.{option_map, option_copied}
use Rattle.std.proofs.lemmas.List.{take_more, take_all}
use Rattle.ax_format.specs.OfCode.{HasNoFlaw}
use Rattle.ax_format.specs.Plain.{spec_tree, catalogue_tree}
use Rattle.ax_format.specs.Specification.{SpecTree, spec_of}
use Rattle.ax_format.specs.declared.spec.Spec.{Spec}

abbrev AllClean : List Spec → Type 0
AllClean = AllByRecursion HasNoFlaw

clean_more : (each : List Spec) (spec : Spec) → AllClean each → HasNoFlaw spec → AllClean (each ++ spec ∷ [])
clean_more [] spec h one = (one, tt)
clean_more (x ∷ each) spec h one = (h.0, clean_more each spec h.1 one)

module _ {T : Type 0} (of : T → Spec) where
  abbrev pub specs : List T → List Spec
  specs each = map (λ one. of one) each

  specs_more : (each : List T) (one : T) → specs (each ++ one ∷ []) ≡ specs each ++ of one ∷ []
  specs_more [] one = refl
  specs_more (x ∷ each) one = ap (λ l. of x ∷ l) (specs_more each one)

  pub still_clean : (each new : List T) (one : T) → AllClean (specs each) → HasNoFlaw (of one) → new ≡ each ++ one ∷ [] → AllClean (specs new)
  still_clean each new one h clean e = subst AllClean (sym (ap specs e ∙ specs_more each one)) (clean_more (specs each) (of one) h clean)

  pub added : (each new : List T) (one : T) → new ≡ each ++ one ∷ [] → specs new ≡ specs each ++ of one ∷ []
  added each new one e = ap specs e ∙ specs_more each one

  -- ---- by category

  mapped : (b : Bool) (one : T) (o : Option T) (p : Option SpecTree) → option_map (λ x. spec_tree (of x)) o ≡ p → option_map (λ x. spec_tree (of x)) (cond b (Some one) o) ≡ cond b (Some (spec_tree (of one))) p
  mapped true one o p e = refl
  mapped false one o p e = e

  abbrev pub of_category : ℕ → List T → Option T
  of_category category each = find (λ one. (of one).category == category) each

  spec_found : (category : ℕ) (each : List T) → option_map (λ x. spec_tree (of x)) (of_category category each) ≡ spec_of category (catalogue_tree (specs each))
  spec_found category [] = refl
  spec_found category (one ∷ each) = mapped ((of one).category == category) one _ _ (spec_found category each)

  pub spec_is : (category : ℕ) (each list : List T) (o : Option T) → o ≡ of_category category list → list ≡ each → option_map (λ x. spec_tree (of x)) o ≡ spec_of category (catalogue_tree (specs each))
  spec_is category each list o e same = ap (option_map (λ x. spec_tree (of x))) (e ∙ ap (of_category category) same) ∙ spec_found category each

  clean_case : (b : Bool) (one found : T) (o : Option T) → HasNoFlaw (of one) → (o ≡ Some found → HasNoFlaw (of found)) → cond b (Some one) o ≡ Some found → HasNoFlaw (of found)
  clean_case true one found o h next e = let same : one ≡ found = cc in subst (λ x. HasNoFlaw (of x)) same h
  clean_case false one found o h next e = next e

  clean_found : (category : ℕ) (each : List T) (found : T) → AllClean (specs each) → of_category category each ≡ Some found → HasNoFlaw (of found)
  clean_found category [] found h e = absurd cc
  clean_found category (one ∷ each) found h e = clean_case ((of one).category == category) one found (of_category category each) h.0 (clean_found category each found h.1) e

  pub clean_is : (category : ℕ) (each list : List T) (found : Option (Bor T)) → AllClean (specs each) → option_copied found ≡ of_category category list → list ≡ each → IfSome found (λ one. HasNoFlaw (of one.now))
  clean_is category each list None h e same = tt
  clean_is category each list (Some one) h e same = clean_found category each one.now h (sym (e ∙ ap (of_category category) same))

  -- ---- the first one

  past : (each : List T) → slice_get each 0 ≡ None → slice_get (specs each) 0 ≡ None
  past [] e = refl
  past (x ∷ each) e = absurd cc

  pub no_spec : (each list : List T) (all : List Spec) (found : Option (Bor T)) → found ≡ None → option_copied found ≡ slice_get list 0 → list ≡ each → all ≡ specs each → slice_get all 0 ≡ None
  no_spec each list all found is e same view = ap (λ s. slice_get s 0) view ∙ past each (ap (λ l. slice_get l 0) (sym same) ∙ sym e ∙ ap option_copied is)

  front : (each : List T) (one : T) → slice_get each 0 ≡ Some one → slice_get (specs each) 0 ≡ Some (of one)
  front [] one e = absurd cc
  front (x ∷ each) one e = let same : x ≡ one = cc in ap (λ y. Some (of y)) same

  pub first_spec : (each list : List T) (all : List Spec) (found : Option (Bor T)) (one : Bor T) → found ≡ Some one → option_copied found ≡ slice_get list 0 → list ≡ each → all ≡ specs each → slice_get all 0 ≡ Some (of one.now)
  first_spec each list all found one is e same view = ap (λ s. slice_get s 0) view ∙ front each one.now (ap (λ l. slice_get l 0) (sym same) ∙ sym e ∙ ap option_copied is)

pub ruleset adding = (still_clean, added)

-- ---- all of a catalogue

some_at : (all : List Spec) (i : ℕ) (spec : Spec) → slice_get all i ≡ Some spec → (i < length all) × (get_or all i spec ≡ spec)
some_at [] i spec e = absurd cc
some_at (x ∷ all) zero spec e = (omega arith, cc)
some_at (x ∷ all) (suc i) spec e = let r = some_at all i spec e in (omega (arith, r.0), r.1)

there : (all : List Spec) (i : ℕ) (found : Option (Bor Spec)) (one : Bor Spec) → found ≡ Some one → option_copied found ≡ slice_get all i → slice_get all i ≡ Some one.now
there all i found one is e = sym e ∙ ap option_copied is

pub missing : (found : Option (Bor Spec)) → ((one : Bor Spec) → found ≡ Some one → ⊥) → IsSome found → ⊥
missing None none h = cc
missing (Some one) none h = none one refl

pub one_more : (all made new : List Spec) (i : ℕ) (found : Option (Bor Spec)) (one : Bor Spec) → made ≡ take i all → found ≡ Some one → option_copied found ≡ slice_get all i → new ≡ made ++ one.now ∷ [] → new ≡ take (i + 1) all
one_more all made new i found one e is value more =
    let at = some_at all i one.now (there all i found one is value) in
    more ∙ (λ j. e j ++ sym at.1 j ∷ []) ∙ sym (take_more all i one.now at.0)

pub whole : (all made : List Spec) (i : ℕ) → made ≡ take i all → length all ≤ i → made ≡ all
whole all made i e past = e ∙ take_all i all past

pub ruleset collecting = whole
