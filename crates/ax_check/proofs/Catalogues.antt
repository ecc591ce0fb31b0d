-- A catalogue's map and its list.
use Rattle.std.proofs.Common.{◌≡◌, ℕ, ◌<◌, ◌==◌, nat_eq, Bool, true, false, cond, List, [], ◌∷◌, ◌++◌, length, map, Option, Some, None, is_some, if◌then◌else◌, option_map, slice_get, refl, sym, ◌∙◌, ap, subst, arith, length-append}
use Rattle.std.proofs.lemmas.Bool.{eq-eqb, ne_eqb, eqb-true, eqb-false}
use Rattle.std.proofs.lemmas.List.{length-map}
use Rattle.std.specs.List.{AllByRecursion, IsDistinct}
use Rattle.std.specs.Map.{lookup}
use Rattle.ax_format.specs.Plain.{spec_tree, catalogue_tree}
use Rattle.ax_format.specs.Specification.{SpecTree, spec_of}
use Rattle.ax_format.specs.declared.spec.Spec.{Spec}
use Rattle.indexmap.specs.IndexMap.{insert_entry}

-- each entry stands under its specification's category
abbrev pub Keyed : List (ℕ × Spec) → Type 0
Keyed = AllByRecursion (λ e. e.0 ≡ e.1.category)

abbrev pub specs_in : List (ℕ × Spec) → List Spec
specs_in es = map (λ e. e.1) es

turned : (m n : ℕ) → nat_eq m n ≡ (n == m)
turned m n = by (nat_eq m n) refl
  where
    by : (b : Bool) → nat_eq m n ≡ b → nat_eq m n ≡ (n == m)
    by true e = e ∙ sym (eq-eqb n m (sym (eqb-true m n e)))
    by false e = e ∙ sym (ne_eqb n m (λ p. eqb-false m n e (sym p)))

found : (b : Bool) (spec : Spec) (o : Option Spec) (p : Option SpecTree) → option_map spec_tree o ≡ p → option_map spec_tree (cond b (Some spec) o) ≡ cond b (Some (spec_tree spec)) p
found true spec o p e = refl
found false spec o p e = e

-- what the map has at a category is what the list has
pub looked_up : (category : ℕ) (es : List (ℕ × Spec)) → Keyed es → option_map spec_tree (lookup (nat_eq category) es) ≡ spec_of category (catalogue_tree (specs_in es))
looked_up category [] h = refl
looked_up category (e ∷ es) h =
    found (nat_eq category e.0) e.1 (lookup (nat_eq category) es) (spec_of category (catalogue_tree (specs_in es))) (looked_up category es h.1)
    ∙ ap (λ b. cond b (Some (spec_tree e.1)) (spec_of category (catalogue_tree (specs_in es)))) (turned category e.0 ∙ ap (λ n. n == category) h.0)

entered_by : (b : Bool) (category : ℕ) (one : Spec) (x : ℕ × Spec) (es : List (ℕ × Spec)) → (is_some (lookup (nat_eq category) es) ≡ false → insert_entry nat_eq es category one ≡ es ++ (category, one) ∷ [])
    → is_some (cond b (Some x.1) (lookup (nat_eq category) es)) ≡ false → (if b then (x.0, one) ∷ es else x ∷ insert_entry nat_eq es category one) ≡ (x ∷ es) ++ (category, one) ∷ []
entered_by true category one x es ih e = absurd (cc)
entered_by false category one x es ih e = ap (λ l. x ∷ l) (ih e)

-- a category that the map lacks goes last
entered : (category : ℕ) (one : Spec) (es : List (ℕ × Spec)) → is_some (lookup (nat_eq category) es) ≡ false → insert_entry nat_eq es category one ≡ es ++ (category, one) ∷ []
entered category one [] e = refl
entered category one (x ∷ es) e = entered_by (nat_eq category x.0) category one x es (entered category one es) e

keyed_more : (es : List (ℕ × Spec)) (category : ℕ) (one : Spec) → category ≡ one.category → Keyed es → Keyed (es ++ (category, one) ∷ [])
keyed_more [] category one e h = (e, tt)
keyed_more (x ∷ es) category one e h = (h.0, keyed_more es category one e h.1)

specs_more : (es : List (ℕ × Spec)) (category : ℕ) (one : Spec) → specs_in (es ++ (category, one) ∷ []) ≡ specs_in es ++ one ∷ []
specs_more [] category one = refl
specs_more (x ∷ es) category one = ap (λ l. x.1 ∷ l) (specs_more es category one)

-- after an insertion of a category that was not there
pub added : (es new : List (ℕ × Spec)) (category : ℕ) (one : Spec) → is_some (lookup (nat_eq category) es) ≡ false → new ≡ insert_entry nat_eq es category one → specs_in new ≡ specs_in es ++ one ∷ []
added es new category one none e = ap specs_in (e ∙ entered category one es none) ∙ specs_more es category one

pub stays_keyed : (es new : List (ℕ × Spec)) (category : ℕ) (one : Spec) → is_some (lookup (nat_eq category) es) ≡ false → category ≡ one.category → new ≡ insert_entry nat_eq es category one → Keyed es → Keyed new
stays_keyed es new category one none c e h = subst Keyed (sym (e ∙ entered category one es none)) (keyed_more es category one c h)

pub stays_small : (es new : List (ℕ × Spec)) (category : ℕ) (one : Spec) → is_some (lookup (nat_eq category) es) ≡ false → new ≡ insert_entry nat_eq es category one → length es < 4294967295 → length new < 4294967296
stays_small es new category one none e h = omega (arith, ap length (e ∙ entered category one es none), length-append es ((category, one) ∷ []))

some_tree : (o : Option Spec) (p : Option SpecTree) → option_map spec_tree o ≡ p → is_some o ≡ is_some p
some_tree None p e = ap is_some e
some_tree (Some spec) p e = ap is_some e

-- what the map lacks the list lacks, and what it has the list has
pub lacked : (category : ℕ) (es : List (ℕ × Spec)) → Keyed es → is_some (lookup (nat_eq category) es) ≡ false → spec_of category (catalogue_tree (specs_in es)) ≡ None
lacked category es h e = none_of (spec_of category (catalogue_tree (specs_in es))) (sym (some_tree (lookup (nat_eq category) es) _ (looked_up category es h)) ∙ e)
  where
    none_of : (o : Option SpecTree) → is_some o ≡ false → o ≡ None
    none_of None e = refl
    none_of (Some t) e = absurd (cc)

pub lacks : (category : ℕ) (es : List (ℕ × Spec)) → Keyed es → spec_of category (catalogue_tree (specs_in es)) ≡ None → is_some (lookup (nat_eq category) es) ≡ false
lacks category es h e = some_tree (lookup (nat_eq category) es) _ (looked_up category es h) ∙ ap is_some e

-- the map has as many entries as the list has specifications
pub as_many : (es : List (ℕ × Spec)) (specs : List Spec) → specs_in es ≡ specs → length es ≡ length specs
as_many es specs e = sym (length-map es (λ x. x.1)) ∙ ap length e

pub had : (category : ℕ) (es : List (ℕ × Spec)) → Keyed es → is_some (lookup (nat_eq category) es) ≡ true → is_some (spec_of category (catalogue_tree (specs_in es))) ≡ true
had category es h e = sym (some_tree (lookup (nat_eq category) es) _ (looked_up category es h)) ∙ e

pub placed : (es : List (ℕ × Spec)) (i : ℕ) → slice_get (specs_in es) i ≡ option_map (λ e. e.1) (slice_get es i)
placed [] i = refl
placed (e ∷ es) ℕ.zero = refl
placed (e ∷ es) (ℕ.suc i) = placed es i

-- the categories differ, as the map's keys do
pub apart : (es : List (ℕ × Spec)) → Keyed es → IsDistinct nat_eq (map (λ e. e.0) es) → IsDistinct nat_eq (map (λ spec. spec.category) (specs_in es))
apart es h d = subst (IsDistinct nat_eq) (same es h) d
  where
    same : (es : List (ℕ × Spec)) → Keyed es → map (λ e. e.0) es ≡ map (λ spec. spec.category) (specs_in es)
    same [] h = refl
    same (e ∷ es) h = λ i. h.0 i ∷ same es h.1 i
