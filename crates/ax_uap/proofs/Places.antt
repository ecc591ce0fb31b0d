-- What is held of a specification, at the place of its category.
use Rattle.std.proofs.Common.{◌≡◌, ℕ, zero, suc, ◌+◌, ◌-◌, ◌<◌, ◌≤◌, ◌==◌, ◌⊎◌, inl, inr, Bool, true, false, if◌then◌else◌, List, [], ◌∷◌, ◌++◌, length, length-append, length-set, set, get_or, slice_get, Option, Some, None, refl, sym, ◌∙◌, ap, subst, arith, get_or-set_same, get_or-set_other}
use Rattle.std.specs.Prelude.{replicate}
use Rattle.std.proofs.lemmas.List.{length-map, length-replicate, get_or-replicate}
use Rattle.std.proofs.lemmas.Bool.{eq-eqb, ne_eqb, eqb-true, eqb-false}
use Rattle.ax_format.specs.declared.spec.Spec.{Spec}
use Rattle.ax_uap.proofs.Categories.{specs, added, of_category}
use Rattle.ax_uap.specs.Categories.{place_from, ArePlaces}

-- a place that isn't 0 is not before the first
not_before : (n category : ℕ) (all : List Spec) → 1 ≤ n → (0 < place_from n category all) × (place_from n category all < n) → ⊥
not_before n category [] some h = omega (arith, h.0)
not_before n category (spec ∷ all) some h = by (spec.category == category) (λ g. not_before (n + 1) category all (omega arith) g) h
  where
    by : (b : Bool) → ((0 < place_from (n + 1) category all) × (place_from (n + 1) category all < n + 1) → ⊥) → (0 < (if b then n else place_from (n + 1) category all)) × ((if b then n else place_from (n + 1) category all) < n) → ⊥
    by true rest g = omega (arith, g.1)
    by false rest g = rest (g.0, omega (arith, g.1))

module _ {T : Type 0} (of : T → Spec) where
  -- it is that of what is found
  place_found : (n category : ℕ) (each : List T) (k : ℕ) → 1 ≤ n → place_from n category (specs of each) ≡ n + k → slice_get each k ≡ of_category of category each
  place_found n category [] k some e = absurd (omega (arith, e))
  place_found n category (one ∷ each) k some e = by ((of one).category == category) (λ j f. place_found (n + 1) category each j (omega arith) f) e
    where
      Later : Type 0
      Later = (j : ℕ) → place_from (n + 1) category (specs of each) ≡ n + 1 + j → slice_get each j ≡ of_category of category each

      later : Later → (k : ℕ) → place_from (n + 1) category (specs of each) ≡ n + k → slice_get (one ∷ each) k ≡ of_category of category each
      later rest zero f = absurd (not_before (n + 1) category (specs of each) (omega arith) (omega (arith, f), omega (arith, f)))
      later rest (suc j) f = rest j (omega (arith, f))

      by : (b : Bool) → Later → (if b then n else place_from (n + 1) category (specs of each)) ≡ n + k → slice_get (one ∷ each) k ≡ (if b then Some one else of_category of category each)
      by true rest f = let none : k ≡ 0 = omega (arith, f) in ap (slice_get (one ∷ each)) none
      by false rest f = later rest k f

  place_none : (n category : ℕ) (each : List T) → 1 ≤ n → place_from n category (specs of each) ≡ 0 → None ≡ of_category of category each
  place_none n category [] some e = refl
  place_none n category (one ∷ each) some e = by ((of one).category == category) (λ f. place_none (n + 1) category each (omega arith) f) e
    where
      by : (b : Bool) → (place_from (n + 1) category (specs of each) ≡ 0 → None ≡ of_category of category each) → (if b then n else place_from (n + 1) category (specs of each)) ≡ 0 → None ≡ (if b then Some one else of_category of category each)
      by true rest f = absurd (omega (arith, f))
      by false rest f = rest f

  module _ (each : List T) (places : List ℕ) (category place : ℕ) (known : ArePlaces (specs of each) 256 places) (few : category < 256) (is : place ≡ get_or places category 0) where
    pub nothing_held : place ≡ 0 → None ≡ of_category of category each
    nothing_held e = place_none 1 category each (omega arith) (sym (known.at category few) ∙ sym is ∙ e)

    pub held_there : 0 < place → slice_get each (place - 1) ≡ of_category of category each
    held_there some = place_found 1 category each (place - 1) (omega arith) (sym (known.at category few) ∙ sym is ∙ (let e : place ≡ 1 + (place - 1) = omega arith in e))

-- ---- one more specification

unchanged : (n category : ℕ) (all : List Spec) (spec : Spec) → (place_from n category all ≡ 0 → spec.category ≡ category → ⊥) → 1 ≤ n → place_from n category (all ++ spec ∷ []) ≡ place_from n category all
unchanged n category [] spec other some = ap (λ b. if b then n else 0) (ne_eqb spec.category category (other refl))
unchanged n category (first ∷ all) spec other some = by (first.category == category) (λ o. unchanged (n + 1) category all spec o (omega arith)) other
  where
    by : (b : Bool) → ((place_from (n + 1) category all ≡ 0 → spec.category ≡ category → ⊥) → place_from (n + 1) category (all ++ spec ∷ []) ≡ place_from (n + 1) category all) → ((if b then n else place_from (n + 1) category all) ≡ 0 → spec.category ≡ category → ⊥)
        → (if b then n else place_from (n + 1) category (all ++ spec ∷ [])) ≡ (if b then n else place_from (n + 1) category all)
    by true rest o = refl
    by false rest o = rest o

its_place : (n category : ℕ) (all : List Spec) (spec : Spec) → place_from n category all ≡ 0 → spec.category ≡ category → 1 ≤ n → place_from n category (all ++ spec ∷ []) ≡ n + length all
its_place n category [] spec none same some = ap (λ b. if b then n else 0) (eq-eqb spec.category category same) ∙ (let e : n ≡ n + 0 = omega arith in e)
its_place n category (first ∷ all) spec none same some = by (first.category == category) (λ f. its_place (n + 1) category all spec f same (omega arith)) none
  where
    by : (b : Bool) → (place_from (n + 1) category all ≡ 0 → place_from (n + 1) category (all ++ spec ∷ []) ≡ n + 1 + length all) → (if b then n else place_from (n + 1) category all) ≡ 0 → (if b then n else place_from (n + 1) category (all ++ spec ∷ [])) ≡ n + suc (length all)
    by true rest f = absurd (omega (arith, f))
    by false rest f = rest f ∙ (let e : n + 1 + length all ≡ n + suc (length all) = omega arith in e)

pub none_placed : (places : List ℕ) → places ≡ replicate 256 0 → ArePlaces [] 256 places
none_placed places e = record {
  size = ap length e ∙ length-replicate {A = ℕ} 256 0;
  at = λ c lt. ap (λ p. get_or p c 0) e ∙ get_or-replicate {A = ℕ} 256 c 0 0 lt;
}

module _ {T : Type 0} (of : T → Spec) (each new : List T) (one : T) (spec : Spec) (places : List ℕ) (more : new ≡ each ++ one ∷ []) (is : spec ≡ of one) (known : ArePlaces (specs of each) 256 places) where
  all : List Spec
  all = specs of each

  grown : all ++ spec ∷ [] ≡ specs of new
  unfolding all
  grown = ap (λ s. specs of each ++ s ∷ []) is ∙ sym (added of each new one more)

  pub placed_still : (get_or places spec.category 0 ≡ 0 → ⊥) → ArePlaces (specs of new) 256 places
  unfolding all
  placed_still there = subst (λ a. ArePlaces a 256 places) grown (record {
    size = known.size;
    at = λ c lt. known.at c lt ∙ sym (unchanged 1 c (specs of each) spec (λ none same. there (ap (λ k. get_or places k 0) same ∙ known.at c lt ∙ none)) (omega arith));
  })

  pub placed_more : (n : ℕ) → get_or places spec.category 0 ≡ 0 → spec.category < 256 → n ≡ length new → ArePlaces (specs of new) 256 (set places spec.category n)
  unfolding all
  placed_more n none few count = subst (λ a. ArePlaces a 256 (set places spec.category n)) grown (record {
    size = length-set places spec.category n ∙ known.size;
    at = λ c lt. by c lt (c == spec.category) refl;
  })
    where
      by : (c : ℕ) → c < 256 → (b : Bool) → (c == spec.category) ≡ b → get_or (set places spec.category n) c 0 ≡ place_from 1 c (specs of each ++ spec ∷ [])
      by c lt true e =
          let same : c ≡ spec.category = eqb-true c spec.category e in
          let first : place_from 1 spec.category (specs of each) ≡ 0 = sym (known.at spec.category few) ∙ none in
          ap (λ k. get_or (set places spec.category n) k 0) same ∙ get_or-set_same places spec.category n 0 (omega (arith, few, known.size)) ∙ count
          ∙ (let e : length new ≡ 1 + length (specs of each) = omega (arith, ap length more, length-append each (one ∷ []), length-map each of) in e) ∙ sym (its_place 1 spec.category (specs of each) spec first refl (omega arith))
          ∙ ap (λ k. place_from 1 k (specs of each ++ spec ∷ [])) (sym same)
      by c lt false e =
          let other : c ≡ spec.category → ⊥ = eqb-false c spec.category e in
          get_or-set_other places spec.category c n 0 other ∙ known.at c lt ∙ sym (unchanged 1 c (specs of each) spec (λ first same. other (sym same)) (omega arith))
