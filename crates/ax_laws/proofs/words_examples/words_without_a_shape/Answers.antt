use Rattle.std.proofs.Common.{◌≡◌, ℕ, true, false, List, [], ◌∷◌, ap, length, refl, arith, codes}
use Rattle.std.specs.List.{AllByRecursion}
use Rattle.ax_words.specs.Verbs.{TakesWords, name_of, verbs}
use Rattle.ax_words.specs.Words.{HasNoShape}
use Rattle.ax_words.proofs.Shapes.{dashed, no_verb, no_words, other_count}
use Rattle.ax_laws.proofs.words_examples.words_without_a_shape.Goals as goal

never : true ≡ false → ⊥
never e = cc

each : {A : Type 0} (P : A → Type 0) → ((x : A) → P x) → (xs : List A) → AllByRecursion P xs
each P f [] = tt
each P f (x ∷ xs) = (f x, each P f xs)

-- another count of words after it than it takes gives no shape
abbrev HasOtherCounts : {A : Type 0} → (A → ℕ → Type 0) → (A → List ℕ) → A → Type 0
HasOtherCounts takes name verb = (words : List (List ℕ)) → (takes verb (length words) → ⊥) → HasNoShape (name verb ∷ words)

-- for each verb, in the order of the list: the type of verbs can't be named from here
others : AllByRecursion (HasOtherCounts TakesWords name_of) verbs
others = each (HasOtherCounts TakesWords name_of) other_count verbs

pub returns : goal.returns
returns c = record {
  none = no_words;
  verb = no_verb (codes "help") [] refl (refl, (refl, (refl, (refl, (refl, (refl, (refl, (refl, (refl, (refl, (refl, tt)))))))))));
  few = others.1.0 [] (λ e. omega (arith, e));
  many = others.0 (codes "A" ∷ codes "E" ∷ []) (λ e. omega (arith, e));
  expansions = others.1.1.1.1.1.1.1.1.1.0 (codes "B" ∷ codes "X" ∷ codes "Y" ∷ []) (λ e. omega (arith, e));
  editions = others.1.1.1.1.1.1.1.1.1.1.0 (codes "A" ∷ []) (λ e. omega (arith, e));
  dash = dashed (codes "canon" ∷ codes "A" ∷ codes "--help" ∷ []) (λ e. omega (arith, ap length e)) (λ e. omega (arith, ap length e)) (λ all. never all.1.1.0);
  beside = dashed (codes "--help" ∷ codes "A" ∷ []) (λ e. omega (arith, ap length e)) (λ e. omega (arith, ap length e)) (λ all. never all.0);
}
