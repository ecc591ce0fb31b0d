-- The category of the next token, and the first one of a catalogue.
use Rattle.std.proofs.Common.{◌≡◌, ℕ, ◌<◌, cond, List, [], ◌∷◌, length, drop, slice_get, Some, None, sym, ◌∙◌, ap, refl}
use Rattle.std.specs.Prelude.{Option}
use Rattle.std.proofs.lemmas.Bool.{eq-eqb}
use Rattle.ax_tokens.specs.Stopping.{Texts, IsNotFirst}
use Rattle.ax_tokens.proofs.Words.{not_first, none_first}
use Rattle.ax_format.specs.Paths.{three_digits}
use Rattle.ax_format.specs.Plain.{spec_tree, catalogue_tree}
use Rattle.ax_format.specs.Specification.{spec_of}
use Rattle.ax_format.specs.declared.spec.Spec.{Spec}
use Rattle.ax_block_reader.specs.BlockForms.{IsCategoryText}

-- ---- the next token

pub no_category : (texts : Texts) (text : List ℕ) → texts ≡ text ∷ drop 1 texts → ((n : ℕ) → n < 256 → text ≡ three_digits n → ⊥) → IsNotFirst IsCategoryText texts
no_category texts text e n = not_first IsCategoryText texts text e (λ h. n h.0 h.1 h.2)

pub none_there : (texts : Texts) → texts ≡ [] → IsNotFirst IsCategoryText texts
none_there texts e = none_first IsCategoryText texts e

pub category_there : (texts : Texts) (text : List ℕ) (n : ℕ) → texts ≡ text ∷ drop 1 texts → text ≡ three_digits n → texts ≡ three_digits n ∷ drop 1 texts
category_there texts text n e h = e ∙ ap (λ t. t ∷ drop 1 texts) h

pub ruleset peeking = (no_category, none_there, category_there)

-- ---- the catalogue's first category

no_first : (catalogue : List Spec) → slice_get catalogue 0 ≡ None → catalogue_tree catalogue ≡ []
no_first [] e = refl
no_first (spec ∷ catalogue) e = absurd cc

pub first_known : (catalogue : List Spec) (spec : Spec) → slice_get catalogue 0 ≡ Some spec → spec_of spec.category (catalogue_tree catalogue) ≡ Some (spec_tree spec)
first_known [] spec e = absurd cc
first_known (first ∷ catalogue) spec e =
    let same : first ≡ spec = cc in
    ap (λ s. spec_of spec.category (spec_tree s ∷ catalogue_tree catalogue)) same ∙ ap (λ b. cond b (Some (spec_tree spec)) (spec_of spec.category (catalogue_tree catalogue))) (eq-eqb spec.category spec.category refl)

pub none_known : (catalogue : List Spec) (found : Option Spec) → found ≡ slice_get catalogue 0 → found ≡ None → catalogue_tree catalogue ≡ []
none_known catalogue found e h = no_first catalogue (sym e ∙ h)

pub ruleset firsts = none_known
