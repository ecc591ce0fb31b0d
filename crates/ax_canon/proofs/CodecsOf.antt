-- The codec and the specification of a category.
use Rattle.std.proofs.Common.{◌≡◌, ℕ, ◌==◌, Bool, true, false, cond, List, [], ◌∷◌, Option, Some, None, refl, sym, ◌∙◌, ap, subst}
use Rattle.std.proofs.lemmas.Bool.{eqb-true}
use Rattle.ax_format.specs.Specification.{SpecTree, spec_of}
use Rattle.ax_codec.specs.Standing.{IsCompiled, StandForEach, codec_of}
use Rattle.ax_codec.specs.declared.codec.Codec.{Codec}

-- the specification of a category, which the codec of that category stands for
pub record Standing (catalogue : List SpecTree) (category : ℕ) (codec : Codec) : Type 0 where
  pub spec : SpecTree
  pub known : spec_of category catalogue ≡ Some spec
  pub compiled : IsCompiled codec spec

first_stands : (b : Bool) (c codec : Codec) (s : SpecTree) (found : Option Codec) (rest : Option SpecTree) (catalogue : List SpecTree) (category : ℕ) → spec_of category (s ∷ catalogue) ≡ cond b (Some s) rest
    → IsCompiled c s → (found ≡ Some codec → (spec : SpecTree) × (rest ≡ Some spec) × IsCompiled codec spec) → cond b (Some c) found ≡ Some codec → Standing (s ∷ catalogue) category codec
first_stands true c codec s found rest catalogue category is h more e = let same : c ≡ codec = cc in record { spec = s; known = is; compiled = subst (λ x. IsCompiled x s) same h }
first_stands false c codec s found rest catalogue category is h more e = let m : (spec : SpecTree) × (rest ≡ Some spec) × IsCompiled codec spec = more e in record { spec = m.0; known = is ∙ m.1; compiled = m.2 }

pub stands_there : (codecs : List Codec) (catalogue : List SpecTree) (category : ℕ) (codec : Codec) → StandForEach codecs catalogue → codec_of category codecs ≡ Some codec → Standing catalogue category codec
stands_there [] [] category codec h e = absurd (let none : None ≡ Some codec = e in cc)
stands_there [] (s ∷ catalogue) category codec h e = absurd h
stands_there (c ∷ codecs) [] category codec h e = absurd h
stands_there (c ∷ codecs) (s ∷ catalogue) category codec h e =
    first_stands (c.category == category) c codec s (codec_of category codecs) (spec_of category catalogue) catalogue category
    (ap (λ n. cond (n == category) (Some s) (spec_of category catalogue)) (sym h.0.stands.category)) h.0
    (λ found. let m = stands_there codecs catalogue category codec h.1 found in (m.spec, m.known, m.compiled)) e

found_first : (b : Bool) (c codec : Codec) (found : Option Codec) (category : ℕ) → (b ≡ true → c.category ≡ category) → (found ≡ Some codec → codec.category ≡ category) → cond b (Some c) found ≡ Some codec → codec.category ≡ category
found_first true c codec found category is more e = let same : c ≡ codec = cc in subst (λ x. x.category ≡ category) same (is refl)
found_first false c codec found category is more e = more e

pub found_category : (codecs : List Codec) (category : ℕ) (codec : Codec) → codec_of category codecs ≡ Some codec → codec.category ≡ category
found_category [] category codec e = absurd (let none : None ≡ Some codec = e in cc)
found_category (c ∷ codecs) category codec e = found_first (c.category == category) c codec (codec_of category codecs) category (eqb-true c.category category) (found_category codecs category codec) e

none_first : (b : Bool) (c : Codec) (s : SpecTree) (found : Option Codec) (rest : Option SpecTree) → (found ≡ None → rest ≡ None) → cond b (Some c) found ≡ None → cond b (Some s) rest ≡ None
none_first true c s found rest more e = absurd (cc)
none_first false c s found rest more e = more e

pub none_there : (codecs : List Codec) (catalogue : List SpecTree) (category : ℕ) → StandForEach codecs catalogue → codec_of category codecs ≡ None → spec_of category catalogue ≡ None
none_there [] [] category h e = refl
none_there [] (s ∷ catalogue) category h e = absurd h
none_there (c ∷ codecs) [] category h e = absurd h
none_there (c ∷ codecs) (s ∷ catalogue) category h e =
    ap (λ n. cond (n == category) (Some s) (spec_of category catalogue)) (sym h.0.stands.category)
    ∙ none_first (c.category == category) c s (codec_of category codecs) (spec_of category catalogue) (none_there codecs catalogue category h.1) e
