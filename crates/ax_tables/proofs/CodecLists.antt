-- Codecs of specifications, one after the other.
use Rattle.std.proofs.Common.{◌≡◌, ℕ, zero, suc, ◌+◌, ◌<◌, nat_eq, List, [], ◌∷◌, ◌++◌, length, map, take, get_or, slice_get, Bor, IsSome, Option, Some, None, refl, sym, ◌∙◌, ap, subst}
use Rattle.std.specs.List.{IsDistinct}
use Rattle.std.specs.Option.{option_copied}
use Rattle.std.proofs.lemmas.List.{take_more, map-append}
use Rattle.ax_format.specs.Plain.{spec_tree, catalogue_tree}
use Rattle.ax_format.specs.Specification.{SpecTree}
use Rattle.ax_format.specs.declared.spec.Spec.{Spec}
use Rattle.ax_codec.specs.Standing.{IsCompiled, StandForEach}
use Rattle.ax_codec.specs.declared.codec.Codec.{Codec}

each_more : (codecs : List Codec) (specs : List SpecTree) (codec : Codec) (spec : SpecTree) → StandForEach codecs specs → IsCompiled codec spec → StandForEach (codecs ++ codec ∷ []) (specs ++ spec ∷ [])
each_more [] [] codec spec h g = (g, tt)
each_more [] (s ∷ specs) codec spec h g = absurd h
each_more (c ∷ codecs) [] codec spec h g = absurd h
each_more (c ∷ codecs) (s ∷ specs) codec spec h g = (h.0, each_more codecs specs codec spec h.1 g)

item_at : {A : Type 0} (xs : List A) (i : ℕ) (x : A) → slice_get xs i ≡ Some x → x ≡ get_or xs i x
item_at [] i x e = refl
item_at (y ∷ xs) zero x e = same (sym e)
  where
    same : {A : Type 0} {x y : A} → Some x ≡ Some y → x ≡ y
    same e = cc
item_at (y ∷ xs) (suc i) x e = item_at xs i x e

pub each_next : (all : List Spec) (i : ℕ) (spec : Spec) (codecs new : List Codec) (codec : Codec) → i < length all → slice_get all i ≡ Some spec → StandForEach codecs (catalogue_tree (take i all)) → IsCompiled codec (spec_tree spec)
    → new ≡ codecs ++ codec ∷ [] → StandForEach new (catalogue_tree (take (i + 1) all))
each_next all i spec codecs new codec lt at h g e =
    let specs : catalogue_tree (take (i + 1) all) ≡ catalogue_tree (take i all) ++ spec_tree spec ∷ [] =
    ap catalogue_tree (take_more all i spec lt ∙ ap (λ s. take i all ++ s ∷ []) (sym (item_at all i spec at))) ∙ map-append spec_tree (take i all) (spec ∷ []) in
    subst (λ cs. StandForEach cs (catalogue_tree (take (i + 1) all))) (sym e) (subst (StandForEach (codecs ++ codec ∷ [])) (sym specs) (each_more codecs (catalogue_tree (take i all)) codec (spec_tree spec) h g))

same_categories : (codecs : List Codec) (all : List Spec) → StandForEach codecs (catalogue_tree all) → map (λ spec. spec.category) all ≡ map (λ codec. codec.category) codecs
same_categories [] [] h = refl
same_categories [] (s ∷ all) h = absurd h
same_categories (c ∷ codecs) [] h = absurd h
same_categories (c ∷ codecs) (s ∷ all) h = λ i. sym h.0.stands.category i ∷ same_categories codecs all h.1 i

-- codecs have categories that differ where the specifications do
pub apart : (codecs : List Codec) (all : List Spec) → StandForEach codecs (catalogue_tree all) → IsDistinct nat_eq (map (λ spec. spec.category) all) → IsDistinct nat_eq (map (λ codec. codec.category) codecs)
apart codecs all h d = subst (IsDistinct nat_eq) (same_categories codecs all h) d

-- what a look-up found stands there
pub there : {A : Type 0} (xs : List A) (i : ℕ) (found : Option (Bor A)) (x : Bor A) → found ≡ Some x → option_copied found ≡ slice_get xs i → slice_get xs i ≡ Some x.now
there xs i found x is e = sym e ∙ ap option_copied is

pub missing : {A : Type 0} (found : Option A) → ((x : A) → found ≡ Some x → ⊥) → IsSome found → ⊥
missing None none h = cc
missing (Some x) none h = none x refl
