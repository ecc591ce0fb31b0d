-- Lists made of what links lead to, one after the other.
use Rattle.std.proofs.Common.{◌≡◌, ℕ, ◌+◌, ◌<◌, List, [], ◌∷◌, ◌++◌, length, map, take, get_or, refl, sym, ◌∙◌, ap}
use Rattle.std.proofs.lemmas.List.{take_more}

map_end : {A B : Type 0} (f : A → B) (xs : List A) (x : A) → map f (xs ++ x ∷ []) ≡ map f xs ++ f x ∷ []
map_end f [] x = refl
map_end f (y ∷ xs) x = ap (λ z. f y ∷ z) (map_end f xs x)

-- what was made is seen as a tree, and that without its names is what the links lead to
module _ {A B C : Type 0} (tree : A → B) (bare : B → C) (leads : ℕ → C) (links : List ℕ) (i : ℕ) (made : List A) (so_far : map bare (map tree made) ≡ map leads (take i links)) where
  pub one_more : (link : ℕ) (one : A) (new : List A) → i < length links → link ≡ get_or links i 0 → new ≡ made ++ one ∷ [] → bare (tree one) ≡ leads link → map bare (map tree new) ≡ map leads (take (i + 1) links)
  one_more link one new within at is same =
      ap (λ xs. map bare (map tree xs)) is ∙ ap (map bare) (map_end tree made one) ∙ map_end bare (map tree made) (tree one)
      ∙ (λ j. so_far j ++ same j ∷ [])
      ∙ sym (ap (map leads) (take_more links i 0 within ∙ ap (λ x. take i links ++ x ∷ []) (sym at)) ∙ map_end leads (take i links) link)
