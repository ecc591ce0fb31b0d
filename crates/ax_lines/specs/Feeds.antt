-- Line feeds among octets.
use Rattle.std.specs.Prelude.{◌≡◌, ℕ, List, ◌∷◌, ◌++◌, length, Option, Some, None}
use Rattle.std.specs.List.{AllByRecursion}

abbrev pub IsNoFeed : ℕ → Type 0
IsNoFeed octet = octet ≡ 10 → ⊥

-- no line feed is among them
abbrev pub IsPlain : List ℕ → Type 0
IsPlain octets = AllByRecursion IsNoFeed octets

-- the first line feed stands there
pub record IsFeedAt (octets : List ℕ) (at : ℕ) : Type 0 where
  pub front : List ℕ
  pub following : List ℕ
  pub split : octets ≡ front ++ (10 ∷ following)
  pub plain : IsPlain front
  pub place : length front ≡ at

abbrev pub IsFirstFeed : List ℕ → Option ℕ → Type 0
IsFirstFeed octets None = IsPlain octets
IsFirstFeed octets (Some at) = IsFeedAt octets at
