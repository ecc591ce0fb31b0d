-- Where the codecs of categories stand in a list.
use Rattle.std.specs.Prelude.{◌≡◌, ℕ, ◌+◌, ◌<◌, ◌==◌, if◌then◌else◌, List, [], ◌∷◌, length, get_or}
use Rattle.std.specs.Coded.{Coded-set, coded_ℕ}
use Rattle.ax_codec.specs.declared.codec.Codec.{Codec}

-- the place of the first codec of a category, where the list's first has the place n; 0 where there is none
abbrev pub place_from : ℕ → ℕ → List Codec → ℕ
place_from n category [] = 0
place_from n category (codec ∷ codecs) = if codec.category == category then n else place_from (n + 1) category codecs

-- by category from 0 on, the place of its codec, from 1
pub record ArePlaces (codecs : List Codec) (n : ℕ) (places : List ℕ) : Type 0 where
  pub size : length places ≡ n
  pub at : (c : ℕ) → c < n → get_or places c 0 ≡ place_from 1 c codecs

pub ArePlaces-prop : (codecs : List Codec) (n : ℕ) (places : List ℕ) → IsProp (ArePlaces codecs n places)
ArePlaces-prop codecs n places a b = λ i. record {
  size = Coded-set coded_ℕ (length places) n a.size b.size i;
  at = λ c lt. Coded-set coded_ℕ (get_or places c 0) (place_from 1 c codecs) (a.at c lt) (b.at c lt) i;
}
