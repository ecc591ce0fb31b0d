-- The codec at the place of a category.
use Rattle.std.proofs.Common.{◌≡◌, ℕ, zero, suc, ◌+◌, ◌-◌, ◌<◌, ◌≤◌, ◌==◌, Bool, true, false, if◌then◌else◌, List, [], ◌∷◌, get_or, slice_get, Some, None, refl, sym, ◌∙◌, ap, arith}
use Rattle.ax_tables.specs.Places.{place_from, ArePlaces}
use Rattle.ax_codec.specs.Standing.{codec_of}
use Rattle.ax_codec.specs.declared.codec.Codec.{Codec}

-- a place that isn't 0 is not before the first
not_before : (n category : ℕ) (codecs : List Codec) → 1 ≤ n → (0 < place_from n category codecs) × (place_from n category codecs < n) → ⊥
not_before n category [] some h = omega (arith, h.0)
not_before n category (codec ∷ codecs) some h = by (codec.category == category) (λ g. not_before (n + 1) category codecs (omega arith) g) h
  where
    by : (b : Bool) → ((0 < place_from (n + 1) category codecs) × (place_from (n + 1) category codecs < n + 1) → ⊥) → (0 < (if b then n else place_from (n + 1) category codecs)) × ((if b then n else place_from (n + 1) category codecs) < n) → ⊥
    by true rest g = omega (arith, g.1)
    by false rest g = rest (g.0, omega (arith, g.1))

-- it is that of the codec that is found
place_found : (n category : ℕ) (codecs : List Codec) (k : ℕ) → 1 ≤ n → place_from n category codecs ≡ n + k → slice_get codecs k ≡ codec_of category codecs
place_found n category [] k some e = absurd (omega (arith, e))
place_found n category (codec ∷ codecs) k some e = by (codec.category == category) (λ j f. place_found (n + 1) category codecs j (omega arith) f) e
  where
    Later : Type 0
    Later = (j : ℕ) → place_from (n + 1) category codecs ≡ n + 1 + j → slice_get codecs j ≡ codec_of category codecs

    later : Later → (k : ℕ) → place_from (n + 1) category codecs ≡ n + k → slice_get (codec ∷ codecs) k ≡ codec_of category codecs
    later rest zero f = absurd (not_before (n + 1) category codecs (omega arith) (omega (arith, f), omega (arith, f)))
    later rest (suc j) f = rest j (omega (arith, f))

    by : (b : Bool) → Later → (if b then n else place_from (n + 1) category codecs) ≡ n + k → slice_get (codec ∷ codecs) k ≡ (if b then Some codec else codec_of category codecs)
    by true rest f = let none : k ≡ 0 = omega (arith, f) in ap (slice_get (codec ∷ codecs)) none
    by false rest f = later rest k f

place_none : (n category : ℕ) (codecs : List Codec) → 1 ≤ n → place_from n category codecs ≡ 0 → None ≡ codec_of category codecs
place_none n category [] some e = refl
place_none n category (codec ∷ codecs) some e = by (codec.category == category) (λ f. place_none (n + 1) category codecs (omega arith) f) e
  where
    by : (b : Bool) → (place_from (n + 1) category codecs ≡ 0 → None ≡ codec_of category codecs) → (if b then n else place_from (n + 1) category codecs) ≡ 0 → None ≡ (if b then Some codec else codec_of category codecs)
    by true rest f = absurd (omega (arith, f))
    by false rest f = rest f

module _ (codecs : List Codec) (places : List ℕ) (category place : ℕ) (known : ArePlaces codecs 256 places) (few : category < 256) (is : place ≡ get_or places category 0) where
  pub no_codec : place ≡ 0 → None ≡ codec_of category codecs
  no_codec e = place_none 1 category codecs (omega arith) (sym (known.at category few) ∙ sym is ∙ e)

  pub codec_there : 0 < place → slice_get codecs (place - 1) ≡ codec_of category codecs
  codec_there some = place_found 1 category codecs (place - 1) (omega arith) (sym (known.at category few) ∙ sym is ∙ (let e : place ≡ 1 + (place - 1) = omega arith in e))
