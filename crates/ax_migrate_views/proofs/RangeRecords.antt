-- Records by their octets: some of them spell those octets of the body.
use Rattle.std.proofs.Common.{◌≡◌, ℕ, zero, suc, ◌+◌, ◌<◌, ◌≤◌, List, [], ◌∷◌, ◌++◌, length, take, drop, flat_map, refl, sym, ◌∙◌, ap, arith, subst, append_assoc, append-nil, length-append, length-drop, take-append-drop, take-add}
use Rattle.std.proofs.Math.Seq.{take-append_seam}
use Rattle.std.proofs.lemmas.List.{drop_at, drop-drop}
use Rattle.std.proofs.lemmas.List.Concat.{flat_map-append}
use Rattle.std.specs.List.{AllZip}
use Rattle.ax_bits.proofs.Words.{bits-append}
use Rattle.ax_bits.specs.Bits.{bits}
use Rattle.ax_migrate_views.specs.Ranges.{shown_octets}
use Rattle.ax_format.specs.Bodies.{RecordsSpell}
use Rattle.ax_format.specs.Specification.{SpecTree}
use Rattle.ax_format.specs.Tree.{EntriesTree}
use Rattle.ax_codec.specs.declared.codec.Codec.{Codec}
use Rattle.ax_walk.specs.Views.{IsRecordOf}

-- ---- fronts of both lists

pub zip_take : {A B : Type 0} (P : A → B → Type 0) (n : ℕ) (xs : List A) (ys : List B) → AllZip P xs ys → AllZip P (take n xs) (take n ys)
zip_take P zero xs ys h = tt
zip_take P (suc n) [] [] h = tt
zip_take P (suc n) [] (y ∷ ys) h = absurd h
zip_take P (suc n) (x ∷ xs) [] h = absurd h
zip_take P (suc n) (x ∷ xs) (y ∷ ys) h = (h.0, zip_take P n xs ys h.1)

pub zip_drop : {A B : Type 0} (P : A → B → Type 0) (n : ℕ) (xs : List A) (ys : List B) → AllZip P xs ys → AllZip P (drop n xs) (drop n ys)
zip_drop P zero xs ys h = h
zip_drop P (suc n) [] [] h = tt
zip_drop P (suc n) [] (y ∷ ys) h = absurd h
zip_drop P (suc n) (x ∷ xs) [] h = absurd h
zip_drop P (suc n) (x ∷ xs) (y ∷ ys) h = zip_drop P n xs ys h.1

pub zip_length : {A B : Type 0} (P : A → B → Type 0) (xs : List A) (ys : List B) → AllZip P xs ys → length xs ≡ length ys
zip_length P [] [] h = refl
zip_length P [] (y ∷ ys) h = absurd h
zip_length P (x ∷ xs) [] h = absurd h
zip_length P (x ∷ xs) (y ∷ ys) h = ap suc (zip_length P xs ys h.1)

-- ---- what they spell

pub shown_spelled : (codec : Codec) (spec : SpecTree) (rs : List EntriesTree) (shown : List (Codec × List ℕ)) → AllZip (IsRecordOf codec spec) rs shown → RecordsSpell spec rs (bits (shown_octets shown))
shown_spelled codec spec [] [] h = refl
shown_spelled codec spec [] (s ∷ shown) h = absurd h
shown_spelled codec spec (r ∷ rs) [] h = absurd h
shown_spelled codec spec (r ∷ rs) (s ∷ shown) h = (bits s.1, bits (shown_octets shown), bits-append s.1 (shown_octets shown), h.0.1, shown_spelled codec spec rs shown h.1)

-- ---- their octets in the body

pub shown_split : (n : ℕ) (shown : List (Codec × List ℕ)) → shown_octets shown ≡ shown_octets (take n shown) ++ shown_octets (drop n shown)
shown_split n shown = ap shown_octets (sym (take-append-drop n shown)) ∙ flat_map-append (λ (s : Codec × List ℕ). s.1) (take n shown) (drop n shown)

pub shown_fewer : (n : ℕ) (shown : List (Codec × List ℕ)) → length (shown_octets (take n shown)) + length (shown_octets (drop n shown)) ≡ length (shown_octets shown)
shown_fewer n shown = sym (ap length (shown_split n shown) ∙ length-append (shown_octets (take n shown)) (shown_octets (drop n shown)))

pub range_is : (from count : ℕ) (shown : List (Codec × List ℕ)) → take (length (shown_octets (take count (drop from shown)))) (drop (length (shown_octets (take from shown))) (shown_octets shown)) ≡ shown_octets (take count (drop from shown))
range_is from count shown =
    let front = shown_octets (take from shown) in
    let later = shown_octets (drop from shown) in
    let here = shown_octets (take count (drop from shown)) in
    let rest = shown_octets (drop count (drop from shown)) in
    ap (λ x. take (length here) (drop (length front) x)) (shown_split from shown) ∙ ap (take (length here)) (drop_at front later (length front) refl)
    ∙ ap (take (length here)) (shown_split count (drop from shown)) ∙ take-append_seam here rest

-- ---- records that are gone over

-- the records in front have so many octets, and the others are left
pub record Skipped (start now : List (Codec × List ℕ)) (number count octets : ℕ) : Type 0 where
  pub within : count ≤ number
  pub left : now ≡ drop count start
  pub counted : octets ≡ length (shown_octets (take count start))

pub skip_begins : (start : List (Codec × List ℕ)) (number : ℕ) → Skipped start start number 0 0
skip_begins start number = record { within = omega arith; left = refl; counted = refl }

module _ (start now later : List (Codec × List ℕ)) (s : Codec × List ℕ) (number count octets : ℕ) (h : Skipped start now number count octets) (next : now ≡ s ∷ later) where
  front : take (count + 1) start ≡ take count start ++ s ∷ []
  front = take-add count 1 start ∙ ap (λ x. take count start ++ take 1 x) (sym h.left ∙ next)

  more : octets + length s.1 ≡ length (shown_octets (take (count + 1) start))
  more =
      let whole : shown_octets (take (count + 1) start) ≡ shown_octets (take count start) ++ (s.1 ++ []) = ap shown_octets front ∙ flat_map-append (λ (s : Codec × List ℕ). s.1) (take count start) (s ∷ []) in
      omega (arith, h.counted, ap length whole, length-append (shown_octets (take count start)) (s.1 ++ []), ap length (append-nil s.1))

  pub skip_within : length (shown_octets start) ≤ 65532 → octets + length s.1 ≤ 65532
  skip_within few = omega (arith, more, few, shown_fewer (count + 1) start)

  pub skip_more : (n : ℕ) → n ≡ length s.1 → count < number → Skipped start later number (count + 1) (octets + n)
  skip_more n is less = record {
    within = omega arith;
    left = (let e : s ∷ later ≡ drop count start = sym next ∙ h.left in ap (drop 1) e ∙ drop-drop 1 count start);
    counted = ap (λ k. octets + k) is ∙ more;
  }

pub skip_never : (start now : List (Codec × List ℕ)) (number count octets : ℕ) → Skipped start now number count octets → now ≡ [] → count < number → number ≤ length start → ⊥
skip_never start now number count octets h none less enough = omega (arith, length-drop count start, ap length (sym h.left ∙ none))

pub skip_ends : (start now : List (Codec × List ℕ)) (number count octets : ℕ) → Skipped start now number count octets → number ≤ count → count ≡ number
skip_ends start now number count octets h past = omega (arith, h.within, past)
