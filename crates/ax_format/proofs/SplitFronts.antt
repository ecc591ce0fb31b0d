-- Fronts of records, and how many octets their canonical blocks have.
use Rattle.std.proofs.Common.{◌≡◌, ℕ, zero, suc, ◌+◌, ◌*◌, ◌<◌, ◌≤◌, nat_le, Bool, true, false, cond, List, [], ◌∷◌, ◌++◌, length, take, drop, flat_map, refl, sym, ◌∙◌, ap, arith, subst, append_assoc, append-nil, length-append}
use Rattle.std.proofs.lemmas.Bool.{leb-true, leb-false, le-leb}
use Rattle.ax_format.proofs.CanonFramed.{length-framed}
use Rattle.ax_format.specs.Bodies.{CanonRecord, CanonBody}
use Rattle.ax_format.specs.CanonicalOctets.{octets_of}
use Rattle.ax_format.specs.Specification.{SpecTree}
use Rattle.ax_format.specs.Tree.{EntriesTree}
use Rattle.ax_format.specs.LongestFronts.{IsLongestFront}
use Rattle.ax_format.specs.Split.{records_length, fits_within, fit_after, fit_within}

-- ---- lengths

octets_within : (b : List ℕ) → (8 * length (octets_of b) ≤ length b) × (length b < 8 * length (octets_of b) + 8)
octets_within (a ∷ b ∷ c ∷ d ∷ e ∷ f ∷ g ∷ h ∷ more) = let t = octets_within more in (omega (arith, t.0), omega (arith, t.1))
octets_within _ = (omega arith, omega arith)

body_append : (spec : SpecTree) (rs ss : List EntriesTree) → CanonBody spec (rs ++ ss) ≡ CanonBody spec rs ++ CanonBody spec ss
body_append spec [] ss = refl
body_append spec (r ∷ rs) ss = ap (λ b. CanonRecord spec r ++ b) (body_append spec rs ss) ∙ sym (append_assoc (CanonRecord spec r) (CanonBody spec rs) (CanonBody spec ss))

-- more records have no fewer octets
pub longer : (spec : SpecTree) (rs ss : List EntriesTree) → records_length spec rs ≤ records_length spec (rs ++ ss)
longer spec rs ss =
    let a = octets_within (CanonBody spec rs) in
    let b = octets_within (CanonBody spec (rs ++ ss)) in
    let e = ap length (body_append spec rs ss) in
    omega (
      arith,
      a.0,
      b.1,
      e,
      length-append (CanonBody spec rs) (CanonBody spec ss),
      length-framed spec.category (octets_of (CanonBody spec rs)),
      length-framed spec.category (octets_of (CanonBody spec (rs ++ ss))),
    )

pub empty_length : (spec : SpecTree) → records_length spec [] ≡ 3
empty_length spec = length-framed spec.category []

-- ---- as many as fit

pub fit_few : (room : ℕ) (spec : SpecTree) (taken rs : List EntriesTree) → fit_after room spec taken rs ≤ length rs
fit_few room spec taken [] = omega arith
fit_few room spec taken (r ∷ rs) = by (fits_within room spec (taken ++ r ∷ [])) (fit_few room spec (taken ++ r ∷ []) rs)
  where
    by : (b : Bool) → fit_after room spec (taken ++ r ∷ []) rs ≤ length rs → cond b (suc (fit_after room spec (taken ++ r ∷ []) rs)) 0 ≤ suc (length rs)
    by true h = omega arith
    by false h = omega arith

-- those before and as many as fit do so together
pub fit_fits : (room : ℕ) (spec : SpecTree) (taken rs : List EntriesTree) → records_length spec taken ≤ room → records_length spec (taken ++ take (fit_after room spec taken rs) rs) ≤ room
fit_fits room spec taken [] h = let P : List EntriesTree → Type 0 = λ x. records_length spec x ≤ room in subst P (sym (append-nil taken)) h
fit_fits room spec taken (r ∷ rs) h = by (fits_within room spec (taken ++ r ∷ [])) refl (λ k. fit_fits room spec (taken ++ r ∷ []) rs k)
  where
    P : List EntriesTree → Type 0
    P = λ x. records_length spec x ≤ room

    by : (b : Bool) → fits_within room spec (taken ++ r ∷ []) ≡ b → (records_length spec (taken ++ r ∷ []) ≤ room → records_length spec ((taken ++ r ∷ []) ++ take (fit_after room spec (taken ++ r ∷ []) rs) rs) ≤ room)
        → records_length spec (taken ++ take (cond b (suc (fit_after room spec (taken ++ r ∷ []) rs)) 0) (r ∷ rs)) ≤ room
    by true e later = subst P (append_assoc taken (r ∷ []) (take (fit_after room spec (taken ++ r ∷ []) rs) rs)) (later (leb-true (records_length spec (taken ++ r ∷ [])) room e))
    by false e later = subst P (sym (append-nil taken)) h

-- a front that fits behind those before is no longer
pub fit_most : (room : ℕ) (spec : SpecTree) (taken rs other later : List EntriesTree) → rs ≡ other ++ later → records_length spec (taken ++ other) ≤ room → length other ≤ fit_after room spec taken rs
fit_most room spec taken rs [] later e h = omega arith
fit_most room spec taken [] (o ∷ other) later e h = cc
fit_most room spec taken (r ∷ rs) (o ∷ other) later e h = by (fits_within room spec (taken ++ r ∷ [])) refl (λ k. fit_most room spec (taken ++ r ∷ []) rs other later rest k)
  where
    first : r ≡ o
    first = cc

    rest : rs ≡ other ++ later
    rest = cc

    P : List EntriesTree → Type 0
    P = λ x. records_length spec x ≤ room

    all : records_length spec ((taken ++ r ∷ []) ++ other) ≤ room
    all = subst P (ap (λ x. taken ++ x ∷ other) (sym first) ∙ sym (append_assoc taken (r ∷ []) other)) h

    by : (b : Bool) → fits_within room spec (taken ++ r ∷ []) ≡ b → (records_length spec ((taken ++ r ∷ []) ++ other) ≤ room → length other ≤ fit_after room spec (taken ++ r ∷ []) rs)
        → suc (length other) ≤ cond b (suc (fit_after room spec (taken ++ r ∷ []) rs)) 0
    by true e later = let k = later all in omega arith
    by false e later =
        let k = leb-false (records_length spec (taken ++ r ∷ [])) room e in
        let l = longer spec (taken ++ r ∷ []) other in absurd (omega (arith, all, k, l))

take_drop : (n : ℕ) (rs : List EntriesTree) → rs ≡ take n rs ++ drop n rs
take_drop zero rs = refl
take_drop (suc n) [] = refl
take_drop (suc n) (r ∷ rs) = ap (λ l. r ∷ l) (take_drop n rs)

take_length : (n : ℕ) (rs : List EntriesTree) → n ≤ length rs → length (take n rs) ≡ n
take_length zero rs h = refl
take_length (suc n) [] h = absurd (omega arith)
take_length (suc n) (r ∷ rs) h = ap suc (take_length n rs (omega arith))

pub longest_front : (room : ℕ) (spec : SpecTree) (records : List EntriesTree) → 3 ≤ room → IsLongestFront room spec records (take (fit_within room spec records) records) (drop (fit_within room spec records) records)
longest_front room spec records some = record {
  split = take_drop (fit_within room spec records) records;
  fits = fit_fits room spec [] records (omega (arith, empty_length spec));
  longest = λ other later e h. let k = fit_most room spec [] records other later e h in let l = take_length (fit_within room spec records) records (fit_few room spec [] records) in omega arith;
}

pub fit_within_records : (room : ℕ) (spec : SpecTree) (records : List EntriesTree) → fit_within room spec records ≤ length records
fit_within_records room spec records = fit_few room spec [] records

pub none_fits : (room : ℕ) (spec : SpecTree) (r : EntriesTree) (rs : List EntriesTree) → fit_within room spec (r ∷ rs) ≡ 0 → room < records_length spec (r ∷ [])
none_fits room spec r rs e = by (fits_within room spec (r ∷ [])) refl e
  where
    by : (b : Bool) → fits_within room spec (r ∷ []) ≡ b → cond b (suc (fit_after room spec (r ∷ []) rs)) 0 ≡ 0 → room < records_length spec (r ∷ [])
    by true f e = absurd (omega arith)
    by false f e = leb-false (records_length spec (r ∷ [])) room f
