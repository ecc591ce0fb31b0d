-- Records split into lists.
use Rattle.std.proofs.Common.{◌≡◌, ℕ, zero, suc, ◌+◌, ◌<◌, ◌≤◌, nat_le, Bool, true, false, cond, List, [], ◌∷◌, ◌++◌, length, take, drop, Option, Some, None, refl, sym, ◌∙◌, ap, arith, subst, append_assoc, append-nil, length-append}
use Rattle.std.proofs.lemmas.Bool.{leb-true, leb-false, le-leb}
use Rattle.ax_format.specs.Specification.{SpecTree}
use Rattle.ax_format.specs.Tree.{EntriesTree}
use Rattle.ax_format.proofs.SplitFronts.{longest_front, none_fits}
use Rattle.ax_format.specs.LongestFronts.{AllFit, AreLongestFronts, IsLongestFront, joined_lists}
use Rattle.ax_format.specs.Split.{EachFits, records_length, fits_within, fit_after, fit_within, split_after, split_within, too_long_within}

-- ---- by the first list

-- after those that are taken: as many more as fit, and the others by themselves
after_fit : (room : ℕ) (spec : SpecTree) (taken rs : List EntriesTree) → split_after room spec taken rs ≡ (taken ++ take (fit_after room spec taken rs) rs) ∷ split_within room spec (drop (fit_after room spec taken rs) rs)
after_fit room spec taken [] = ap (λ x. x ∷ []) (sym (append-nil taken))
after_fit room spec taken (r ∷ rs) = by (fits_within room spec (taken ++ r ∷ [])) (after_fit room spec (taken ++ r ∷ []) rs)
  where
    by : (b : Bool) → split_after room spec (taken ++ r ∷ []) rs ≡ ((taken ++ r ∷ []) ++ take (fit_after room spec (taken ++ r ∷ []) rs) rs) ∷ split_within room spec (drop (fit_after room spec (taken ++ r ∷ []) rs) rs)
        → cond b (split_after room spec (taken ++ r ∷ []) rs) (taken ∷ split_after room spec (r ∷ []) rs)
        ≡ (taken ++ take (cond b (suc (fit_after room spec (taken ++ r ∷ []) rs)) 0) (r ∷ rs)) ∷ split_within room spec (drop (cond b (suc (fit_after room spec (taken ++ r ∷ []) rs)) 0) (r ∷ rs))
    by true later = later ∙ ap (λ x. x ∷ split_within room spec (drop (fit_after room spec (taken ++ r ∷ []) rs) rs)) (append_assoc taken (r ∷ []) (take (fit_after room spec (taken ++ r ∷ []) rs) rs))
    by false later = ap (λ x. x ∷ split_after room spec (r ∷ []) rs) (sym (append-nil taken))

pub by_fit : (room : ℕ) (spec : SpecTree) (records : List EntriesTree) (n : ℕ) → fit_within room spec records ≡ n → 0 < n → split_within room spec records ≡ take n records ∷ split_within room spec (drop n records)
by_fit room spec [] n e some = absurd (omega (arith, e))
by_fit room spec (r ∷ rs) n e some = by (fits_within room spec (r ∷ [])) e
  where
    by : (b : Bool) → cond b (suc (fit_after room spec (r ∷ []) rs)) 0 ≡ n → split_after room spec (r ∷ []) rs ≡ take n (r ∷ rs) ∷ split_within room spec (drop n (r ∷ rs))
    by true f = after_fit room spec (r ∷ []) rs ∙ ap (λ m. take m (r ∷ rs) ∷ split_within room spec (drop m (r ∷ rs))) f
    by false f = absurd (omega (arith, f, some))

-- ---- joined, they are the records

joined_after : (room : ℕ) (spec : SpecTree) (taken rs : List EntriesTree) → joined_lists (split_after room spec taken rs) ≡ taken ++ rs
joined_after room spec taken [] = refl
joined_after room spec taken (r ∷ rs) = by (fits_within room spec (taken ++ r ∷ [])) (joined_after room spec (taken ++ r ∷ []) rs) (joined_after room spec (r ∷ []) rs)
  where
    by : (b : Bool) → joined_lists (split_after room spec (taken ++ r ∷ []) rs) ≡ (taken ++ r ∷ []) ++ rs → joined_lists (split_after room spec (r ∷ []) rs) ≡ r ∷ rs
        → joined_lists (cond b (split_after room spec (taken ++ r ∷ []) rs) (taken ∷ split_after room spec (r ∷ []) rs)) ≡ taken ++ r ∷ rs
    by true one other = one ∙ append_assoc taken (r ∷ []) rs
    by false one other = ap (λ x. taken ++ x) other

pub joined_records : (room : ℕ) (spec : SpecTree) (records : List EntriesTree) → joined_lists (split_within room spec records) ≡ records
joined_records room spec [] = refl
joined_records room spec (r ∷ rs) = joined_after room spec (r ∷ []) rs

-- ---- each fits

fit_lists : (room : ℕ) (spec : SpecTree) (taken rs : List EntriesTree) → 0 < length taken → records_length spec taken ≤ room → EachFits room spec rs → AllFit room spec (split_after room spec taken rs)
fit_lists room spec taken [] some fits each = (some, fits, tt)
fit_lists room spec taken (r ∷ rs) some fits each =
    by (fits_within room spec (taken ++ r ∷ [])) refl (λ a b. fit_lists room spec (taken ++ r ∷ []) rs a b each.1) (fit_lists room spec (r ∷ []) rs (omega arith) each.0 each.1)
  where
    by : (b : Bool) → fits_within room spec (taken ++ r ∷ []) ≡ b → (0 < length (taken ++ r ∷ []) → records_length spec (taken ++ r ∷ []) ≤ room → AllFit room spec (split_after room spec (taken ++ r ∷ []) rs))
        → AllFit room spec (split_after room spec (r ∷ []) rs) → AllFit room spec (cond b (split_after room spec (taken ++ r ∷ []) rs) (taken ∷ split_after room spec (r ∷ []) rs))
    by true e one other = one (omega (arith, length-append taken (r ∷ []))) (leb-true (records_length spec (taken ++ r ∷ [])) room e)
    by false e one other = (some, fits, other)

pub all_fit : (room : ℕ) (spec : SpecTree) (records : List EntriesTree) → EachFits room spec records → AllFit room spec (split_within room spec records)
all_fit room spec [] each = tt
all_fit room spec (r ∷ rs) each = fit_lists room spec (r ∷ []) rs (omega arith) each.0 each.1

-- ---- longest fronts

each_later : (room : ℕ) (spec : SpecTree) (n : ℕ) (rs : List EntriesTree) → EachFits room spec rs → EachFits room spec (drop n rs)
each_later room spec zero rs h = h
each_later room spec (suc n) [] h = tt
each_later room spec (suc n) (r ∷ rs) h = each_later room spec n rs h.1

some_fit : (room : ℕ) (spec : SpecTree) (r : EntriesTree) (rs : List EntriesTree) → EachFits room spec (r ∷ rs) → 0 < fit_within room spec (r ∷ rs)
some_fit room spec r rs h = by (fits_within room spec (r ∷ [])) refl
  where
    by : (b : Bool) → fits_within room spec (r ∷ []) ≡ b → 0 < cond b (suc (fit_after room spec (r ∷ []) rs)) 0
    by true e = omega arith
    by false e = absurd (omega (arith, leb-false (records_length spec (r ∷ [])) room e, h.0))

drop_shorter : (n : ℕ) (r : EntriesTree) (rs : List EntriesTree) → 0 < n → length (drop n (r ∷ rs)) ≤ length rs
drop_shorter zero r rs h = absurd (omega arith)
drop_shorter (suc n) r rs h = fewer n rs
  where
    fewer : (n : ℕ) (rs : List EntriesTree) → length (drop n rs) ≤ length rs
    fewer zero rs = omega arith
    fewer (suc n) [] = omega arith
    fewer (suc n) (r ∷ rs) = let h = fewer n rs in omega arith

-- by induction over a bound of the count of records
fronts_by : (bound room : ℕ) (spec : SpecTree) (records : List EntriesTree) → length records ≤ bound → 3 ≤ room → EachFits room spec records → AreLongestFronts room spec records (split_within room spec records)
fronts_by bound room spec [] few some each = refl
fronts_by zero room spec (r ∷ rs) few some each = absurd (omega arith)
fronts_by (suc bound) room spec (r ∷ rs) few some each =
    let n = fit_within room spec (r ∷ rs) in
    let pos = some_fit room spec r rs each in
    let shorter = drop_shorter n r rs pos in
    let later = fronts_by bound room spec (drop n (r ∷ rs)) (omega arith) some (each_later room spec n (r ∷ rs) each) in
    let P : List (List EntriesTree) → Type 0 = λ x. AreLongestFronts room spec (r ∷ rs) x in
    subst P (sym (by_fit room spec (r ∷ rs) n refl pos)) (drop n (r ∷ rs), taken n pos (r ∷ rs) (omega arith), longest_front room spec (r ∷ rs) some, later)
  where
    taken : (n : ℕ) → 0 < n → (rs : List EntriesTree) → 0 < length rs → 0 < length (take n rs)
    taken zero h rs k = absurd (omega arith)
    taken (suc n) h [] k = absurd (omega arith)
    taken (suc n) h (r ∷ rs) k = omega arith

pub longest_fronts : (room : ℕ) (spec : SpecTree) (records : List EntriesTree) → 3 ≤ room → EachFits room spec records → AreLongestFronts room spec records (split_within room spec records)
longest_fronts room spec records some each = fronts_by (length records) room spec records (omega arith) some each

-- ---- no other lists

front_is : (a b x y : List EntriesTree) → a ++ x ≡ b ++ y → length a ≡ length b → (a ≡ b) × (x ≡ y)
front_is [] [] x y e l = (refl, e)
front_is [] (o ∷ b) x y e l = absurd (omega (arith, l))
front_is (o ∷ a) [] x y e l = absurd (omega (arith, l))
front_is (o ∷ a) (p ∷ b) x y e l =
    let first : o ≡ p = cc in
    let rest : a ++ x ≡ b ++ y = cc in
    let t = front_is a b x y rest (omega (arith, l)) in (λ i. first i ∷ t.0 i, t.1)

same_front : (room : ℕ) (spec : SpecTree) (records a x b y : List EntriesTree) → IsLongestFront room spec records a x → IsLongestFront room spec records b y → (a ≡ b) × (x ≡ y)
same_front room spec records a x b y f g =
    let p = f.longest b y g.split g.fits in
    let q = g.longest a x f.split f.fits in front_is a b x y (sym f.split ∙ g.split) (omega arith)

same_lists : (room : ℕ) (spec : SpecTree) (lists others : List (List EntriesTree)) (records : List EntriesTree) → AreLongestFronts room spec records lists → AreLongestFronts room spec records others → lists ≡ others
same_lists room spec [] [] records p q = refl
same_lists room spec [] (b ∷ others) records p q = absurd (no_front b q.0 (q.2.split) q.1 p)
  where
    no_front : (b y : List EntriesTree) → records ≡ b ++ y → 0 < length b → records ≡ [] → ⊥
    no_front [] y e k f = absurd (omega arith)
    no_front (o ∷ b) y e k f = absurd (cc)
same_lists room spec (a ∷ lists) [] records p q = absurd (no_front a p.0 (p.2.split) p.1 q)
  where
    no_front : (b y : List EntriesTree) → records ≡ b ++ y → 0 < length b → records ≡ [] → ⊥
    no_front [] y e k f = absurd (omega arith)
    no_front (o ∷ b) y e k f = absurd (cc)
same_lists room spec (a ∷ lists) (b ∷ others) records p q =
    let t = same_front room spec records a p.0 b q.0 p.2 q.2 in
    let P : List EntriesTree → Type 0 = λ x. AreLongestFronts room spec x lists in
    let rest = same_lists room spec lists others q.0 (subst P t.1 p.3) q.3 in λ i. t.0 i ∷ rest i

pub one_way : (room : ℕ) (spec : SpecTree) (records : List EntriesTree) (lists : List (List EntriesTree)) → 3 ≤ room → EachFits room spec records → AreLongestFronts room spec records lists → lists ≡ split_within room spec records
one_way room spec records lists some each h = same_lists room spec lists (split_within room spec records) records h (longest_fronts room spec records some each)

-- ---- records that are too long

pub none_long : (room : ℕ) (spec : SpecTree) (records : List EntriesTree) → too_long_within room spec records ≡ None → EachFits room spec records
none_long room spec [] e = tt
none_long room spec (r ∷ rs) e = by (fits_within room spec (r ∷ [])) refl (λ f. none_long room spec rs f) e
  where
    by : (b : Bool) → fits_within room spec (r ∷ []) ≡ b → (too_long_within room spec rs ≡ None → EachFits room spec rs) → cond b (too_long_within room spec rs) (Some (records_length spec (r ∷ []))) ≡ None → EachFits room spec (r ∷ rs)
    by true f later e = (leb-true (records_length spec (r ∷ [])) room f, later e)
    by false f later e = cc

pub one_long : (room : ℕ) (spec : SpecTree) (records : List EntriesTree) (count : ℕ) → too_long_within room spec records ≡ Some count → (EachFits room spec records → ⊥) × (room < count)
one_long room spec [] count e = cc
one_long room spec (r ∷ rs) count e = by (fits_within room spec (r ∷ [])) refl (λ f. one_long room spec rs count f) e
  where
    by : (b : Bool) → fits_within room spec (r ∷ []) ≡ b → (too_long_within room spec rs ≡ Some count → (EachFits room spec rs → ⊥) × (room < count)) → cond b (too_long_within room spec rs) (Some (records_length spec (r ∷ []))) ≡ Some count
        → (EachFits room spec (r ∷ rs) → ⊥) × (room < count)
    by true f later e = let t = later e in (λ each. t.0 each.1, t.1)
    by false f later e =
        let long = leb-false (records_length spec (r ∷ [])) room f in
        let is : records_length spec (r ∷ []) ≡ count = cc in (λ each. absurd (omega (arith, long, each.0)), omega (arith, long, is))
