-- The keys that are watched, one at a time.
use Rattle.std.proofs.Common.{◌≡◌, ℕ, zero, suc, ◌+◌, ◌-◌, ◌<◌, ◌≤◌, true, List, [], ◌∷◌, ◌++◌, length, take, drop, get_or, refl, sym, ◌∙◌, ap, arith, subst}
use Rattle.std.proofs.lemmas.List.{length-append}
use Rattle.std.specs.List.{AllByRecursion}
use Rattle.ax_format.specs.Specification.{SpecTree}
use Rattle.ax_relation.specs.declared.relation.RelationPath.{RelationPath}
use Rattle.ax_rescale.specs.Watching.{begins, IsWatched, AreWatched, target_of}
use Rattle.ax_rescale.specs.declared.watches.Watch.{Watch}

-- what holds of the first members holds of one more
pub all_first : {A : Type 0} (P : A → Type 0) (i : ℕ) (xs : List A) (x : A) → i < length xs → x ≡ get_or xs i x → P x → AllByRecursion P (take i xs) → AllByRecursion P (take (i + 1) xs)
all_first {A = A} P i xs x within is h all = subst (λ n. AllByRecursion P (take n xs)) (let e : suc i ≡ i + 1 = omega arith in e) (by i xs within is all)
  where
    by : (i : ℕ) (xs : List A) → i < length xs → x ≡ get_or xs i x → AllByRecursion P (take i xs) → AllByRecursion P (take (suc i) xs)
    by i [] within is all = absurd (omega arith)
    by zero (y ∷ ys) within is all = (subst P is h, tt)
    by (suc i) (y ∷ ys) within is all = (all.0, by i ys (omega arith) is all.1)

-- ---- one key more

pub watched_more : (old new : SpecTree) (ws : List Watch) (ps : List RelationPath) (i : ℕ) (w : Watch) (p : RelationPath) → length ws ≡ i → i < length ps → p ≡ get_or ps i p → AreWatched old new ws ps
    → IsWatched old new w p (drop (i + 1) ps) → AreWatched old new (ws ++ w ∷ []) ps
watched_more old new ws ps i w p counted within is h one = by ws ps i counted within is h (subst (λ n. IsWatched old new w p (drop n ps)) (let e : i + 1 ≡ suc i = omega arith in e) one)
  where
    by : (ws : List Watch) (ps : List RelationPath) (i : ℕ) → length ws ≡ i → i < length ps → p ≡ get_or ps i p → AreWatched old new ws ps → IsWatched old new w p (drop (suc i) ps) → AreWatched old new (ws ++ w ∷ []) ps
    by ws [] i counted within is h one = absurd (omega arith)
    by [] (q ∷ ps) zero counted within is h one = let P : RelationPath → Type 0 = λ x. IsWatched old new w x ps in (subst P is one, tt)
    by [] (q ∷ ps) (suc i) counted within is h one = absurd (omega (arith, counted))
    by (v ∷ ws) (q ∷ ps) zero counted within is h one = absurd (omega (arith, counted))
    by (v ∷ ws) (q ∷ ps) (suc i) counted within is h one = (h.0, by ws ps i (omega (arith, counted)) (omega arith) is h.1 one)

-- ---- the key at an index

pub record At (old new : SpecTree) (w : Watch) (ps : List RelationPath) (i : ℕ) : Type 0 where
  pub path : RelationPath
  pub later : List RelationPath
  pub here : drop i ps ≡ path ∷ later
  pub next : drop (i + 1) ps ≡ later
  pub watched : IsWatched old new w path later

pub watched_at : (old new : SpecTree) (ws : List Watch) (ps : List RelationPath) (i : ℕ) (w : Watch) → i < length ws → w ≡ get_or ws i w → AreWatched old new ws ps → At old new w ps i
watched_at old new [] ps i w within is h = absurd (omega arith)
watched_at old new (v ∷ ws) [] i w within is h = absurd h
watched_at old new (v ∷ ws) (p ∷ ps) zero w within is h = record { path = p; later = ps; here = refl; next = refl; watched = let P : Watch → Type 0 = λ x. IsWatched old new x p ps in subst P (sym is) h.0 }
watched_at old new (v ∷ ws) (p ∷ ps) (suc i) w within is h =
    let a = watched_at old new ws ps i w (omega arith) is h.1 in
    record { path = a.path; later = a.later; here = a.here; next = ap (λ n. drop n (p ∷ ps)) (let e : suc i + 1 ≡ suc (i + 1) = omega arith in e) ∙ a.next; watched = a.watched }

-- so many keys are left behind it as it skips
pub few_left : (old new : SpecTree) (w : Watch) (ps : List RelationPath) (i : ℕ) → At old new w ps i → i + 1 + w.skip ≤ length ps
few_left old new w ps i a =
    let few = a.watched.few in
    let whole : length (drop i ps) ≡ suc (length a.later) = ap (λ (l : List RelationPath). length l) a.here in
    let left = dropped i ps in omega (arith, few, whole, left)
  where
    dropped : (i : ℕ) (ps : List RelationPath) → length (drop i ps) ≡ length ps - i
    dropped zero ps = omega arith
    dropped (suc i) [] = omega arith
    dropped (suc i) (p ∷ ps) = dropped i ps ∙ omega arith

pub none_watched : (old new : SpecTree) (ws : List Watch) (ps : List RelationPath) → ws ≡ [] → AreWatched old new ws ps
none_watched old new [] ps e = tt
none_watched old new (w ∷ ws) ps e = absurd (cc)

pub more_counted : (ws ws' : List Watch) (w : Watch) (i : ℕ) → ws' ≡ ws ++ w ∷ [] → length ws ≡ i → length ws' ≡ i + 1
more_counted ws ws' w i e counted = ap (λ (l : List Watch). length l) e ∙ length-append ws (w ∷ []) ∙ ap (λ k. k + 1) counted

pub watched_push : (old new : SpecTree) (ws ws' : List Watch) (ps : List RelationPath) (i : ℕ) (w : Watch) (p : RelationPath) → ws' ≡ ws ++ w ∷ [] → length ws ≡ i → i < length ps → p ≡ get_or ps i p → AreWatched old new ws ps
    → w.path.now ≡ p → w.target ≡ target_of old new p → w.skip ≤ length (drop (i + 1) ps) → AllByRecursion (λ (q : RelationPath). begins p.old q.old ≡ true) (take w.skip (drop (i + 1) ps)) → AreWatched old new ws' ps
watched_push old new ws ws' ps i w p e counted within is h path target few below =
    subst (λ (l : List Watch). AreWatched old new l ps) (sym e) (watched_more old new ws ps i w p counted within is h (record { path = path; target = target; few = few; below = below }))
