-- Ranges that are kept.
use Rattle.std.proofs.Common.{◌≡◌, ℕ, zero, suc, ◌<◌, ◌⊎◌, inl, inr, List, length, get_or, set, replicate, refl, sym, ◌∙◌, ap, arith, subst}
use Rattle.std.proofs.lemmas.Bool.{cases_eq}
use Rattle.std.proofs.lemmas.List.{get_or-set_other, get_or-set_same, length-set}
use Rattle.ax_migrate_views.specs.Pieces.{AreKnown, IsKnown}
use Rattle.ax_migrate_views.specs.declared.pieces.KnownRange.{KnownRange}
use Rattle.ax_migrate_views.specs.Ranges.{FitsFrom}
use Rattle.ax_migrate_views.specs.declared.migrator.Migrator.{Migrator}

same_at : (n i : ℕ) (z r : KnownRange) → i < n → get_or (replicate n z) i r ≡ z
same_at zero i z r lt = absurd (omega (arith, lt))
same_at (suc n) zero z r lt = refl
same_at (suc n) (suc i) z r lt = same_at n i z r (omega (arith, lt))

sized : (n : ℕ) (z : KnownRange) → length (replicate n z) ≡ n
sized zero z = refl
sized (suc n) z = ap suc (sized n z)

pub none_kept : (m : Migrator) (body : List ℕ) (n : ℕ) (z : KnownRange) (ranges : List KnownRange) → ranges ≡ replicate n z → z.fit.count ≡ 0 → AreKnown m body ranges
none_kept m body n z ranges e none = record {
  at = λ i r lt is. (λ some. (
      let same : r ≡ z = is ∙ ap (λ x. get_or x i r) e ∙ same_at n i z r (omega (arith, lt, ap length e, sized n z)) in
      let zero_count : r.fit.count ≡ 0 = ap (λ (x : KnownRange). x.fit.count) same ∙ none in
      absurd (omega (arith, some, zero_count))));
}

pub one_kept : (m : Migrator) (body : List ℕ) (ranges new : List KnownRange) (j : ℕ) (one : KnownRange) → AreKnown m body ranges → j < length ranges → FitsFrom m body one.from one.fit → new ≡ set ranges j one → AreKnown m body new
one_kept m body ranges new j one h within own put = record {
  at = λ i r lt is. by i r lt is (cases_eq i j);
}
  where
    size : length new ≡ length ranges
    size = ap length put ∙ length-set ranges j one

    by : (i : ℕ) (r : KnownRange) → i < length new → r ≡ get_or new i r → (i ≡ j) ⊎ (i ≡ j → ⊥) → IsKnown m body r
    by i r lt is (inl e) =
        let same : r ≡ one = is ∙ (λ k. get_or (put k) (e k) r) ∙ get_or-set_same ranges j one r within in
        λ some. subst (λ (x : KnownRange). FitsFrom m body x.from x.fit) (sym same) own
    by i r lt is (inr d) = h.at i r (omega (arith, lt, size)) (is ∙ ap (λ x. get_or x i r) put ∙ get_or-set_other ranges j i one r d)

-- one that is kept, at its own place
pub kept_fit : (m : Migrator) (body : List ℕ) (ranges : List KnownRange) (i from : ℕ) (r : KnownRange) → AreKnown m body ranges → i < length ranges → r ≡ get_or ranges i r → r.from ≡ from → 0 < r.fit.count → FitsFrom m body from r.fit
kept_fit m body ranges i from r h lt is own some = subst (λ n. FitsFrom m body n r.fit) own (h.at i r lt is some)
