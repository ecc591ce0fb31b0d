-- Kinds, records and bodies of a specification without flaw are spelled once or fail once.
use Rattle.std.proofs.Common.{◌≡◌, ℕ, ◌<◌, ◌≤◌, ◌⊎◌, inl, inr, List, ◌++◌, length, take, drop, sym, ◌∙◌, ap, arith, take-append-drop, length-take-le, subst}
use Rattle.ax_bits.proofs.Words.{bits-append, length-bits}
use Rattle.ax_bits.specs.Bits.{bits}
use Rattle.ax_format.proofs.Bounds.{standing_bounds, bounds_sound, bounds_whole, record_bounds}
use Rattle.ax_model.proofs.Fronts.{octets_spelled_or_fails}
use Rattle.ax_format.proofs.Once.{fails_once, never_both, body_spelled_or_fails, body_once, body_fails_once, body_never_both}
use Rattle.ax_format.proofs.PrefixFree.{prefix_free}
use Rattle.ax_format.specs.Bodies.{FailsRecord, SpellsBody, FailsBody}
use Rattle.ax_format.specs.Failing.{Fails}
use Rattle.ax_format.specs.Flaws.{NoFlaw}
use Rattle.ax_model.specs.Judging.{FrontSpells, IsJudgedOnce, FrontSpellsRecord}
use Rattle.ax_format.specs.Sound.{Sound}
use Rattle.ax_format.specs.Specification.{SpecTree, record_kind}
use Rattle.ax_format.specs.Spelling.{Spells}
use Rattle.ax_format.specs.Standing.{StandsIn}
use Rattle.ax_format.specs.Tree.{KindTree, ValueTree, EntriesTree, marked}
use Rattle.ax_format.specs.Whole.{Whole}
use Rattle.ax_format.specs.declared.fault.BodyCause.{BodyCause}

bits_front : (n : ℕ) (xs : List ℕ) → bits (take n xs) ++ bits (drop n xs) ≡ bits xs
bits_front n xs = sym (bits-append (take n xs) (drop n xs)) ∙ ap bits (take-append-drop n xs)

same_count : (m n : ℕ) (xs : List ℕ) → m ≤ length xs → n ≤ length xs → bits (take m xs) ≡ bits (take n xs) → m ≡ n
same_count m n xs p q e =
    omega (arith, ap length e, length-bits (take m xs), length-bits (take n xs), length-take-le m xs p, length-take-le n xs q)

-- two fronts of octets that a kind's values spell
same_front : (k : KindTree) (xs : List ℕ) (v w : ValueTree) (m n : ℕ) → FrontSpells k xs (v, m) → FrontSpells k xs (w, n) → (v ≡ w) × (m ≡ n)
same_front k xs v w m n h g =
    let t = prefix_free k v w (bits (take m xs)) (bits (take n xs)) (bits (drop m xs)) (bits (drop n xs)) h.1 g.1 (bits_front m xs ∙ sym (bits_front n xs)) in
    (t.1, same_count m n xs h.0 g.0 t.0)

front_or_fault : (k : KindTree) (xs : List ℕ) → ((v : ValueTree) × (n : ℕ) × (n ≤ length xs) × Spells k v (bits (take n xs))) ⊎ ((p : ℕ) × (c : BodyCause) × Fails k (bits xs) p c)
    → ((a : ValueTree × ℕ) × FrontSpells k xs a) ⊎ ((p : ℕ) × (c : BodyCause) × Fails k (bits xs) p c)
front_or_fault k xs (inl (v, n, le, h)) = inl ((v, n), (le, h))
front_or_fault k xs (inr h) = inr h

pub kind_judged : (k : KindTree) (xs : List ℕ) → Sound k → Whole k → IsJudgedOnce (FrontSpells k xs) (Fails k (bits xs))
kind_judged k xs sound whole = record {
  some = front_or_fault k xs (octets_spelled_or_fails k xs sound whole);
  one_spelled = λ a d h g. (let t = same_front k xs a.0 d.0 a.1 d.1 h g in λ i. (t.0 i, t.1 i));
  one_fault = λ p q c d h g. fails_once k (bits xs) p q c d h g;
  never_both = λ a p c h g. never_both k a.0 (bits (take a.1 xs)) (bits (drop a.1 xs)) p c h.1 (subst (λ b. Fails k b p c) (sym (bits_front a.1 xs)) g);
}

-- ---- records

record_or_fault : (spec : SpecTree) (xs : List ℕ) → ((v : ValueTree) × (n : ℕ) × (n ≤ length xs) × Spells (record_kind spec) v (bits (take n xs))) ⊎ ((p : ℕ) × (c : BodyCause) × Fails (record_kind spec) (bits xs) p c)
    → ((a : EntriesTree × ℕ) × FrontSpellsRecord spec xs a) ⊎ ((p : ℕ) × (c : BodyCause) × FailsRecord spec (bits xs) p c)
record_or_fault spec xs (inl (marked es, n, le, h)) = inl ((es, n), (le, record { spells = h }))
record_or_fault spec xs (inl (_, n, le, h)) = absurd h
record_or_fault spec xs (inr (p, c, h)) = inr (p, c, record { fails = h })

entries_same : {es fs : EntriesTree} → marked es ≡ marked fs → es ≡ fs
entries_same e = cc

pub record_judged : (spec : SpecTree) (xs : List ℕ) → Sound (record_kind spec) → Whole (record_kind spec) → IsJudgedOnce (FrontSpellsRecord spec xs) (FailsRecord spec (bits xs))
record_judged spec xs sound whole = let kind = kind_judged (record_kind spec) xs sound whole in record {
  some = record_or_fault spec xs (octets_spelled_or_fails (record_kind spec) xs sound whole);
  one_spelled = λ a d h g. (let t = same_front (record_kind spec) xs (marked a.0) (marked d.0) a.1 d.1 (h.0, h.1.spells) (g.0, g.1.spells) in λ i. (entries_same t.0 i, t.1 i));
  one_fault = λ p q c d h g. kind.one_fault p q c d h.fails g.fails;
  never_both = λ a p c h g. kind.never_both (marked a.0, a.1) p c (h.0, h.1.spells) g.fails;
}

-- ---- bodies

pub body_judged : (spec : SpecTree) (xs : List ℕ) → Sound (record_kind spec) → 0 < length xs → IsJudgedOnce (λ rs. SpellsBody spec rs (bits xs)) (FailsBody spec (bits xs))
body_judged spec xs sound some = record {
  some = body_spelled_or_fails spec xs sound some;
  one_spelled = λ rs ss h g. body_once spec (bits xs) rs ss h g;
  one_fault = λ p q c d h g. body_fails_once spec (bits xs) p q c d h g;
  never_both = λ rs p c h g. body_never_both spec (bits xs) rs p c h g;
}

-- ---- of a specification without flaw

pub standing_judged : (spec : SpecTree) (k : KindTree) (xs : List ℕ) → NoFlaw spec → StandsIn spec k → IsJudgedOnce (FrontSpells k xs) (Fails k (bits xs))
standing_judged spec k xs h s = let b = standing_bounds spec k h s in kind_judged k xs (bounds_sound k b) (bounds_whole k b)

pub records_judged : (spec : SpecTree) (xs : List ℕ) → NoFlaw spec → IsJudgedOnce (FrontSpellsRecord spec xs) (FailsRecord spec (bits xs))
records_judged spec xs h = let b = record_bounds spec h in record_judged spec xs (bounds_sound (record_kind spec) b) (bounds_whole (record_kind spec) b)

pub bodies_judged : (spec : SpecTree) (xs : List ℕ) → NoFlaw spec → 0 < length xs → IsJudgedOnce (λ rs. SpellsBody spec rs (bits xs)) (FailsBody spec (bits xs))
bodies_judged spec xs h some = body_judged spec xs (bounds_sound (record_kind spec) (record_bounds spec h)) some
