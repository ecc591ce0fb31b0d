-- Which items stay as they are, slot by slot, and which keys are of others.
use Rattle.std.proofs.Common.{◌≡◌, ℕ, ◌+◌, ◌<◌, ◌≤◌, ◌⊎◌, inl, inr, Option, Some, None, List, [], ◌∷◌, ◌++◌, length, drop, get_or, sym, ◌∙◌, ap, arith, subst, length-append}
use Rattle.std.proofs.lemmas.Bool.{cases_eq}
use Rattle.std.proofs.lemmas.List.{drop_all, get_or_append_left, get_or_at}
use Rattle.ax_relation.specs.Moves.{MovesTree}
use Rattle.ax_migrate_views.specs.Kept.{IsPast, IsPastPart, IsShortSlot, OfEach, ShortStay, StaysShort}
use Rattle.ax_moves.specs.Lost.{key_path}
use Rattle.ax_moves.specs.declared.lost.LostKey.{LostKey}
use Rattle.ax_format.proofs.Namings.{from_place}
use Rattle.ax_codec.specs.declared.node.Node.{Node}

-- ---- one key after the other

-- what holds of each key that is left decides what holds of each
abbrev pub LeftDecides : (LostKey → Type 0) → List LostKey → ℕ → Type 0
LeftDecides P keys i = OfEach P (drop i keys) → OfEach P keys

module _ (P : LostKey → Type 0) (keys : List LostKey) (i : ℕ) (h : LeftDecides P keys i) where
  pub each_next : (k : LostKey) → i < length keys → k ≡ get_or keys i k → P k → LeftDecides P keys (i + 1)
  each_next k within is own later = h (subst (OfEach P) (sym (from_place keys i k within is)) (own, later))

  pub each_last : length keys ≤ i → OfEach P keys
  each_last past = h (subst (OfEach P) (sym (drop_all i keys past)) tt)

-- ---- keys of one slot

past_part : (m n : ℕ) (o : Option ℕ) → m ≤ n → IsPastPart n o → IsPastPart m o
past_part m n None le h = absurd h
past_part m n (Some part) le h = omega (arith, le, h)

pub past_less : (s m n : ℕ) (k : LostKey) → m ≤ n → IsPast s n k → IsPast s m k
past_less s m n k le h own some = let f = h own (omega (arith, some, le)) in (f.0, past_part m n (key_path k).part le f.1)

pub not_past : (s n : ℕ) (k : LostKey) → n ≡ 0 → IsPast s n k
not_past s n k e own some = absurd (omega (arith, e, some))

pub part_past : (s n part : ℕ) (k : LostKey) → (key_path k).old.steps ≡ [] → (key_path k).part ≡ Some part → n ≤ part + 1 → IsPast s n k
part_past s n part k steps is le own some = (steps, subst (IsPastPart n) (sym is) le)

-- as many octets as those of the keys before, or fewer
abbrev pub LossFrom : List LostKey → ℕ → ℕ → ℕ → Type 0
LossFrom keys s octets i = (m : ℕ) → m ≤ octets → LeftDecides (IsPast s m) keys i

module _ (keys : List LostKey) (s octets i : ℕ) (h : LossFrom keys s octets i) (k : LostKey) (within : i < length keys) (is : k ≡ get_or keys i k) where
  pub loss_next : (new : ℕ) → new ≤ octets → IsPast s new k → LossFrom keys s new (i + 1)
  loss_next new less past m le = each_next (IsPast s m) keys i (h m (omega (arith, le, less))) k within is (past_less s m new k le past)

-- ---- one slot after the other

pub short_less : (nodes : List Node) (links : List ℕ) (ms : MovesTree) (s n m : ℕ) → m ≤ n → StaysShort nodes links ms s n → StaysShort nodes links ms s m
short_less nodes links ms s n m le t = record { parts = t.parts; below = t.below; own = t.own; node = t.node; at = t.at; last = t.last; part_links = t.part_links; is = t.is; few = omega (arith, le, t.few) }

module _ (nodes : List Node) (links : List ℕ) (ms : MovesTree) (keys : List LostKey) where
  pub short_first : (short : List ℕ) → short ≡ 0 ∷ [] → ShortStay nodes links ms keys 1 short
  short_first short e = record { size = ap length e; at = λ s lt some. absurd (none s lt some) }
    where
      none : (s : ℕ) → s < 1 → 0 < get_or short s 0 → ⊥
      none s lt some =
          let first : s ≡ 0 = omega (arith, lt) in
          let zero_there : get_or short s 0 ≡ 0 = (λ i. get_or (e i) (first i) 0) in
          omega (arith, some, zero_there)

  pub short_next : (n : ℕ) (short new : List ℕ) (one : ℕ) → ShortStay nodes links ms keys n short → new ≡ short ++ one ∷ [] → IsShortSlot nodes links ms keys n one → ShortStay nodes links ms keys (n + 1) new
  short_next n short new one h put own = record {
    size = ap length put ∙ length-append short (one ∷ []) ∙ (let e : length short + 1 ≡ n + 1 = omega (arith, h.size) in e);
    at = λ s lt. subst (IsShortSlot nodes links ms keys s) (ap (λ x. get_or x s 0) (sym put)) (by s (cases_eq s n) lt);
  }
    where
      by : (s : ℕ) → (s ≡ n) ⊎ (s ≡ n → ⊥) → s < n + 1 → IsShortSlot nodes links ms keys s (get_or (short ++ one ∷ []) s 0)
      by s (inl e) lt =
          let is : get_or (short ++ one ∷ []) s 0 ≡ one = get_or_at short one [] 0 s (h.size ∙ sym e) in
          subst (IsShortSlot nodes links ms keys s) (sym is) (subst (λ k. IsShortSlot nodes links ms keys k one) (sym e) own)
      by s (inr d) lt =
          let less : s < n = omega (arith, lt, d) in
          subst (IsShortSlot nodes links ms keys s) (sym (get_or_append_left short (one ∷ []) 0 s (omega (arith, h.size, less)))) (h.at s less)
