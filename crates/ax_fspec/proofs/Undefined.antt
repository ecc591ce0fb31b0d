-- The first marked slot that isn't defined, in the bits of a presence octet.
use Rattle.std.proofs.Common.{◌≡◌, ◌≢◌, ◌⊎◌, inl, inr, ℕ, zero, suc, ◌+◌, ◌-◌, ◌*◌, ◌/◌, ◌%◌, ◌^◌, ◌<◌, ◌≤◌, Bool, true, false, List, ◌∷◌, bit_and, refl, sym, ◌∙◌, ap, arith, subst}
use Rattle.std.proofs.lemmas.Bool.{cases_lt}
use Rattle.std.proofs.lemmas.Nat.{and_block, and_comm, and_le_l, and_le_r, and-not, leading_top, mod_below, pow_pos, shr_split, div_below}
use Rattle.std.proofs.Math.Nat.{mod-eq_of_lt, pos_of_ne-zero}
use Rattle.std.proofs.Math.Pow.{pow_mono}
use lib.Count.{count_leading_zeros}
use Rattle.ax_bits.specs.Bits.{word}
use Rattle.ax_bits.proofs.Words.{twice}
use Rattle.ax_bits.proofs.Pieces.{word-low}
use Rattle.ax_format.specs.Presence.{IsDefined, NoneUndefined, FirstUndefined}
use Rattle.ax_fspec.specs.Marks.{seven, are_marked}

-- u has the bits of w marks whose slots aren't defined
record ShowsUndefined (ds : List Bool) (ms : List ℕ) (w u : ℕ) : Type 0 where
  none : u ≡ 0 → NoneUndefined ds ms
  first : (t : ℕ) → t < w → 2 ^ t ≤ u → u < 2 ^ suc t → FirstUndefined ds ms (w - 1 - t)

-- one more slot in front, which is not marked or is defined
shift_at : (ds : List Bool) (ms : List ℕ) (d : Bool) (m w u t : ℕ) → u < 2 ^ w → 2 ^ t ≤ u → u < 2 ^ suc t → ((m ≡ 1) → IsDefined (d ∷ ds)) → ShowsUndefined ds ms w u →
    (t < w) ⊎ (w ≤ t) → FirstUndefined (d ∷ ds) (m ∷ ms) (suc w - 1 - t)
shift_at ds ms d m w u t below low high clear h (inl lt) =
    let e : suc (w - 1 - t) ≡ suc w - 1 - t = omega arith in
    subst (λ k. FirstUndefined (d ∷ ds) (m ∷ ms) k) e (clear, h.first t lt low high)
shift_at ds ms d m w u t below low high clear h (inr ge) = absurd (omega (arith, pow_mono ge))

shift : (ds : List Bool) (ms : List ℕ) (d : Bool) (m w u : ℕ) → u < 2 ^ w → ((m ≡ 1) → IsDefined (d ∷ ds)) → ShowsUndefined ds ms w u → ShowsUndefined (d ∷ ds) (m ∷ ms) (suc w) u
shift ds ms d m w u below clear h = record {
  none = λ z. (clear, h.none z);
  first = λ t lt low high. shift_at ds ms d m w u t below low high clear h (cases_lt t w);
}

-- one more slot in front, which is marked and not defined
top_at : (ds : List Bool) (ms : List ℕ) (w u t : ℕ) → 2 ^ w ≤ u → t < suc w → u < 2 ^ suc t → (t < w) ⊎ (w ≤ t) → FirstUndefined (false ∷ ds) (1 ∷ ms) (suc w - 1 - t)
top_at ds ms w u t least lt high (inl less) = let le : suc t ≤ w = omega arith in absurd (omega (arith, pow_mono le))
top_at ds ms w u t least lt high (inr ge) =
    let e : zero ≡ suc w - 1 - t = omega arith in
    subst (λ k. FirstUndefined (false ∷ ds) (1 ∷ ms) k) e (refl, λ h. h)

top : (ds : List Bool) (ms : List ℕ) (w u : ℕ) → 2 ^ w ≤ u → ShowsUndefined (false ∷ ds) (1 ∷ ms) (suc w) u
top ds ms w u least = record {
  none = λ z. absurd (omega (arith, pow_pos w));
  first = λ t lt low high. top_at ds ms w u t least lt high (cases_lt t w);
}

-- the upper bits a and b, and the others
upper : (w a b r s u : ℕ) → a < 2 → b < 2 → r < 2 ^ w → s < 2 ^ w → u + bit_and (b * 2 ^ w + s) (a * 2 ^ w + r) ≡ a * 2 ^ w + r →
    ((v : ℕ) → v + bit_and s r ≡ r → ShowsUndefined (are_marked (word w s)) (word w r) w v) → ShowsUndefined (are_marked (b ∷ word w s)) (a ∷ word w r) (suc w) u
upper w zero zero r s u p q h g e ih =
    let f : u + bit_and s r ≡ r = omega (arith, and_block w 0 0 s r g h) in
    shift (are_marked (word w s)) (word w r) false 0 w u (omega arith) (λ z. absurd (omega arith)) (ih u f)
upper w zero (suc zero) r s u p q h g e ih =
    let f : u + bit_and s r ≡ r = omega (arith, and_block w 1 0 s r g h) in
    shift (are_marked (word w s)) (word w r) true 0 w u (omega arith) (λ z. tt) (ih u f)
upper w (suc zero) (suc zero) r s u p q h g e ih =
    let f : u + bit_and s r ≡ r = omega (arith, and_block w 1 1 s r g h) in
    shift (are_marked (word w s)) (word w r) true 1 w u (omega arith) (λ z. tt) (ih u f)
upper w (suc zero) zero r s u p q h g e ih =
    top (are_marked (word w s)) (word w r) w u (omega (arith, and_block w 0 1 s r g h, and_le_r s r))
upper w (suc (suc a)) b r s u p q h g e ih = absurd (omega arith)
upper w zero (suc (suc b)) r s u p q h g e ih = absurd (omega arith)
upper w (suc zero) (suc (suc b)) r s u p q h g e ih = absurd (omega arith)

cut : (w n : ℕ) → n < 2 ^ suc w → (n / 2 ^ w < 2) × (n / 2 ^ w ∷ word w (n % 2 ^ w) ≡ word (suc w) n)
cut w n h =
    let lt : n / 2 ^ w < 2 = div_below n (2 ^ w) 2 (pow_pos w) (omega (arith, twice w)) in
    (lt, λ i. sym (mod-eq_of_lt lt) i ∷ word-low w n i)

shows : (w m d u : ℕ) → m < 2 ^ w → d < 2 ^ w → u + bit_and d m ≡ m → ShowsUndefined (are_marked (word w d)) (word w m) w u
shows zero m d u h g e = record { none = λ z. tt; first = λ t lt low high. absurd (omega arith) }
shows (suc w) m d u h g e =
    let p = cut w m h in
    let q = cut w d g in
    let r = m % 2 ^ w in
    let s = d % 2 ^ w in
    let m_is : m / 2 ^ w * 2 ^ w + r ≡ m = shr_split m w in
    let d_is : d / 2 ^ w * 2 ^ w + s ≡ d = shr_split d w in
    let e2 : u + bit_and (d / 2 ^ w * 2 ^ w + s) (m / 2 ^ w * 2 ^ w + r) ≡ m / 2 ^ w * 2 ^ w + r = ap (λ k. u + k) (λ i. bit_and (d_is i) (m_is i)) ∙ e ∙ sym m_is in
    let low_m : r < 2 ^ w = mod_below m (2 ^ w) (pow_pos w) in
    let low_d : s < 2 ^ w = mod_below d (2 ^ w) (pow_pos w) in
    let all = upper w (m / 2 ^ w) (d / 2 ^ w) r s u p.0 q.0 low_m low_d e2 (λ v f. shows w r s v low_m low_d f) in
    subst (λ k. ShowsUndefined (are_marked (word (suc w) d)) k (suc w) u) p.1 (subst (λ k. ShowsUndefined (are_marked k) (m / 2 ^ w ∷ word w r) (suc w) u) q.1 all)

-- ---- what the code computes

octet_shows : (m d : ℕ) → m < 128 → d < 128 → ShowsUndefined (are_marked (seven d)) (seven m) 7 (bit_and m (255 - d))
unfolding seven
octet_shows m d h g =
    let wide_m : m < 2 ^ 8 = omega arith in
    let wide_d : d < 2 ^ 8 = omega arith in
    let e : bit_and m (255 - d) + bit_and d m ≡ m = ap (λ k. k + bit_and d m) (and_comm m (255 - d)) ∙ and-not 8 d m wide_d wide_m in
    shows 7 m d (bit_and m (255 - d)) h g e

pub clear_octet : (m d : ℕ) → m < 128 → d < 128 → bit_and m (255 - d) ≡ 0 → NoneUndefined (are_marked (seven d)) (seven m)
clear_octet m d h g z = (octet_shows m d h g).none z

record Leads (z : ℕ) (m d : ℕ) : Type 0 where
  some : 1 ≤ z
  small : z - 1 < 7
  first : FirstUndefined (are_marked (seven d)) (seven m) (z - 1)

leads_at : (m d z t : ℕ) → ShowsUndefined (are_marked (seven d)) (seven m) 7 (bit_and m (255 - d)) → bit_and m (255 - d) < 128 →
    z + suc t ≡ 8 → 2 ^ t ≤ bit_and m (255 - d) → bit_and m (255 - d) < 2 ^ suc t → (t < 7) ⊎ (7 ≤ t) → Leads z m d
leads_at m d z t h below e low high (inl lt) =
    let place : 7 - 1 - t ≡ z - 1 = omega arith in
    record {
      some = omega arith;
      small = omega arith;
      first = subst (λ k. FirstUndefined (are_marked (seven d)) (seven m) k) place (h.first t lt low high);
    }
leads_at m d z t h below e low high (inr ge) = let le : 2 ^ 7 ≤ 2 ^ t = pow_mono ge in absurd (omega arith)

leads : (m d : ℕ) → m < 128 → d < 128 → bit_and m (255 - d) ≢ 0 → Leads (count_leading_zeros 8 (bit_and m (255 - d))) m d
leads m d h g some =
    let u = bit_and m (255 - d) in
    let below : u < 128 = omega (arith, and_le_l m (255 - d)) in
    let fits : u < 2 ^ 8 = omega arith in
    let t = leading_top 8 u (pos_of_ne-zero some) fits in
    leads_at m d (count_leading_zeros 8 u) t.0 (octet_shows m d h g) below t.1 t.2 t.3 (cases_lt t.0 7)

pub lead_some : (m d : ℕ) → m < 128 → d < 128 → bit_and m (255 - d) ≢ 0 → 1 ≤ count_leading_zeros 8 (bit_and m (255 - d))
lead_some m d h g some = (leads m d h g some).some

pub lead_small : (m d : ℕ) → m < 128 → d < 128 → bit_and m (255 - d) ≢ 0 → count_leading_zeros 8 (bit_and m (255 - d)) - 1 < 7
lead_small m d h g some = (leads m d h g some).small

pub lead_first : (m d : ℕ) → m < 128 → d < 128 → bit_and m (255 - d) ≢ 0 → FirstUndefined (are_marked (seven d)) (seven m) (count_leading_zeros 8 (bit_and m (255 - d)) - 1)
lead_first m d h g some = (leads m d h g some).first
