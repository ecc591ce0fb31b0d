-- Where a reader stops is the first bad text.
use Rattle.std.proofs.Common.{◌≡◌, ℕ, zero, suc, ◌+◌, ◌-◌, ◌<◌, ◌≤◌, List, [], ◌∷◌, ◌++◌, length, take, drop, refl, sym, ◌∙◌, ap, subst, append_assoc, append-nil, length-append, arith}
use Rattle.std.proofs.lemmas.List.{take_at, take-append-drop}
use Rattle.ax_tokens.specs.Stopping.{Texts, first_with, StopsAt}
use Rattle.ax_tokens.specs.FirstBad.{FirstBad}
use Rattle.ax_tokens.proofs.Stops.{PrefixFree}

first_with_rest : (new : Texts) → (more : Texts) × (first_with new more ≡ new)
first_with_rest [] = ([], refl)
first_with_rest (text ∷ rest) = (rest, refl)

take_more : (front new : Texts) (more : Texts) → length front < length (front ++ new) → take (length front + 1) (front ++ new) ++ more ≡ front ++ first_with new more
take_more front [] more lt = absurd (omega (arith, lt, length-append front []))
take_more front (text ∷ new) more lt =
    ap (λ t. t ++ more) (ap (take (length front + 1)) (sym (append_assoc front (text ∷ []) new)) ∙ take_at (front ++ text ∷ []) new (length front + 1) (length-append front (text ∷ []))) ∙ append_assoc front (text ∷ []) more

bad_at : (L : Texts → Type 0) (front new rest : Texts) → L (front ++ rest) → ((member following more : Texts) → L member → member ++ following ≡ front ++ first_with new more → ⊥) → FirstBad L (front ++ new) (length front)
bad_at L front new rest begins refuses = record {
  no_member = λ l. let f = first_with_rest new in refuses (front ++ new) [] f.0 l (append-nil (front ++ new) ∙ ap (λ t. front ++ t) (sym f.1));
  within = omega (arith, length-append front new);
  rest = rest;
  begins = subst (λ t. L (t ++ rest)) (sym (take_at front new (length front) refl)) begins;
  refuses = λ lt more l. refuses _ [] more l (append-nil _ ∙ take_more front new more lt);
}

pub stops_bad : (L : Texts → Type 0) (texts new : Texts) → StopsAt L texts new → FirstBad L texts (length texts - length new)
stops_bad L texts new s =
    let at : length texts - length new ≡ length s.front = omega (arith, ap length s.split, length-append s.front new) in
    subst (λ n. FirstBad L texts n) (sym at) (subst (λ t. FirstBad L t (length s.front)) (sym s.split) (bad_at L s.front new s.rest s.begins s.refuses))

longer : (L : Texts → Type 0) (member : Texts) (text : List ℕ) (after : Texts) → PrefixFree L → L member → L (member ++ text ∷ after) → ⊥
longer L member text after free l h =
    let same : member ≡ member ++ text ∷ after = free member (member ++ text ∷ after) (text ∷ after) [] l h (sym (append-nil _)) in
    omega (arith, ap length same, length-append member (text ∷ after))

-- a member, and texts after it
pub trailing_bad : (L : Texts → Type 0) (member : Texts) (text : List ℕ) (after : Texts) → PrefixFree L → L member → FirstBad L (member ++ text ∷ after) (length member)
trailing_bad L member text after free l = record {
  no_member = longer L member text after free l;
  within = omega (arith, length-append member (text ∷ after));
  rest = [];
  begins = subst L (sym (ap (λ t. t ++ []) (take_at member (text ∷ after) (length member) refl) ∙ append-nil member)) l;
  refuses = λ lt more h. longer L member text more free l (subst L (take_more member (text ∷ after) more lt) h);
}

-- the same, where the reader left texts
pub trails_bad : (L : Texts → Type 0) (texts member new : Texts) → PrefixFree L → L member → texts ≡ member ++ new → 0 < length new → FirstBad L texts (length texts - length new)
trails_bad L texts member [] free l e lt = absurd (omega (arith, lt))
trails_bad L texts member (text ∷ after) free l e lt =
    let at : length texts - length (text ∷ after) ≡ length member = omega (arith, ap length e, length-append member (text ∷ after)) in
    subst (λ n. FirstBad L texts n) (sym at) (subst (λ t. FirstBad L t (length member)) (sym e) (trailing_bad L member text after free l))

-- ---- a list has one first bad text

take_take : (n m : ℕ) (texts : Texts) → n ≤ m → take n (take m texts) ≡ take n texts
take_take zero m texts le = refl
take_take (suc n) zero texts le = absurd (omega (arith, le))
take_take (suc n) (suc m) [] le = refl
take_take (suc n) (suc m) (text ∷ texts) le = ap (λ t. text ∷ t) (take_take n m texts (omega (arith, le)))

no_later : (L : Texts → Type 0) (texts : Texts) (at other : ℕ) → FirstBad L texts at → FirstBad L texts other → at < other → ⊥
no_later L texts at other a b lt =
    let following = drop (at + 1) (take other texts) in
    let parts : take other texts ≡ take (at + 1) texts ++ following = sym (take-append-drop (at + 1) (take other texts)) ∙ ap (λ t. t ++ following) (take_take (at + 1) other texts (omega (arith, lt))) in
    a.refuses (omega (arith, lt, b.within)) (following ++ b.rest) (subst L (ap (λ t. t ++ b.rest) parts ∙ append_assoc (take (at + 1) texts) following b.rest) b.begins)

equal_or : (n m : ℕ) → (n < m → ⊥) → (m < n → ⊥) → n ≡ m
equal_or zero zero h k = refl
equal_or zero (suc m) h k = absurd (h (omega arith))
equal_or (suc n) zero h k = absurd (k (omega arith))
equal_or (suc n) (suc m) h k = ap suc (equal_or n m (λ lt. h (omega (arith, lt))) (λ lt. k (omega (arith, lt))))

pub first_bad_once : (L : Texts → Type 0) (texts : Texts) (at other : ℕ) → FirstBad L texts at → FirstBad L texts other → at ≡ other
first_bad_once L texts at other a b = equal_or at other (no_later L texts at other a b) (no_later L texts other at b a)
