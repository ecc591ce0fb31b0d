-- Gaps, piece by piece.
use Rattle.std.proofs.Common.{◌≡◌, ◌≢◌, ℕ, ◌+◌, ◌-◌, ◌<◌, ◌≤◌, true, false, List, [], ◌∷◌, ◌++◌, length, take, drop, get_or, refl, sym, ◌∙◌, ap, arith, append_assoc, append-nil, subst, length-drop, take-append-drop}
use Rattle.std.specs.List.{prefix_len, list_all}
use Rattle.std.proofs.lemmas.List.{drop_more, take_rest, drop-drop, drop_all}
use Rattle.std.proofs.lemmas.Bool.Decides.{nat_tests}
use Rattle.std.proofs.Math.Seq.{take-add}
use Rattle.ax_tokens.specs.Octets.{hash, is_separator, is_comment_octet}
use Rattle.ax_tokens.specs.Gap.{EndsComment, IsGap, no_octet, separator, comment}
use Rattle.ax_tokens.specs.Fronts.{GapInFront}
use Rattle.ax_tokens.proofs.Prefixes.{Stops, one_more, prefix_passes, prefix_stops, prefix_inside}

-- two gaps in a row are a gap
pub gap_join : (h rest g : List ℕ) → IsGap (h ++ rest) g → IsGap rest h → IsGap rest (g ++ h)
gap_join h rest g no_octet k = k
gap_join h rest g (separator octet gap s t) k = separator octet (gap ++ h) s (gap_join h rest gap t k)
gap_join h rest g (comment body gap octets e all ends t) k =
    comment body (gap ++ h) (octets ++ h) (ap (λ x. x ++ h) e ∙ ap (λ x. hash ∷ x) (append_assoc body gap h)) all
    (subst EndsComment (sym (append_assoc gap h rest)) ends) (gap_join h rest gap t k)

-- the first n octets are a gap, which may go on
pub record GapTo (octets : List ℕ) (n : ℕ) : Type 0 where
  pub inside : n ≤ length octets
  pub is_gap : IsGap (drop n octets) (take n octets)

pub gap_none : (octets : List ℕ) → GapTo octets 0
gap_none octets = record { inside = omega arith; is_gap = no_octet }

-- a gap goes on by a piece
gap_piece : (octets piece : List ℕ) (n k : ℕ) → n + k ≤ length octets → take k (drop n octets) ≡ piece → GapTo octets n → IsGap (drop (n + k) octets) piece → GapTo octets (n + k)
gap_piece octets piece n k le e h g =
    let parts : drop n octets ≡ piece ++ drop (n + k) octets
    = sym (take-append-drop k (drop n octets)) ∙ (λ i. e i ++ drop-drop k n octets i) in
    let whole : take (n + k) octets ≡ take n octets ++ piece = take-add n k octets ∙ ap (λ x. take n octets ++ x) e in
    record { inside = le; is_gap = rw whole (gap_join piece (drop (n + k) octets) (take n octets) (subst (λ x. IsGap x (take n octets)) parts h.is_gap) g) }

pub gap_separator : (octets : List ℕ) (n : ℕ) → n < length octets → is_separator (get_or octets n 0) ≡ true → GapTo octets n → GapTo octets (n + 1)
gap_separator octets n lt s h =
    let x = get_or octets n 0 in
    let e : take 1 (drop n octets) ≡ x ∷ [] = ap (take 1) (drop_more octets n 0 lt) in
    gap_piece octets (x ∷ []) n 1 (omega arith) e h (separator x [] s no_octet)

comment_end : (xs : List ℕ) → Stops is_comment_octet xs → EndsComment xs
unfolding is_comment_octet
comment_end [] h = tt
comment_end (x ∷ xs) h = grind (arith, nat_tests)

pub gap_comment : (octets : List ℕ) (n k : ℕ) → n < length octets → get_or octets n 0 ≡ hash → k ≡ prefix_len is_comment_octet (take (length octets - (n + 1)) (drop (n + 1) octets)) → GapTo octets n → GapTo octets (n + (1 + k))
gap_comment octets n k lt s is h =
    let after = drop (n + 1) octets in
    let e : k ≡ prefix_len is_comment_octet after = is ∙ ap (prefix_len is_comment_octet) (take_rest octets (n + 1)) in
    let inside : prefix_len is_comment_octet after ≤ length after = prefix_inside is_comment_octet after in
    let le : n + (1 + k) ≤ length octets = omega (arith, length-drop (n + 1) octets) in
    let front : drop n octets ≡ hash ∷ after = drop_more octets n 0 lt ∙ ap (λ x. x ∷ after) s in
    let body = take k after in
    let piece : take (1 + k) (drop n octets) ≡ hash ∷ body = rw (front, one_more k) refl in
    let following : drop (n + (1 + k)) octets ≡ drop k after = ap (λ m. drop m octets) (let m : n + (1 + k) ≡ n + 1 + k = omega arith in m) ∙ sym (drop-drop k (n + 1) octets) in
    let all : list_all is_comment_octet body ≡ true = rw e (prefix_passes is_comment_octet after) in
    let stops : Stops is_comment_octet (drop k after) = rw e (prefix_stops is_comment_octet after) in
    let ends : EndsComment (drop (n + (1 + k)) octets) = rw following (comment_end (drop k after) stops) in
    gap_piece octets (hash ∷ body) n (1 + k) le piece h (comment body [] (hash ∷ body) (ap (λ x. hash ∷ x) (sym (append-nil body))) all ends no_octet)

-- the gap ends in front of an octet that neither separates nor begins a comment
pub gap_stops : (octets : List ℕ) (n : ℕ) → n < length octets → is_separator (get_or octets n 0) ≡ false → get_or octets n 0 ≢ hash → GapTo octets n → GapInFront octets n
gap_stops octets n lt s c h =
    record { inside = h.inside; is_gap = h.is_gap; ends = rw (drop_more octets n 0 lt) (s, c) }

-- the gap ends with the text
pub gap_ends : (octets : List ℕ) (n : ℕ) → length octets ≤ n → GapTo octets n → GapInFront octets n
gap_ends octets n le h = record { inside = h.inside; is_gap = h.is_gap; ends = rw (drop_all n octets le) tt }

pub ruleset gaps = (gap_none, gap_separator, gap_comment, gap_stops, gap_ends)
