-- What a source in memory gives.
use Rattle.std.proofs.Common.{◌≡◌, ℕ, ◌+◌, ◌-◌, List, ◌++◌, length, take, drop, sym, ◌∙◌, ap, length-drop, drop-drop}
use Rattle.std.proofs.Math.Seq.{take-length, take-append_seam}
use Rattle.std.proofs.lemmas.List.{take-append-drop}

-- what is left is what was given, at the front of the lent buffer, and the rest
pub given_and_rest : (left octets lent given tail : List ℕ) (at n : ℕ) → drop at octets ≡ left → lent ≡ octets
    → given ≡ take n (take (length lent - at) (drop at lent)) → length given ≡ n → left ≡ take n (given ++ tail) ++ drop (at + n) octets
given_and_rest left octets lent given tail at n is_left is_lent is_given is_count =
    let whole : take (length octets - at) (drop at octets) ≡ drop at octets
    = ap (λ k. take k (drop at octets)) (sym (length-drop at octets)) ∙ take-length (drop at octets) in
    let is_front : given ≡ take n (drop at octets)
    = is_given ∙ ap (λ l. take n (take (length l - at) (drop at l))) is_lent ∙ ap (take n) whole in
    let front : take n (given ++ tail) ≡ given
    = ap (λ k. take k (given ++ tail)) (sym is_count) ∙ take-append_seam given tail in
    sym is_left ∙ sym (take-append-drop n (drop at octets))
    ∙ ap (λ l. l ++ drop n (drop at octets)) (sym is_front ∙ sym front)
    ∙ ap (λ l. take n (given ++ tail) ++ l) (drop-drop n at octets)
