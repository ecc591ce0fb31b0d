-- What is told, step by step.
use Rattle.std.proofs.Common.{◌≡◌, ℕ, ◌+◌, ◌-◌, ◌≤◌, List, [], ◌++◌, Option, Some, None, length, take, drop, refl, sym, ◌∙◌, ap, arith, append_assoc, append-nil, length-take-le, length-append, length-drop, inl, inr}
use Rattle.std.proofs.Math.Seq.{take-append-add, take-length}
use Rattle.std.proofs.lemmas.List.{take-append-le, take-append-drop}
use borrow.Rule.Slice.PartMut.{put_mid, post_of}
use Rattle.ax_endpoints.specs.Told.{with_front, with_end, Rose}

-- nothing is added
pub with_end-nil : (t : Option (List ℕ)) → with_end t [] ≡ t
with_end-nil None = refl
with_end-nil (Some xs) = ap Some (append-nil xs)

-- added in two steps, or at once
pub with_end-append : (t : Option (List ℕ)) (a b : List ℕ) → with_end (with_end t a) b ≡ with_end t (a ++ b)
with_end-append None a b = refl
with_end-append (Some xs) a b = ap Some (append_assoc xs a b)

-- taken in two steps, or at once
pub with_front-append : (t : Option (List ℕ)) (a b : List ℕ) → with_front a (with_front b t) ≡ with_front (a ++ b) t
with_front-append None a b = refl
with_front-append (Some xs) a b = ap Some (sym (append_assoc a b xs))

-- nothing was taken
pub with_front-nil : (t : Option (List ℕ)) → with_front [] t ≡ t
with_front-nil None = refl
with_front-nil (Some xs) = refl

-- what rose later rose since
pub Rose-later : {a b c : ℕ} → a ≤ b → Rose b c → Rose a c
Rose-later le (inl lt) = inl (omega arith)
Rose-later le (inr e) = inr e

-- the first n of a list that begins with k others
take-past : (xs ys : List ℕ) (k n : ℕ) → length xs ≡ k → take (k + n) (xs ++ ys) ≡ xs ++ take n ys
take-past xs ys k n e = rw (← e) (take-append-add xs ys n)

-- n more octets of the piece were added
pub more_added : (before between after : Option (List ℕ)) (piece : List ℕ) (at n : ℕ) → at ≤ length piece
    → between ≡ with_end before (take at piece) → after ≡ with_end between (take n (take (length piece - at) (drop at piece))) → after ≡ with_end before (take (at + n) piece)
more_added before between after piece at n le first second' =
    let second : after ≡ with_end between (take n (drop at piece)) = second' ∙ ap (λ l. with_end between (take n l)) (ap (λ k. take k (drop at piece)) (sym (length-drop at piece)) ∙ take-length (drop at piece)) in
    let whole : take (at + n) piece ≡ take at piece ++ take n (drop at piece)
    = ap (take (at + n)) (sym (take-append-drop at piece)) ∙ take-past (take at piece) (drop at piece) at n (length-take-le at piece le) in
    second ∙ ap (λ t. with_end t (take n (drop at piece))) first ∙ with_end-append before (take at piece) (take n (drop at piece)) ∙ ap (with_end before) (sym whole)

-- there is room for them
pub still_within : (buffer part : List ℕ) (at k n : ℕ) → at ≤ length buffer → n ≤ length part → at + n ≤ length (put_mid at k buffer part)
still_within buffer part at k n le room =
    rw (length-append, length-append) (let e : length (take at buffer) ≡ at = length-take-le at buffer le in omega arith)

-- n more octets came into the buffer
pub more_taken : (before between after : Option (List ℕ)) (buffer part : List ℕ) (at k n : ℕ) → at ≤ length buffer → n ≤ length part
    → before ≡ with_front (take at buffer) between → between ≡ with_front (take n part) after → before ≡ with_front (take (at + n) (put_mid at k buffer part)) after
more_taken before between after buffer part at k n le room first second =
    let whole : take (at + n) (put_mid at k buffer part) ≡ take at buffer ++ take n part
    = take-past (take at buffer) (part ++ post_of at k buffer) at n (length-take-le at buffer le) ∙ ap (λ l. take at buffer ++ l) (take-append-le n part (post_of at k buffer) room) in
    first ∙ ap (with_front (take at buffer)) second ∙ with_front-append after (take at buffer) (take n part) ∙ ap (λ l. with_front l after) (sym whole)

pub ruleset steps = (still_within, with_end-nil, with_front-nil, Rose-later, more_added, more_taken)
