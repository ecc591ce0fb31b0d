-- What a write adds, step by step.
use Rattle.std.proofs.Common.{ℕ, ◌+◌, ◌≤◌, List, [], ◌++◌, Option, Some, None, length, take, drop, sym, ◌∙◌, ap, subst, append_assoc, append-nil, ◌-◌, arith}
use Rattle.std.specs.Io.KnownBytes.{Appends, Keeps}
use Rattle.std.proofs.lemmas.List.{take_all, take_rest, length-take}
use Rattle.std.proofs.Math.Seq.{take-add}

pub appends_none : (c : Option (List ℕ)) → Appends c c []
appends_none None = tt
appends_none (Some xs) = sym (append-nil xs)

pub appends_both : (a b c : Option (List ℕ)) (xs ys : List ℕ) → Appends a b xs → Appends b c ys → Appends a c (xs ++ ys)
appends_both None b c xs ys g h = tt
appends_both (Some ks) None c xs ys g h = absurd g
appends_both (Some ks) (Some ls) None xs ys g h = h
appends_both (Some ks) (Some ls) (Some ms) xs ys g h = h ∙ ap (λ l. l ++ ys) g ∙ append_assoc ks xs ys

pub appends_kept : (a b c : Option (List ℕ)) (xs : List ℕ) → Appends a b xs → Keeps b c → Appends a c xs
appends_kept None b c xs g h = tt
appends_kept (Some ks) None c xs g h = absurd g
appends_kept (Some ks) (Some ls) None xs g h = h
appends_kept (Some ks) (Some ls) (Some ms) xs g h = h ∙ g

-- a piece goes on from where its front ended
pub appends_next : (a b c : Option (List ℕ)) (piece : List ℕ) (at n : ℕ) → Appends a b (take at piece) → Appends b c (take n (take (length piece - at) (drop at piece))) → Appends a c (take (at + n) piece)
appends_next a b c piece at n g h =
    let rest : Appends b c (take n (drop at piece)) = subst (λ l. Appends b c (take n l)) (take_rest piece at) h in
    subst (λ l. Appends a c l) (sym (take-add at n piece)) (appends_both a b c (take at piece) (take n (drop at piece)) g rest)

pub appends_all : (a b : Option (List ℕ)) (piece : List ℕ) (n : ℕ) → length piece ≤ n → Appends a b (take n piece) → Appends a b piece
appends_all a b piece n le h = subst (λ l. Appends a b l) (take_all n piece le) h

-- the first part whole, and then of the rest
pub appends_in_two : (a b c : Option (List ℕ)) (lines : List ℕ) (n leading more : ℕ) → leading ≤ n → n ≤ length (take leading lines) → Appends a b (take n (take leading lines))
    → Appends b c (take more (take (length lines - leading) (drop leading lines))) → Appends a c (take (leading + more) lines)
appends_in_two a b c lines n leading more le within g h =
    let first : Appends a b (take leading lines) = appends_all a b (take leading lines) n (omega (arith, length-take leading lines, le)) g in
    appends_next a b c lines leading more first h
