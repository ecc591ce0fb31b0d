-- The greatest excess of Opens is the level that a reader keeps.
use Rattle.std.proofs.Common.{◌≡◌, ℕ, zero, suc, ◌+◌, ◌-◌, ◌<◌, ◌≤◌, max, cond, Some, List, [], ◌∷◌, ◌++◌, length, take, refl, sym, ◌∙◌, ap, arith, append_assoc, append-nil, subst, count_by, length-take, slice_get, inl, inr}
use Rattle.std.proofs.lemmas.List.{take-append-le, take_all, take_at, length_push}
use Rattle.std.proofs.lemmas.List.Sums.{sum_by_push, count_by-le-length}
use Rattle.std.proofs.lemmas.Bool.{cases_lt}
use Rattle.std.proofs.lemmas.Option.{slice_get_within}
use Rattle.ax_tokens.specs.PlainToken.{PlainToken}
use Rattle.ax_tokens.specs.Depth.{is_open, is_close, excess, greatest_excess, depth_of, IsWithin, level_after, KeepsWithin}
use Rattle.ax_tokens.specs.declared.token.TokenKind.{TokenKind}
use Rattle.ax_tokens.specs.declared.token.TokenKind.TheVariants.{Word, Str, Open, Close}

opens : List PlainToken → ℕ
opens ts = count_by (λ t. is_open t.kind) ts

closes : List PlainToken → ℕ
closes ts = count_by (λ t. is_close t.kind) ts

open_one : TokenKind → ℕ
open_one k = cond (is_open k) 1 0

close_one : TokenKind → ℕ
close_one k = cond (is_close k) 1 0

opens_push : (ts : List PlainToken) (t : PlainToken) → opens (ts ++ t ∷ []) ≡ opens ts + open_one t.kind
unfolding opens open_one
opens_push ts t = sum_by_push (λ t. cond (is_open t.kind) 1 0) ts t

closes_push : (ts : List PlainToken) (t : PlainToken) → closes (ts ++ t ∷ []) ≡ closes ts + close_one t.kind
unfolding closes close_one
closes_push ts t = sum_by_push (λ t. cond (is_close t.kind) 1 0) ts t

excess_is : (ts : List PlainToken) → excess ts ≡ opens ts - closes ts
unfolding opens closes
excess_is ts = refl

-- the excess of the tokens from u on, and of those after u, after one more token
level_cases : (k : TokenKind) (o c g : ℕ) → max ((o + open_one k) - (c + close_one k)) (level_after k g) ≡ level_after k (max (o - c) g)
unfolding open_one close_one
level_cases Word o c g = omega arith
level_cases Str o c g = omega arith
level_cases Open o c g = omega arith
level_cases Close o c g = omega arith

level_one : (k : TokenKind) → max (open_one k - close_one k) 0 ≡ level_after k 0
unfolding open_one close_one
level_one Word = refl
level_one Str = refl
level_one Open = refl
level_one Close = refl

first_excess : (t : PlainToken) → (opens [] + open_one t.kind) - (closes [] + close_one t.kind) ≡ open_one t.kind - close_one t.kind
unfolding opens closes
first_excess t = let e : (0 + open_one t.kind) - (0 + close_one t.kind) ≡ open_one t.kind - close_one t.kind = omega arith in e

excess_push : (ts : List PlainToken) (t : PlainToken) → excess (ts ++ t ∷ []) ≡ (opens ts + open_one t.kind) - (closes ts + close_one t.kind)
excess_push ts t = excess_is (ts ++ t ∷ []) ∙ (λ i. opens_push ts t i - closes_push ts t i)

-- the level after one more token
pub level_push : (ts : List PlainToken) (t : PlainToken) → greatest_excess (ts ++ t ∷ []) ≡ level_after t.kind (greatest_excess ts)
level_push [] t = ap (λ e. max e 0) (excess_push [] t ∙ first_excess t) ∙ level_one t.kind
level_push (u ∷ ts) t =
    (λ i. max (excess_push (u ∷ ts) t i) (level_push ts t i)) ∙ level_cases t.kind (opens (u ∷ ts)) (closes (u ∷ ts)) (greatest_excess ts)
    ∙ ap (λ e. level_after t.kind (max e (greatest_excess ts))) (sym (excess_is (u ∷ ts)))

-- the token in question is after the others
last_token : (limit : ℕ) (ts : List PlainToken) (t : PlainToken) (i : ℕ) → i ≡ length ts → greatest_excess (ts ++ t ∷ []) ≤ limit → depth_of (ts ++ t ∷ []) i ≤ limit
last_token limit ts t i e h = rw (take_all (i + 1) (ts ++ t ∷ []) (omega (arith, length_push ts t))) h

early_token : (ts : List PlainToken) (t u : PlainToken) (i : ℕ) → i < length ts → slice_get (ts ++ t ∷ []) i ≡ Some u → slice_get ts i ≡ Some u
early_token [] t u i lt e = absurd (omega arith)
early_token (x ∷ ts) t u zero lt e = e
early_token (x ∷ ts) t u (suc i) lt e = early_token ts t u i (omega arith) e

-- a token that leaves the level within the limit keeps all Opens within it
pub within_push : (limit : ℕ) (ts : List PlainToken) (t : PlainToken) → IsWithin limit ts → greatest_excess (ts ++ t ∷ []) ≤ limit → IsWithin limit (ts ++ t ∷ [])
within_push limit ts t h le i u e k =
    let inside : i < length (ts ++ t ∷ []) = slice_get_within (ts ++ t ∷ []) i u e in
    elim (cases_lt i (length ts)) [
      | inl lt ↦ rw (take-append-le (i + 1) ts (t ∷ []) (omega arith)) (h i u (early_token ts t u i lt e) k)
      | inr ge ↦ last_token limit ts t i (omega (arith, length_push ts t)) le
    ]

pub within_none : (limit : ℕ) → IsWithin limit []
within_none limit i u e k = cc

opens_few : (ts : List PlainToken) → excess ts ≤ length ts
opens_few ts = omega (arith, count_by-le-length (λ t. is_open t.kind) ts)

excess_few : (ts : List PlainToken) → greatest_excess ts ≤ length ts
excess_few [] = omega arith
excess_few (t ∷ ts) = omega (arith, opens_few (t ∷ ts), excess_few ts)

-- no token is deeper than there are tokens
pub within_some : (limit : ℕ) (ts : List PlainToken) → length ts ≤ limit → IsWithin limit ts
within_some limit ts le i t e k = omega (arith, excess_few (take (i + 1) ts), length-take (i + 1) ts)

pub place_last : (before ts : List PlainToken) (t : PlainToken) → slice_get (before ++ t ∷ ts) (length before) ≡ Some t
place_last [] ts t = refl
place_last (x ∷ before) ts t = place_last before ts t

-- the depth of a token depends on those in front of it alone
pub depth_here : (before ts : List PlainToken) (t : PlainToken) → depth_of (before ++ t ∷ ts) (length before) ≡ greatest_excess (before ++ t ∷ [])
depth_here before ts t =
    ap greatest_excess (ap (take (length before + 1)) (sym (append_assoc before (t ∷ []) ts)) ∙ take_at (before ++ t ∷ []) ts (length before + 1) (length_push before t))

kept_by : (k : TokenKind) (limit level : ℕ) → level ≤ limit → (k ≡ Open → level_after k level ≤ limit) → level_after k level ≤ limit
kept_by Open limit level le h = h refl
kept_by Word limit level le h = le
kept_by Str limit level le h = le
kept_by Close limit level le h = omega arith

-- the level that is kept from token to token stays within the limit where no Open is deeper
keeps : (limit : ℕ) (before ts : List PlainToken) → greatest_excess before ≤ limit → IsWithin limit (before ++ ts) → KeepsWithin limit (greatest_excess before) ts
keeps limit before [] le h = tt
keeps limit before (t ∷ ts) le h =
    let next : greatest_excess (before ++ t ∷ []) ≡ level_after t.kind (greatest_excess before) = level_push before t in
    let within : level_after t.kind (greatest_excess before) ≤ limit
    = kept_by t.kind limit (greatest_excess before) le (λ k. subst (λ d. d ≤ limit) (depth_here before ts t ∙ next) (h (length before) t (place_last before ts t) k)) in
    let later = keeps limit (before ++ t ∷ []) ts (subst (λ n. n ≤ limit) (sym next) within) (subst (λ x. IsWithin limit x) (sym (append_assoc before (t ∷ []) ts)) h) in
    (within, subst (λ n. KeepsWithin limit n ts) next later)

kept : (limit : ℕ) (before ts : List PlainToken) → IsWithin limit before → KeepsWithin limit (greatest_excess before) ts → IsWithin limit (before ++ ts)
kept limit before [] h k = subst (λ x. IsWithin limit x) (sym (append-nil before)) h
kept limit before (t ∷ ts) h k =
    let next : greatest_excess (before ++ t ∷ []) ≡ level_after t.kind (greatest_excess before) = level_push before t in
    let within = within_push limit before t h (subst (λ n. n ≤ limit) (sym next) k.0) in
    subst (λ x. IsWithin limit x) (append_assoc before (t ∷ []) ts) (kept limit (before ++ t ∷ []) ts within (subst (λ n. KeepsWithin limit n ts) (sym next) k.1))

pub within_keeps : (limit : ℕ) (ts : List PlainToken) → IsWithin limit ts → KeepsWithin limit 0 ts
within_keeps limit ts h = keeps limit [] ts (omega arith) h

pub keeps_within : (limit : ℕ) (ts : List PlainToken) → KeepsWithin limit 0 ts → IsWithin limit ts
keeps_within limit ts k = kept limit [] ts (within_none limit) k
