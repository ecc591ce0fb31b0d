-- Octets of examples: whether a line feed is among them is computed.
use Rattle.std.proofs.Common.{◌≡◌, ℕ, ◌+◌, ◌<◌, ◌≤◌, ◌==◌, Bool, true, false, cond, suc, List, [], ◌∷◌, ◌++◌, length, refl, sym, ◌∙◌, ap, arith, length-append, inl, inr}
use Rattle.ax_lines.specs.Feeds.{IsNoFeed, IsPlain}
use Rattle.ax_lines.specs.Lined.{LinedEnd, all_lines, input_too_long, line_too_long, Lined}

abbrev pub has_none : List ℕ → Bool
has_none [] = true
has_none (x ∷ xs) = cond (x == 10) false (has_none xs)

no_feed : (x : ℕ) (b c : Bool) → (x == 10) ≡ b → cond b false c ≡ true → IsNoFeed x
no_feed x true c e h = absurd (let f : ◌≡◌ {A = Bool} false true = h in cc)
no_feed x false c e h = λ is. absurd (let f : (10 == 10) ≡ false = ap (λ y. y == 10) (sym is) ∙ e in let g : ◌≡◌ {A = Bool} true false = f in cc)

none_later : (b c : Bool) → cond b false c ≡ true → c ≡ true
none_later true c h = absurd (let f : ◌≡◌ {A = Bool} false true = h in cc)
none_later false c h = h

pub plain_by : (xs : List ℕ) → has_none xs ≡ true → IsPlain xs
plain_by [] h = tt
plain_by (x ∷ xs) h = (no_feed x (x == 10) (has_none xs) refl h, plain_by xs (none_later (x == 10) (has_none xs) h))

-- a line and its line feed, and then those lines
pub fed : (line_limit limit before : ℕ) (octets after : List ℕ) (lines : List (List ℕ)) (e : LinedEnd) → has_none octets ≡ true → length octets ≤ line_limit → before + length octets < limit → Lined line_limit limit (before + (length octets + 1)) after lines e
    → Lined line_limit limit before (octets ++ (10 ∷ after)) (octets ∷ lines) e
fed line_limit limit before octets after lines e none short within more =
    let size : length (octets ++ (10 ∷ after)) ≡ length octets + suc (length after) = length-append octets (10 ∷ after) in
    (after, length octets + 1, inl (record { split = refl; plain = plain_by octets none; short = short; within = within }), omega arith, more)

-- the last line
pub last : (line_limit limit before : ℕ) (octets : List ℕ) → has_none octets ≡ true → 0 < length octets → length octets ≤ line_limit → before + length octets ≤ limit → Lined line_limit limit before octets (octets ∷ []) all_lines
last line_limit limit before octets none some short within =
    ([], length octets, inr (record { split = refl; none_following = refl; some = some; plain = plain_by octets none; short = short; within = within }), omega arith, refl)

-- an octet past a limit
pub line_over : (line_limit limit before : ℕ) (front : List ℕ) (octet : ℕ) (following : List ℕ) → has_none front ≡ true → has_none (octet ∷ []) ≡ true → length front ≡ line_limit → before + length front < limit
    → Lined line_limit limit before (front ++ (octet ∷ following)) [] line_too_long
line_over line_limit limit before front octet following none one count within =
    record { front = front; octet = octet; following = following; split = refl; plain = plain_by front none; one_more = (plain_by (octet ∷ []) one).0; count = count; within = within }

pub limit_over : (line_limit limit before : ℕ) (front : List ℕ) (octet : ℕ) (following : List ℕ) → has_none front ≡ true → length front ≤ line_limit → before + length front ≡ limit
    → Lined line_limit limit before (front ++ (octet ∷ following)) [] input_too_long
limit_over line_limit limit before front octet following none short count =
    record { front = front; octet = octet; following = following; split = refl; plain = plain_by front none; short = short; count = count }
