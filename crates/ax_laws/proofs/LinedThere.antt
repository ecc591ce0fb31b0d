-- Octets are cut into lines.
use Rattle.std.proofs.Common.{◌≡◌, ℕ, zero, suc, ◌+◌, ◌-◌, ◌<◌, ◌≤◌, ◌⊎◌, inl, inr, ◌==◌, Bool, true, false, List, [], ◌∷◌, ◌++◌, length, refl, sym, ◌∙◌, ap, subst, arith, append_assoc, append-nil, length-append}
use Rattle.std.proofs.lemmas.Bool.{cases_lt, eqb-true}
use Rattle.ax_lines.specs.Feeds.{IsNoFeed, IsPlain}
use Rattle.ax_lines.specs.Lined.{LinedEnd, all_lines, input_too_long, line_too_long, NextLine, line, end, IsNextLine, Lined}
use Rattle.ax_lines.proofs.LinedOnce.{line_within}
use Rattle.ax_lines.proofs.Steps.{plain-append}

no_feed : (x : ℕ) → (x == 10) ≡ false → IsNoFeed x
no_feed x e is = absurd (let f : (10 == 10) ≡ false = ap (λ y. y == 10) (sym is) ∙ e in let g : ◌≡◌ {A = Bool} true false = f in cc)

-- ---- something comes next

abbrev HasNext : ℕ → ℕ → ℕ → List ℕ → Type 0
HasNext line_limit limit before rest = (part : NextLine) × IsNextLine line_limit limit before rest part

module _ (line_limit limit before : ℕ) where
  at_octet : (front : List ℕ) (x : ℕ) (rest : List ℕ) → IsPlain front → length front ≤ line_limit → before + length front < limit → (length front < line_limit → IsNoFeed x → HasNext line_limit limit before (front ++ (x ∷ rest)))
      → (b : Bool) → (x == 10) ≡ b → (length front < line_limit) ⊎ (line_limit ≤ length front) → HasNext line_limit limit before (front ++ (x ∷ rest))
  at_octet front x rest plain short within later true is order =
      (line front rest, inl (record { split = ap (λ y. front ++ (y ∷ rest)) (eqb-true x 10 is); plain = plain; short = short; within = within }))
  at_octet front x rest plain short within later false is (inl less) = later less (no_feed x is)
  at_octet front x rest plain short within later false is (inr le) =
      (end line_too_long, record { front = front; octet = x; following = rest; split = refl; plain = plain; one_more = no_feed x is; count = omega arith; within = within })

  at_limit : (front : List ℕ) (x : ℕ) (rest : List ℕ) → IsPlain front → length front ≤ line_limit → before + length front ≤ limit → (before + length front < limit → HasNext line_limit limit before (front ++ (x ∷ rest)))
      → (before + length front < limit) ⊎ (limit ≤ before + length front) → HasNext line_limit limit before (front ++ (x ∷ rest))
  at_limit front x rest plain short fits later (inl less) = later less
  at_limit front x rest plain short fits later (inr le) =
      (end input_too_long, record { front = front; octet = x; following = rest; split = refl; plain = plain; short = short; count = omega arith })

  at_end : (front : List ℕ) → IsPlain front → length front ≤ line_limit → before + length front ≤ limit → HasNext line_limit limit before (front ++ [])
  at_end [] plain short fits = (end all_lines, refl)
  at_end (x ∷ front) plain short fits =
      (line (x ∷ front) [], inr (record { split = append-nil (x ∷ front); none_following = refl; some = omega arith; plain = plain; short = short; within = fits }))

  -- after octets without a line feed, within both limits
  has_next : (rest front : List ℕ) → IsPlain front → length front ≤ line_limit → before + length front ≤ limit → HasNext line_limit limit before (front ++ rest)
  has_next [] front plain short fits = at_end front plain short fits
  has_next (x ∷ rest) front plain short fits =
      at_limit front x rest plain short fits (λ within. at_octet front x rest plain short within (λ less none.
      (let size : length (front ++ (x ∷ [])) ≡ length front + 1 = length-append front (x ∷ []) in
      subst (HasNext line_limit limit before) (append_assoc front (x ∷ []) rest) (has_next rest (front ++ (x ∷ [])) (plain-append front (x ∷ []) plain (none, tt)) (omega arith) (omega arith))))
      (x == 10) refl (cases_lt (length front) line_limit)) (cases_lt (before + length front) limit)

-- ---- lines, up to an end

longer : (line_limit limit before : ℕ) (rest one after : List ℕ) → IsNextLine line_limit limit before rest (line one after) → length after < length rest
longer line_limit limit before rest one after (inl h) = let e : length rest ≡ length one + suc (length after) = ap length h.split ∙ length-append one (10 ∷ after) in omega arith
longer line_limit limit before rest one after (inr h) =
    let e : length rest ≡ length one = ap length h.split in let f : length after ≡ 0 = ap length h.none_following in let g : 0 < length one = h.some in omega arith

empty : (rest : List ℕ) → length rest ≤ 0 → rest ≡ []
empty [] le = refl
empty (x ∷ rest) le = absurd (omega arith)

abbrev pub HasLines : ℕ → ℕ → ℕ → List ℕ → Type 0
HasLines line_limit limit before rest = (lines : List (List ℕ)) × (e : LinedEnd) × Lined line_limit limit before rest lines e

by_next : (line_limit limit n before : ℕ) (rest : List ℕ) → length rest ≤ suc n → before ≤ limit → ((before' : ℕ) (after : List ℕ) → length after ≤ n → before' ≤ limit → HasLines line_limit limit before' after) → HasNext line_limit limit before rest → HasLines line_limit limit before rest
by_next line_limit limit n before rest le fits later (end e, h) = ([], e, h)
by_next line_limit limit n before rest le fits later (line one after, h) =
    let less : length after < length rest = longer line_limit limit before rest one after h in
    let count : length rest ≡ (length rest - length after) + length after = omega arith in
    let more = later (before + (length rest - length after)) after (omega arith) (line_within line_limit limit before rest one after (length rest - length after) count h) in
    (one ∷ more.0, more.1, (after, length rest - length after, h, count, more.2))

has_lines : (line_limit limit n before : ℕ) (rest : List ℕ) → length rest ≤ n → before ≤ limit → HasLines line_limit limit before rest
has_lines line_limit limit zero before rest le fits = ([], all_lines, empty rest le)
has_lines line_limit limit (suc n) before rest le fits =
    by_next line_limit limit n before rest le fits (λ before' after shorter within. has_lines line_limit limit n before' after shorter within) (has_next line_limit limit before rest [] tt (omega arith) (omega arith))

pub lined_there : (line_limit limit : ℕ) (input : List ℕ) → HasLines line_limit limit 0 input
lined_there line_limit limit input = has_lines line_limit limit (length input) 0 input (omega arith) (omega arith)
