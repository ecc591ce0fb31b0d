-- Octets are cut into lines in one way.
use Rattle.std.proofs.Common.{◌≡◌, ℕ, zero, suc, ◌+◌, ◌-◌, ◌<◌, ◌≤◌, inl, inr, ◌==◌, Bool, true, false, List, [], ◌∷◌, ◌++◌, length, refl, sym, ◌∙◌, ap, subst, arith, length-append}
use Rattle.std.proofs.lemmas.Bool.{eqb-true}
use Rattle.ax_lines.specs.Feeds.{IsNoFeed, IsPlain}
use Rattle.ax_lines.specs.Lined.{LinedEnd, all_lines, input_too_long, line_too_long, NextLine, line, end, IsNextLine, Lined}

-- what comes next, found octet by octet: the line may have `room` octets more, and the input `left`
abbrev with_octet : ℕ → NextLine → NextLine
with_octet x (line octets after) = line (x ∷ octets) after
with_octet x (end e) = end e

abbrev by_room : ℕ → ℕ → NextLine → NextLine
by_room zero x later = end line_too_long
by_room (suc room) x later = with_octet x later

abbrev by_feed : Bool → ℕ → ℕ → List ℕ → NextLine → NextLine
by_feed true room x rest later = line [] rest
by_feed false room x rest later = by_room room x later

abbrev less_one : ℕ → ℕ
less_one zero = zero
less_one (suc n) = n

abbrev by_left : ℕ → ℕ → ℕ → List ℕ → NextLine → NextLine
by_left zero room x rest later = end input_too_long
by_left (suc left) room x rest later = by_feed (x == 10) room x rest later

abbrev walk : ℕ → ℕ → List ℕ → NextLine
walk room left [] = line [] []
walk room left (x ∷ rest) = by_left left room x rest (walk (less_one room) (less_one left) rest)

abbrev next_of : ℕ → ℕ → List ℕ → NextLine
next_of room left [] = end all_lines
next_of room left (x ∷ rest) = walk room left (x ∷ rest)

no_feed : (x : ℕ) (b : Bool) → (x == 10) ≡ b → IsNoFeed x → b ≡ false
no_feed x true e f = absurd (f (eqb-true x 10 e))
no_feed x false e f = refl

plain_on : (room left x : ℕ) (rest : List ℕ) → IsNoFeed x → walk (suc room) (suc left) (x ∷ rest) ≡ with_octet x (walk room left rest)
plain_on room left x rest f = ap (λ b. by_feed b (suc room) x rest (walk room left rest)) (no_feed x (x == 10) refl f)

-- ---- each case is what the walk finds

fed : (octets after : List ℕ) (room left : ℕ) → IsPlain octets → length octets ≤ room → length octets < left → walk room left (octets ++ (10 ∷ after)) ≡ line octets after
fed [] after room zero plain short within = absurd (omega arith)
fed [] after room (suc left) plain short within = refl
fed (x ∷ octets) after zero left plain short within = absurd (omega arith)
fed (x ∷ octets) after (suc room) zero plain short within = absurd (omega arith)
fed (x ∷ octets) after (suc room) (suc left) plain short within =
    plain_on room left x (octets ++ (10 ∷ after)) plain.0 ∙ ap (with_octet x) (fed octets after room left plain.1 (omega arith) (omega arith))

last : (octets : List ℕ) (room left : ℕ) → IsPlain octets → length octets ≤ room → length octets ≤ left → walk room left octets ≡ line octets []
last [] room left plain short within = refl
last (x ∷ octets) zero left plain short within = absurd (omega arith)
last (x ∷ octets) (suc room) zero plain short within = absurd (omega arith)
last (x ∷ octets) (suc room) (suc left) plain short within = plain_on room left x octets plain.0 ∙ ap (with_octet x) (last octets room left plain.1 (omega arith) (omega arith))

past_limit : (front following : List ℕ) (octet room left : ℕ) → IsPlain front → length front ≤ room → length front ≡ left → walk room left (front ++ (octet ∷ following)) ≡ end input_too_long
past_limit [] following octet room zero plain short count = refl
past_limit [] following octet room (suc left) plain short count = absurd (omega arith)
past_limit (x ∷ front) following octet zero left plain short count = absurd (omega arith)
past_limit (x ∷ front) following octet (suc room) zero plain short count = absurd (omega arith)
past_limit (x ∷ front) following octet (suc room) (suc left) plain short count =
    plain_on room left x (front ++ (octet ∷ following)) plain.0 ∙ ap (with_octet x) (past_limit front following octet room left plain.1 (omega arith) (omega arith))

past_line : (front following : List ℕ) (octet room left : ℕ) → IsPlain front → IsNoFeed octet → length front ≡ room → length front < left → walk room left (front ++ (octet ∷ following)) ≡ end line_too_long
past_line [] following octet zero zero plain one count within = absurd (omega arith)
past_line [] following octet zero (suc left) plain one count within = ap (λ b. by_feed b 0 octet following (walk 0 left following)) (no_feed octet (octet == 10) refl one)
past_line [] following octet (suc room) left plain one count within = absurd (omega arith)
past_line (x ∷ front) following octet zero left plain one count within = absurd (omega arith)
past_line (x ∷ front) following octet (suc room) zero plain one count within = absurd (omega arith)
past_line (x ∷ front) following octet (suc room) (suc left) plain one count within =
    plain_on room left x (front ++ (octet ∷ following)) plain.0 ∙ ap (with_octet x) (past_line front following octet room left plain.1 one (omega arith) (omega arith))

-- ---- one thing comes next

some_walk : (room left : ℕ) (rest : List ℕ) → 0 < length rest → next_of room left rest ≡ walk room left rest
some_walk room left [] h = absurd (omega arith)
some_walk room left (x ∷ rest) h = refl

some_more : (front : List ℕ) (octet : ℕ) (following : List ℕ) → 0 < length (front ++ (octet ∷ following))
some_more [] octet following = omega arith
some_more (x ∷ front) octet following = omega arith

some_fed : (octets after : List ℕ) → 0 < length (octets ++ (10 ∷ after))
some_fed octets after = some_more octets 10 after

module _ (line_limit limit before left : ℕ) (counted : before + left ≡ limit) where
  found : (rest : List ℕ) (part : NextLine) → IsNextLine line_limit limit before rest part → next_of line_limit left rest ≡ part
  found rest (line octets after) (inl h) =
      let walked : walk line_limit left (octets ++ (10 ∷ after)) ≡ line octets after = fed octets after line_limit left h.plain h.short (let w = h.within in omega arith) in
      let some : 0 < length (octets ++ (10 ∷ after)) = some_fed octets after in
      ap (next_of line_limit left) h.split ∙ some_walk line_limit left (octets ++ (10 ∷ after)) some ∙ walked
  found rest (line octets after) (inr h) =
      let walked : walk line_limit left octets ≡ line octets [] = last octets line_limit left h.plain h.short (let w = h.within in omega arith) in
      ap (next_of line_limit left) h.split ∙ some_walk line_limit left octets h.some ∙ walked ∙ ap (line octets) (sym h.none_following)
  found rest (end all_lines) h = ap (next_of line_limit left) h
  found rest (end input_too_long) h =
      ap (next_of line_limit left) h.split ∙ some_walk line_limit left (h.front ++ (h.octet ∷ h.following)) (some_more h.front h.octet h.following) ∙ past_limit h.front h.following h.octet line_limit left h.plain h.short (let w = h.count in omega arith)
  found rest (end line_too_long) h =
      ap (next_of line_limit left) h.split ∙ some_walk line_limit left (h.front ++ (h.octet ∷ h.following)) (some_more h.front h.octet h.following) ∙ past_line h.front h.following h.octet line_limit left h.plain h.one_more h.count (let w = h.within in omega arith)

  pub next_once : (rest : List ℕ) (part other : NextLine) → IsNextLine line_limit limit before rest part → IsNextLine line_limit limit before rest other → part ≡ other
  next_once rest part other h k = sym (found rest part h) ∙ found rest other k

-- ---- one list of lines, and one end

same_line : (octets others after later : List ℕ) → line octets after ≡ line others later → (octets ≡ others) × (after ≡ later)
same_line octets others after later e = let a : octets ≡ others = cc in let b : after ≡ later = cc in (a, b)

pub line_within : (line_limit limit before : ℕ) (rest octets after : List ℕ) (taken : ℕ) → length rest ≡ taken + length after → IsNextLine line_limit limit before rest (line octets after) → before + taken ≤ limit
line_within line_limit limit before rest octets after taken count (inl h) =
    let w : before + length octets < limit = h.within in
    let l : length rest ≡ length octets + length (10 ∷ after) = ap length h.split ∙ length-append octets (10 ∷ after) in
    omega arith
line_within line_limit limit before rest octets after taken count (inr h) =
    let w : before + length octets ≤ limit = h.within in
    let l : length rest ≡ length octets = ap length h.split in
    omega arith

pub lined_once : (line_limit limit before : ℕ) (rest : List ℕ) (lines others : List (List ℕ)) (e d : LinedEnd) → before ≤ limit → Lined line_limit limit before rest lines e → Lined line_limit limit before rest others d → (lines ≡ others) × (e ≡ d)
lined_once line_limit limit before rest [] [] e d le h k = (refl, (let s : end e ≡ end d = next_once line_limit limit before (limit - before) (omega arith) rest (end e) (end d) h k in cc))
lined_once line_limit limit before rest [] (octets ∷ others) e d le h (after, taken, k, count, more) = absurd (let s : end e ≡ line octets after = next_once line_limit limit before (limit - before) (omega arith) rest (end e) (line octets after) h k in cc)
lined_once line_limit limit before rest (octets ∷ lines) [] e d le (after, taken, h, count, more) k = absurd (let s : line octets after ≡ end d = next_once line_limit limit before (limit - before) (omega arith) rest (line octets after) (end d) h k in cc)
lined_once line_limit limit before rest (octets ∷ lines) (next ∷ others) e d le (after, taken, h, count, more) (later, took, k, counted, rests) =
    let s : line octets after ≡ line next later = next_once line_limit limit before (limit - before) (omega arith) rest (line octets after) (line next later) h k in
    let same = same_line octets next after later s in
    let following : length after ≡ length later = ap length same.1 in
    let n : taken ≡ took = omega arith in
    let within : before + taken ≤ limit = line_within line_limit limit before rest octets after taken count h in
    let t = lined_once line_limit limit (before + taken) after lines others e d within more (subst (λ m. Lined line_limit limit (before + m) after others d) (sym n) (subst (λ x. Lined line_limit limit (before + took) x others d) (sym same.1) rests)) in
    ((λ i. same.0 i ∷ t.0 i), t.1)
