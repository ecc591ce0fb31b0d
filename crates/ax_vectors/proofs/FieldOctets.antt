-- Presence fields, octet by octet.
use Rattle.std.proofs.Common.{nat_lt, ◌≡◌, ℕ, zero, suc, ◌+◌, ◌-◌, ◌*◌, ◌%◌, ◌<◌, ◌≤◌, Bool, true, false, not, List, [], ◌∷◌, ◌++◌, length, drop, min, get_or, refl, sym, ◌∙◌, ap, subst, arith, add-one, append_assoc, append-nil, length-drop, drop-cons, cond, ◌⊎◌, inl, inr}
use Rattle.std.proofs.lemmas.List.{drop_all}
use Rattle.std.proofs.lemmas.Bool.{cases_lt}
use Rattle.std.proofs.lemmas.Bool.Decides.{nat_tests}
use Rattle.ax_bits.specs.Bits.{AreBits}
use Rattle.ax_fspec.proofs.FieldsWritten.{marks_after_is}
use Rattle.ax_format.proofs.Least.{rests-AreBits}
use Rattle.ax_format.specs.Presence.{octets_needed, first_mark, later_marks, none_marked, marks_after, marks_upto, least_presence}
use Rattle.ax_vectors.specs.Draws.{drawn, next_state}
use Rattle.ax_vectors.specs.Made.{mark_made, fx_before, least_octets, octets_spare, field_of, field_made}
use Rattle.ax_vectors.specs.Making.{Maker, just, by_draw, Adds}

-- ---- marks

none_first : (m : ℕ) (ms : List ℕ) → (m ≡ 0 → ⊥) → none_marked (m ∷ ms) ≡ false
none_first zero ms h = absurd (h refl)
none_first (suc m) ms h = refl

none_later : (m : ℕ) (ms : List ℕ) → m ≡ 0 → none_marked (m ∷ ms) ≡ none_marked ms
none_later zero ms h = refl
none_later (suc m) ms h = absurd (omega (arith, h))

from_place : (marks : List ℕ) (i m : ℕ) → i < length marks → m ≡ get_or marks i m → drop i marks ≡ m ∷ drop (i + 1) marks
from_place marks i m lt e = drop-cons marks i m lt ∙ (λ k. sym e k ∷ drop (sym (add-one i) k) marks)

pub some_mark : (marks : List ℕ) (i m : ℕ) → none_marked marks ≡ none_marked (drop i marks) → i < length marks → m ≡ get_or marks i m → (m ≡ 0 → ⊥) → true ≡ not (none_marked marks)
some_mark marks i m h lt e some = sym (ap not (h ∙ ap none_marked (from_place marks i m lt e) ∙ none_first m (drop (i + 1) marks) some))

pub no_mark_yet : (marks : List ℕ) (i m : ℕ) → none_marked marks ≡ none_marked (drop i marks) → i < length marks → m ≡ get_or marks i m → m ≡ 0 → none_marked marks ≡ none_marked (drop (i + 1) marks)
no_mark_yet marks i m h lt e none = h ∙ ap none_marked (from_place marks i m lt e) ∙ none_later m (drop (i + 1) marks) none

pub no_mark : (marks : List ℕ) (i : ℕ) → none_marked marks ≡ none_marked (drop i marks) → length marks ≤ i → false ≡ not (none_marked marks)
no_mark marks i h past = sym (ap not (h ∙ ap none_marked (drop_all i marks past)))

pub ruleset any_marked = (some_mark, no_mark_yet, no_mark)

pub drawn_mark : (d state after : ℕ) → d ≡ drawn state → after ≡ next_state state → Adds (mark_made true) [] (d % 2 ∷ []) state after
drawn_mark d state after is left = record { list = ap (λ d. d % 2 ∷ []) is; left = left }

pub spare_mark : (state : ℕ) → Adds (mark_made false) [] (0 ∷ []) state state
spare_mark state = record { list = refl; left = refl }

pub ruleset drawn_marks = (drawn_mark, spare_mark)

pub after_seven : (marks : List ℕ) (n : ℕ) → n ≡ min (length marks) 7 → drop n marks ≡ marks_after 7 marks
after_seven marks n e = cases_of (cases_lt (length marks) 7) ∙ sym (marks_after_is 7 marks) where
  cases_of : (length marks < 7) ⊎ (7 ≤ length marks) → drop n marks ≡ drop 7 marks
  cases_of (inl short) = let past : length marks ≤ n = omega (arith, e) in drop_all n marks past ∙ sym (drop_all 7 marks (omega arith))
  cases_of (inr long) = let same : n ≡ 7 = omega (arith, e) in ap (λ k. drop k marks) same

-- ---- the least field

-- the octets of a least field of at most k octets more than the first, where these marks stand after those of the first
abbrev pub bits_from : ℕ → List ℕ → ℕ
bits_from k rest = cond (none_marked rest) 8 (8 + length (least_presence k rest))

size_at : (b : Bool) (ms f : List ℕ) → length (cond b (marks_upto 7 ms ++ 0 ∷ []) (marks_upto 7 ms ++ 1 ∷ f)) ≡ cond b 8 (8 + length f)
size_at true ms f = refl
size_at false ms f = omega arith

size_from : (k : ℕ) (ms : List ℕ) → length (least_presence (suc k) ms) ≡ bits_from k (marks_after 7 ms)
size_from k ms = size_at (none_marked (marks_after 7 ms)) ms (least_presence k (marks_after 7 ms))

pub record LeastLeft (marks rest : List ℕ) (count : ℕ) : Type 0 where
  pub more : ℕ
  pub octets : octets_needed (length marks) ≡ count + more
  pub fits : length rest ≤ 7 * more
  pub some : 1 ≤ count
  pub size : length (least_presence (octets_needed (length marks)) marks) ≡ 8 * (count - 1) + bits_from more rest

length_after : (marks : List ℕ) → length (marks_after 7 marks) ≡ length marks - 7
length_after marks = ap length (marks_after_is 7 marks) ∙ length-drop 7 marks

pub least_first : (marks : List ℕ) → 1 ≤ length marks → LeastLeft marks (marks_after 7 marks) 1
least_first marks some =
    let k = octets_needed (length marks) - 1 in
    let e : octets_needed (length marks) ≡ suc k = omega arith in
    record {
      more = k;
      octets = omega arith;
      fits = omega (arith, length_after marks);
      some = omega arith;
      size = let s : length (least_presence (octets_needed (length marks)) marks) ≡ bits_from k (marks_after 7 marks) = ap (λ n. length (least_presence n marks)) e ∙ size_from k marks in omega (arith, s);
    }

turned : (b : Bool) → not b ≡ false → b ≡ true
turned true h = refl
turned false h = sym h

turned_off : (b : Bool) → not b ≡ true → b ≡ false
turned_off true h = sym h
turned_off false h = refl

marked_some : (rest : List ℕ) → not (none_marked rest) ≡ true → 0 < length rest
marked_some [] h = absurd (cc)
marked_some (m ∷ rest) h = omega arith

pub least_next : (marks rest new : List ℕ) (count : ℕ) (b : Bool) → LeastLeft marks rest count → b ≡ not (none_marked rest) → b ≡ true → new ≡ marks_after 7 rest → LeastLeft marks new (count + 1)
least_next marks rest new count b h is holds e =
    let some = marked_some rest (sym is ∙ holds) in
    let less = h.more - 1 in
    let one : h.more ≡ suc less = omega (arith, h.fits) in
    let marked : none_marked rest ≡ false = turned_off (none_marked rest) (sym is ∙ holds) in
    let size : bits_from h.more rest ≡ 8 + bits_from less new =
    ap (λ b. cond b 8 (8 + length (least_presence h.more rest))) marked ∙ ap (λ n. 8 + length (least_presence n rest)) one ∙ ap (λ n. 8 + n) (size_from less rest) ∙ ap (λ r. 8 + bits_from less r) (sym e) in
    record {
      more = less;
      octets = omega (arith, h.octets);
      fits = omega (arith, h.fits, ap length e, length_after rest);
      some = omega arith;
      size = h.size ∙ ap (λ n. 8 * (count - 1) + n) size ∙ omega (arith, h.some);
    }

pub least_shrinks : (rest new : List ℕ) (b : Bool) → b ≡ not (none_marked rest) → b ≡ true → new ≡ marks_after 7 rest → length new < length rest
least_shrinks rest new b is holds e = omega (arith, marked_some rest (sym is ∙ holds), ap length e, length_after rest)

pub least_over : (marks rest : List ℕ) (count : ℕ) (b : Bool) → LeastLeft marks rest count → b ≡ not (none_marked rest) → b ≡ false → count ≡ least_octets marks
least_over marks rest count b h is fails =
    let none : none_marked rest ≡ true = turned (none_marked rest) (sym is ∙ fails) in
    let size : length (least_presence (octets_needed (length marks)) marks) ≡ 8 * count =
    h.size ∙ ap (λ b. 8 * (count - 1) + cond b 8 (8 + length (least_presence h.more rest))) none ∙ omega (arith, h.some) in
    omega (arith, size)

pub least_small : (marks rest : List ℕ) (count : ℕ) → LeastLeft marks rest count → length marks ≤ 126 → count ≤ 18
least_small marks rest count h few = omega (arith, h.octets)

pub ruleset least = (least_first, least_next, least_shrinks, least_over, least_small)

-- ---- one octet of marks

later_get : (marks : List ℕ) (n : ℕ) → get_or (later_marks marks) n 0 ≡ get_or marks (suc n) 0
later_get [] n = refl
later_get (m ∷ marks) n = refl

first_get : (marks : List ℕ) → first_mark marks ≡ get_or marks 0 0
first_get [] = refl
first_get (m ∷ marks) = refl

upto_more : (n : ℕ) (marks : List ℕ) → marks_upto (suc n) marks ≡ marks_upto n marks ++ get_or marks n 0 ∷ []
upto_more zero marks = ap (λ m. m ∷ []) (first_get marks)
upto_more (suc n) marks = ap (λ ms. first_mark marks ∷ ms) (upto_more n (later_marks marks) ∙ ap (λ m. marks_upto n (later_marks marks) ++ m ∷ []) (later_get marks n))

pub seven_more : (marks old now new : List ℕ) (n : ℕ) → now ≡ old ++ marks_upto n marks → new ≡ now ++ get_or marks n 0 ∷ [] → new ≡ old ++ marks_upto (n + 1) marks
seven_more marks old now new n h e =
    e ∙ ap (λ x. x ++ get_or marks n 0 ∷ []) h ∙ append_assoc old (marks_upto n marks) (get_or marks n 0 ∷ []) ∙ ap (λ x. old ++ x) (sym (upto_more n marks)) ∙ ap (λ k. old ++ marks_upto k marks) (sym (add-one n))

pub seven_none : (marks old : List ℕ) → old ≡ old ++ marks_upto 0 marks
seven_none marks old = sym (append-nil old)

pub ruleset sevens = (seven_none, seven_more)

-- ---- a whole field

pub record FieldLeft (count : ℕ) (marks : List ℕ) (left : ℕ) (rest old now : List ℕ) : Type 0 where
  pub each : AreBits rest
  pub list : old ++ field_of count marks ≡ now ++ field_of left rest

pub field_first : (count : ℕ) (marks old : List ℕ) → AreBits marks → FieldLeft count marks count marks old old
field_first count marks old h = record { each = h; list = refl }

pub field_next : (count : ℕ) (marks : List ℕ) (left : ℕ) (rest old now mid new following : List ℕ) → FieldLeft count marks left rest old now → 0 < left → mid ≡ now ++ marks_upto 7 rest → new ≡ mid ++ fx_before 1 (left - 1)
    → following ≡ marks_after 7 rest → FieldLeft count marks (left - 1) following old new
field_next count marks left rest old now mid new following h some a b e =
    let less = left - 1 in
    let one : left ≡ suc less = omega arith in
    let seven = marks_upto 7 rest in
    let fx = fx_before 1 less in
    let later = field_of less (marks_after 7 rest) in
    record {
      each = subst AreBits (sym e) (rests-AreBits 7 rest h.each);
      list = h.list ∙ ap (λ n. now ++ field_of n rest) one ∙ sym (append_assoc now seven (fx ++ later)) ∙ ap (λ x. x ++ (fx ++ later)) (sym a)
          ∙ sym (append_assoc mid fx later) ∙ ap (λ x. x ++ later) (sym b) ∙ ap (λ r. new ++ field_of less r) (sym e);
    }

pub field_over : (count : ℕ) (marks : List ℕ) (left : ℕ) (rest old now : List ℕ) → FieldLeft count marks left rest old now → left ≤ 0 → now ≡ old ++ field_of count marks
field_over count marks left rest old now h none = let e : left ≡ 0 = omega arith in sym (h.list ∙ ap (λ n. now ++ field_of n rest) e ∙ append-nil now)

pub ruleset fields = (field_first, field_next, field_over)

-- ---- which field

pub is_below : (m n : ℕ) → m < n → nat_lt m n ≡ true
is_below m n h = grind (arith, nat_tests)

pub is_not_below : (m n : ℕ) → n ≤ m → nat_lt m n ≡ false
is_not_below m n h = grind (arith, nat_tests)

pub field_more : (marks old new : List ℕ) (first after least needed d : ℕ) → least ≡ least_octets marks → needed ≡ octets_needed (length marks) → least < needed → d ≡ drawn first → after ≡ next_state first
    → new ≡ old ++ field_of (least + d % (needed - least + 1)) marks → Adds (field_made marks) old new first after
field_more marks old new first after least needed d is all lt drawn_is left e =
    let some : 0 < octets_spare marks = omega (arith, is, all) in
    let redundant : Maker = by_draw (λ d. just (field_of (least_octets marks + d % (octets_spare marks + 1)) marks)) in
    let plain : Maker = just (field_of (least_octets marks) marks) in
    let spare : needed - least ≡ octets_spare marks = (λ k. all k - is k) in
    let made : Adds redundant old new first after = record {
      list = e ∙ ap (λ n. old ++ field_of (n + d % (needed - least + 1)) marks) is ∙ ap (λ n. old ++ field_of (least_octets marks + d % (n + 1)) marks) spare ∙ ap (λ d. old ++ field_of (least_octets marks + d % (octets_spare marks + 1)) marks) drawn_is;
      left = left;
    } in
    subst (λ b. Adds (cond b redundant plain) old new first after) (sym (is_below 0 (octets_spare marks) some)) made

pub field_least : (marks old new : List ℕ) (first least needed : ℕ) → least ≡ least_octets marks → needed ≡ octets_needed (length marks) → needed ≤ least → new ≡ old ++ field_of least marks → Adds (field_made marks) old new first first
field_least marks old new first least needed is all le e =
    let none : octets_spare marks ≤ 0 = omega (arith, is, all) in
    let redundant : Maker = by_draw (λ d. just (field_of (least_octets marks + d % (octets_spare marks + 1)) marks)) in
    let plain : Maker = just (field_of (least_octets marks) marks) in
    let made : Adds plain old new first first = record { list = e ∙ ap (λ n. old ++ field_of n marks) is; left = refl } in
    subst (λ b. Adds (cond b redundant plain) old new first first) (sym (is_not_below 0 (octets_spare marks) none)) made

pub ruleset which_field = (field_more, field_least)
