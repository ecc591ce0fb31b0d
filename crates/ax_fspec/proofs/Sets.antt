-- The marks of a set, of which 63 stand in each of two numbers.
use Rattle.std.proofs.Common.{◌≡◌, ◌≢◌, ◌⊎◌, inl, inr, lit<, ◌↔◌, ℕ, zero, suc, ◌+◌, ◌-◌, ◌*◌, ◌^◌, ◌<◌, ◌≤◌, ◌==◌, ◌&&◌, Bool, true, false, not, IsTrue, List, [], ◌∷◌, ◌++◌, length, take, drop, set, get_or, replicate, min, refl, subst, sym, ◌∙◌, ap, arith, length-append}
use Rattle.std.proofs.lemmas.List.{drop_all, set_at, length-replicate, get_or_append_left, get_or-append_right, get_or_past, set-append_left, set-append_right, take-append-le, drop-append-le, length-take-le, length-drop, append_assoc, replicate-append-replicate, take_at, drop_at}
use Rattle.std.proofs.lemmas.Bool.{ne_eqb, cases_lt}
use Rattle.std.proofs.Math.Seq.{take-append-add, drop-append-add}
use Rattle.ax_bits.specs.Bits.{word, AreBits}
use Rattle.ax_bits.proofs.Words.{append-AreBits, length-word, word-AreBits}
use Rattle.ax_format.specs.Presence.{none_marked}
use Rattle.ax_fspec.specs.Marks.{half, seven, marks_in, no_marks, common_marks, AreMarks, IsMarked, slots_of}
use Rattle.ax_fspec.proofs.Halves.{first_mark_at, first_of_first, first_of_second, none_of_zero, length-half, zeros, half-is, none_half}

pub length-marks_in : (a b : ℕ) → length (marks_in a b) ≡ 126
length-marks_in a b = omega (arith, length-append (half a) (half b), length-half a, length-half b)

pub no_marks_in : marks_in 0 0 ≡ no_marks
unfolding no_marks
no_marks_in =
    let e : half 0 ≡ replicate 63 0 = half-is 63 0 refl ∙ zeros 63 in
    (λ i. e i ++ e i) ∙ replicate-append-replicate 63 63 0

none_marked-append : (x y : List ℕ) → none_marked (x ++ y) ≡ (none_marked x && none_marked y)
none_marked-append [] y = refl
none_marked-append (zero ∷ x) y = none_marked-append x y
none_marked-append (suc m ∷ x) y = refl

none_zeros : (n : ℕ) → none_marked (replicate n 0) ≡ true
none_zeros zero = refl
none_zeros (suc n) = none_zeros n

-- ---- the mark of one slot

at_first : (a b p : ℕ) (marks : List ℕ) → marks_in a b ≡ marks → p < 63 → get_or marks p 0 ≡ get_or (half a) p 0
at_first a b p marks e h = ap (λ k. get_or k p 0) (sym e) ∙ get_or_append_left (half a) (half b) 0 p (omega (arith, length-half a))

at_second : (a b p : ℕ) (marks : List ℕ) → marks_in a b ≡ marks → 63 ≤ p → get_or marks p 0 ≡ get_or (half b) (p - 63) 0
at_second a b p marks e h = ap (λ k. get_or k p 0) (sym e) ∙ get_or-append_right (half a) (half b) 63 p 0 (length-half a) h

past_both : (a b p : ℕ) (marks : List ℕ) → marks_in a b ≡ marks → 126 ≤ p → get_or marks p 0 ≡ 0
past_both a b p marks e h = ap (λ k. get_or k p 0) (sym e) ∙ get_or_past (marks_in a b) p 0 (omega (arith, length-marks_in a b))

pub has_in_first : (a b slot : ℕ) (marks : List ℕ) (r : Bool) → marks_in a b ≡ marks → slot < 64 → 0 < slot →
    (IsTrue r ↔ (get_or (half a) (slot - 1) 0 ≡ 1)) → (IsTrue r ↔ IsMarked marks slot)
has_in_first a b slot marks r e h some f =
    let same : get_or marks (slot - 1) 0 ≡ get_or (half a) (slot - 1) 0 = at_first a b (slot - 1) marks e (omega arith) in
    (λ t. (some, same ∙ f.0 t), λ m. f.1 (sym same ∙ m.1))

pub has_in_second : (a b slot : ℕ) (marks : List ℕ) (r : Bool) → marks_in a b ≡ marks → 64 ≤ slot →
    (IsTrue r ↔ (get_or (half b) (slot - 64) 0 ≡ 1)) → (IsTrue r ↔ IsMarked marks slot)
has_in_second a b slot marks r e h f =
    let place : slot - 1 - 63 ≡ slot - 64 = omega arith in
    let same : get_or marks (slot - 1) 0 ≡ get_or (half b) (slot - 64) 0 = at_second a b (slot - 1) marks e (omega arith) ∙ ap (λ k. get_or (half b) k 0) place in
    (λ t. (omega arith, same ∙ f.0 t), λ m. f.1 (sym same ∙ m.1))

pub has_not : (a b slot : ℕ) (marks : List ℕ) → marks_in a b ≡ marks → 127 ≤ slot → IsMarked marks slot → ⊥
has_not a b slot marks e h m = let z : get_or marks (slot - 1) 0 ≡ 0 = past_both a b (slot - 1) marks e (omega arith) in absurd (omega (arith, m.1))

pub mark_in_first : (a b c slot : ℕ) (marks : List ℕ) → marks_in a b ≡ marks → 1 ≤ slot → slot < 64 → half c ≡ set (half a) (slot - 1) 1 → marks_in c b ≡ set marks (slot - 1) 1
mark_in_first a b c slot marks e some h f =
    ap (λ k. k ++ half b) f ∙ sym (set-append_left (half a) (half b) (slot - 1) 1 (omega (arith, length-half a))) ∙ ap (λ k. set k (slot - 1) 1) e

pub mark_in_second : (a b c slot : ℕ) (marks : List ℕ) → marks_in a b ≡ marks → 64 ≤ slot → half c ≡ set (half b) (slot - 64) 1 → marks_in a c ≡ set marks (slot - 1) 1
mark_in_second a b c slot marks e h f =
    let place : slot - 64 ≡ slot - 1 - 63 = omega arith in
    ap (λ k. half a ++ k) (f ∙ ap (λ k. set (half b) k 1) place)
    ∙ sym (set-append_right (half a) (half b) 63 (slot - 1) 1 (length-half a) (omega arith)) ∙ ap (λ k. set k (slot - 1) 1) e

-- ---- the marks of one octet

drop_in_first : (a b n : ℕ) (marks : List ℕ) → marks_in a b ≡ marks → n ≤ 63 → drop n marks ≡ drop n (half a) ++ half b
drop_in_first a b n marks e h = ap (drop n) (sym e) ∙ drop-append-le n (half a) (half b) (omega (arith, length-half a))

drop_in_second : (a b n m : ℕ) (marks : List ℕ) → marks_in a b ≡ marks → n ≡ 63 + m → drop n marks ≡ drop m (half b)
drop_in_second a b n m marks e h =
    let f : n ≡ length (half a) + m = omega (arith, length-half a) in
    ap (drop n) (sym e) ∙ ap (λ k. drop k (marks_in a b)) f ∙ drop-append-add (half a) (half b) m

take_in_first : (a b n : ℕ) (marks : List ℕ) → marks_in a b ≡ marks → n ≤ 63 → take n marks ≡ take n (half a)
take_in_first a b n marks e h = ap (take n) (sym e) ∙ take-append-le n (half a) (half b) (omega (arith, length-half a))

take_in_second : (a b n m : ℕ) (marks : List ℕ) → marks_in a b ≡ marks → n ≡ 63 + m → take n marks ≡ half a ++ take m (half b)
take_in_second a b n m marks e h =
    let f : n ≡ length (half a) + m = omega (arith, length-half a) in
    ap (take n) (sym e) ∙ ap (λ k. take k (marks_in a b)) f ∙ take-append-add (half a) (half b) m

pub seven_in_first : (a b o : ℕ) (marks m : List ℕ) → marks_in a b ≡ marks → o < 9 → m ≡ take 7 (drop (7 * o) (half a)) → m ≡ take 7 (drop (7 * o) marks)
seven_in_first a b o marks m e h f =
    f ∙ sym (ap (take 7) (drop_in_first a b (7 * o) marks e (omega arith)) ∙ take-append-le 7 (drop (7 * o) (half a)) (half b) (omega (arith, length-drop (7 * o) (half a), length-half a)))

pub seven_in_second : (a b o : ℕ) (marks m : List ℕ) → marks_in a b ≡ marks → 9 ≤ o → m ≡ take 7 (drop (7 * (o - 9)) (half b)) → m ≡ take 7 (drop (7 * o) marks)
seven_in_second a b o marks m e h f = f ∙ sym (ap (take 7) (drop_in_second a b (7 * o) (7 * (o - 9)) marks e (omega arith)))

-- ---- whether a mark stands after an octet

and_true : (x : Bool) → (x && true) ≡ x
and_true true = refl
and_true false = refl

and_false : (x : Bool) → (x && false) ≡ false
and_false true = refl
and_false false = refl

both : (x y : Bool) → IsTrue (x && y) → IsTrue x × IsTrue y
both true y h = (refl, h)
both false y h = cc

none_in_first : (a b n : ℕ) (marks : List ℕ) → marks_in a b ≡ marks → n ≤ 63 → none_marked (drop n marks) ≡ (none_marked (drop n (half a)) && none_marked (half b))
none_in_first a b n marks e h = ap none_marked (drop_in_first a b n marks e h) ∙ none_marked-append (drop n (half a)) (half b)

pub after_in_both : (a b o : ℕ) (marks : List ℕ) → marks_in a b ≡ marks → o < 9 → b < 2 ^ 63 → b ≢ 0 → not (b == 0) ≡ not (none_marked (drop (7 * o + 7) marks))
after_in_both a b o marks e h f g =
    let some : (b == 0) ≡ false = ne_eqb b 0 g in
    let none : none_marked (drop (7 * o + 7) marks) ≡ false
    = none_in_first a b (7 * o + 7) marks e (omega arith)
    ∙ ap (λ k. none_marked (drop (7 * o + 7) (half a)) && k) (none_half b f ∙ some) ∙ and_false (none_marked (drop (7 * o + 7) (half a))) in
    ap not (some ∙ sym none)

pub after_in_first : (a b o : ℕ) (marks : List ℕ) (r : Bool) → marks_in a b ≡ marks → o < 9 → b ≡ 0 → r ≡ not (none_marked (drop (7 * o + 7) (half a))) → r ≡ not (none_marked (drop (7 * o + 7) marks))
after_in_first a b o marks r e h z f =
    let none : none_marked (half b) ≡ true = ap (λ k. none_marked (half k)) z ∙ none_half 0 (lit< tt) in
    f ∙ ap not (sym (none_in_first a b (7 * o + 7) marks e (omega arith) ∙ ap (λ k. none_marked (drop (7 * o + 7) (half a)) && k) none ∙ and_true (none_marked (drop (7 * o + 7) (half a)))))

pub after_in_second : (a b o : ℕ) (marks : List ℕ) (r : Bool) → marks_in a b ≡ marks → 9 ≤ o → r ≡ not (none_marked (drop (7 * (o - 9) + 7) (half b))) → r ≡ not (none_marked (drop (7 * o + 7) marks))
after_in_second a b o marks r e h f = f ∙ ap (λ k. not (none_marked k)) (sym (drop_in_second a b (7 * o + 7) (7 * (o - 9) + 7) marks e (omega arith)))

after_last_at : (b o : ℕ) → o < 18 → (o < 17) ⊎ (17 ≤ o) → not (none_marked (drop (7 * (o - 9) + 7) (half b))) ≡ true → o < 17
after_last_at b o h (inl lt) t = lt
after_last_at b o h (inr ge) t =
    let last : 7 * (o - 9) + 7 ≡ 63 = omega arith in
    let none : drop (7 * (o - 9) + 7) (half b) ≡ [] = drop_all (7 * (o - 9) + 7) (half b) (omega (arith, length-half b)) in
    let no : not (none_marked []) ≡ true = sym (ap (λ k. not (none_marked k)) none) ∙ t in
    absurd (cc)

pub after_last : (b o : ℕ) (r : Bool) → o < 18 → r ≡ not (none_marked (drop (7 * (o - 9) + 7) (half b))) → IsTrue r → o < 17
after_last b o r h e t = after_last_at b o h (cases_lt o 17) (sym e ∙ t)

-- ---- an octet's marks are written

pub length-seven : (n : ℕ) → length (seven n) ≡ 7
unfolding seven
length-seven n = length-word 7 n

-- seven marks after n, and no others
written_front : (x z new : List ℕ) (n m : ℕ) → n ≤ length x → new ≡ take n x ++ (seven m ++ z) → (take (n + 7) new ≡ take n x ++ seven m) × (drop (n + 7) new ≡ z)
written_front x z new n m h e =
    let whole : new ≡ (take n x ++ seven m) ++ z = e ∙ sym (append_assoc (take n x) (seven m) z) in
    let long : length (take n x ++ seven m) ≡ n + 7 = omega (arith, length-append (take n x) (seven m), length-take-le n x h, length-seven m) in
    (ap (take (n + 7)) whole ∙ take_at (take n x ++ seven m) z (n + 7) long, ap (drop (n + 7)) whole ∙ drop_at (take n x ++ seven m) z (n + 7) long)

none_word : (w : ℕ) → none_marked (word w 0) ≡ true
none_word w = ap none_marked (zeros w) ∙ none_zeros w

pub may_write_first : (a b o : ℕ) (marks : List ℕ) → marks_in a b ≡ marks → o < 9 → IsTrue (none_marked (drop (7 * o) marks)) → IsTrue (none_marked (drop (7 * o) (half a))) × IsTrue (none_marked (half b))
may_write_first a b o marks e h none =
    both (none_marked (drop (7 * o) (half a))) (none_marked (half b)) (sym (none_in_first a b (7 * o) marks e (omega arith)) ∙ none)

pub may_write_second : (a b o : ℕ) (marks : List ℕ) → marks_in a b ≡ marks → 9 ≤ o → IsTrue (none_marked (drop (7 * o) marks)) → IsTrue (none_marked (drop (7 * (o - 9)) (half b)))
may_write_second a b o marks e h none = ap none_marked (sym (drop_in_second a b (7 * o) (7 * (o - 9)) marks e (omega arith))) ∙ none

pub written_first : (a b c o m : ℕ) (marks : List ℕ) → marks_in a b ≡ marks → o < 9 → IsTrue (none_marked (drop (7 * o) marks)) →
    half c ≡ take (7 * o) (half a) ++ (seven m ++ word (56 - 7 * o) 0) → (take (7 * o + 7) (marks_in c b) ≡ take (7 * o) marks ++ seven m) × IsTrue (none_marked (drop (7 * o + 7) (marks_in c b)))
written_first a b c o m marks e h none f =
    let z = word (56 - 7 * o) 0 in
    let new = written_front (half a) z (half c) (7 * o) m (omega (arith, length-half a)) f in
    let all = marks_in c b in (
      take_in_first c b (7 * o + 7) all refl (omega arith) ∙ new.0 ∙ ap (λ k. k ++ seven m) (sym (take_in_first a b (7 * o) marks e (omega arith))),
      none_in_first c b (7 * o + 7) all refl (omega arith)
          ∙ (λ i. (ap none_marked new.1 ∙ none_word (56 - 7 * o)) i && (may_write_first a b o marks e h none).1 i),
    )

pub written_second : (a b c o m : ℕ) (marks : List ℕ) → marks_in a b ≡ marks → 9 ≤ o → o < 18 →
    half c ≡ take (7 * (o - 9)) (half b) ++ (seven m ++ word (56 - 7 * (o - 9)) 0) → (take (7 * o + 7) (marks_in a c) ≡ take (7 * o) marks ++ seven m) × IsTrue (none_marked (drop (7 * o + 7) (marks_in a c)))
written_second a b c o m marks e h g f =
    let n = 7 * (o - 9) in
    let z = word (56 - n) 0 in
    let new = written_front (half b) z (half c) n m (omega (arith, length-half b)) f in
    let all = marks_in a c in (
      take_in_second a c (7 * o + 7) (n + 7) all refl (omega arith) ∙ ap (λ k. half a ++ k) new.0 ∙ sym (append_assoc (half a) (take n (half b)) (seven m))
          ∙ ap (λ k. k ++ seven m) (sym (take_in_second a b (7 * o) n marks e (omega arith))),
      ap none_marked (drop_in_second a c (7 * o + 7) (n + 7) all refl (omega arith) ∙ new.1) ∙ none_word (56 - n),
    )

-- ---- the first slot is taken out

pub taken_first : (a b p : ℕ) (marks : List ℕ) → marks_in a b ≡ marks → p < 63 → 2 ^ (62 - p) ≤ a → a < 2 ^ (63 - p) →
    (slots_of marks ≡ (1 + p) ∷ slots_of (marks_in (a - 2 ^ (62 - p)) b)) × (marks_in (a - 2 ^ (62 - p)) b ≡ set marks (1 + p - 1) 0)
taken_first a b p marks e h low high =
    let split = first_mark_at a p h low high in
    let z = word (62 - p) a in
    let place : 1 + p - 1 ≡ p = omega arith in
    let out : half (a - 2 ^ (62 - p)) ≡ set (half a) p 0
    = split.1 ∙ sym (ap (λ k. set k p 0) split.0 ∙ set_at (replicate p 0) 1 z 0 p (length-replicate p 0)) in (
      ap slots_of (sym e) ∙ first_of_first a b p h low high,
      ap (λ k. k ++ half b) out ∙ sym (set-append_left (half a) (half b) p 0 (omega (arith, length-half a)))
          ∙ (λ i. set (e i) (sym place i) 0),
    )

pub taken_second : (a b p : ℕ) (marks : List ℕ) → marks_in a b ≡ marks → a ≡ 0 → p < 63 → 2 ^ (62 - p) ≤ b → b < 2 ^ (63 - p) →
    (slots_of marks ≡ (64 + p) ∷ slots_of (marks_in a (b - 2 ^ (62 - p)))) × (marks_in a (b - 2 ^ (62 - p)) ≡ set marks (64 + p - 1) 0)
taken_second a b p marks e zero_first h low high =
    let split = first_mark_at b p h low high in
    let z = word (62 - p) b in
    let place : 64 + p - 1 - 63 ≡ p = omega arith in
    let out : half (b - 2 ^ (62 - p)) ≡ set (half b) p 0
    = split.1 ∙ sym (ap (λ k. set k p 0) split.0 ∙ set_at (replicate p 0) 1 z 0 p (length-replicate p 0)) in (
      ap slots_of (sym e) ∙ ap (λ k. slots_of (marks_in k b)) zero_first ∙ first_of_second b p h low high
          ∙ ap (λ k. (64 + p) ∷ slots_of (marks_in k (b - 2 ^ (62 - p)))) (sym zero_first),
      ap (λ k. half a ++ k) (out ∙ ap (λ k. set (half b) k 0) (sym place))
          ∙ sym (set-append_right (half a) (half b) 63 (64 + p - 1) 0 (length-half a) (omega arith)) ∙ ap (λ k. set k (64 + p - 1) 0) e,
    )

pub none_taken : (a b : ℕ) (marks : List ℕ) → marks_in a b ≡ marks → a ≡ 0 → b ≡ 0 → slots_of marks ≡ []
none_taken a b marks e p q = ap slots_of (sym e) ∙ (λ i. slots_of (marks_in (p i) (q i))) ∙ none_of_zero

pub none_of_no_marks : IsTrue (none_marked no_marks)
unfolding no_marks
none_of_no_marks = none_zeros 126

-- ---- two sets

common_front : (x y u v : List ℕ) → length x ≡ length u → common_marks (x ++ y) (u ++ v) ≡ common_marks x u ++ common_marks y v
common_front [] y [] v e = refl
common_front [] y (b ∷ u) v e = absurd (omega arith)
common_front (a ∷ x) y [] v e = absurd (omega arith)
common_front (a ∷ x) y (b ∷ u) v e = ap (λ k. min a b ∷ k) (common_front x y u v (omega arith))

pub common_in_both : (a b c d e f : ℕ) (marks others : List ℕ) → marks_in a b ≡ marks → marks_in c d ≡ others → half e ≡ common_marks (half a) (half c) → half f ≡ common_marks (half b) (half d)
    → marks_in e f ≡ common_marks marks others
common_in_both a b c d e f marks others p q g h =
    (λ i. g i ++ h i) ∙ sym (common_front (half a) (half b) (half c) (half d) (length-half a ∙ sym (length-half c))) ∙ (λ i. common_marks (p i) (q i))

half_bits : (n : ℕ) → AreBits (half n)
unfolding half
half_bits n = word-AreBits 63 n

pub are_marks : (a b : ℕ) (marks : List ℕ) → marks_in a b ≡ marks → AreMarks marks
are_marks a b marks e = subst AreMarks e (record { size = length-marks_in a b; each = append-AreBits (half a) (half b) (half_bits a) (half_bits b) })
