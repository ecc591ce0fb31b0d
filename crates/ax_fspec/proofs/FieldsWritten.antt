-- The least presence field, written octet by octet.
use Rattle.std.proofs.Common.{◌≡◌, ℕ, zero, suc, ◌+◌, ◌-◌, ◌*◌, ◌/◌, ◌%◌, ◌^◌, ◌<◌, ◌≤◌, Bool, true, false, cond, not, List, [], ◌∷◌, ◌++◌, length, take, drop, bit_or, refl, sym, ◌∙◌, ap, arith, append_assoc, length-append, length-take, lit<}
use Rattle.std.proofs.lemmas.List.{drop-drop}
use Rattle.std.proofs.lemmas.Nat.{or_shifted}
use Rattle.ax_bits.specs.Bits.{word}
use Rattle.ax_bits.specs.Out.{room, Appends}
use Rattle.ax_bits.specs.declared.output.Out.{Out}
use Rattle.ax_bits.proofs.Pieces.{word-last}
use Rattle.ax_bits.proofs.Outputs.{appends_none, appends_more}
use Rattle.ax_format.specs.Presence.{none_marked, marks_after, marks_upto, least_presence}
use Rattle.ax_fspec.specs.Fields.{least_field}
use Rattle.ax_fspec.specs.Marks.{seven}
use Rattle.ax_fspec.proofs.Sets.{length-seven}

pub none_left : (n : ℕ) → drop {A = ℕ} n [] ≡ []
none_left zero = refl
none_left (suc n) = refl

pub marks_after_is : (n : ℕ) (ms : List ℕ) → marks_after n ms ≡ drop n ms
marks_after_is zero ms = refl
marks_after_is (suc n) [] = marks_after_is n [] ∙ none_left n
marks_after_is (suc n) (m ∷ ms) = marks_after_is n ms

pub marks_upto_is : (n : ℕ) (ms : List ℕ) → n ≤ length ms → marks_upto n ms ≡ take n ms
marks_upto_is zero ms h = refl
marks_upto_is (suc n) [] h = absurd (omega arith)
marks_upto_is (suc n) (m ∷ ms) h = λ i. m ∷ marks_upto_is n ms (omega arith) i

-- ---- one octet

octet_of : (m fx : ℕ) → fx < 2 → word 8 (m * 2 + fx) ≡ seven m ++ fx ∷ []
unfolding seven
octet_of m fx h =
    let up : (m * 2 + fx) / 2 ≡ m = omega arith in
    let low : (m * 2 + fx) % 2 ≡ fx = omega arith in
    word-last (m * 2 + fx) ∙ (λ i. word 7 (up i) ++ low i ∷ [])

octet_that_ends : (m : ℕ) → m < 128 → word 8 (m * 2 % 256) ≡ seven m ++ 0 ∷ []
octet_that_ends m h =
    let e : m * 2 % 256 ≡ m * 2 + 0 = omega arith in
    ap (word 8) e ∙ octet_of m 0 (lit< tt)

octet_that_goes_on : (m : ℕ) → m < 128 → word 8 (bit_or (m * 2 % 256) 1) ≡ seven m ++ 1 ∷ []
octet_that_goes_on m h =
    let e : m * 2 % 256 ≡ m * 2 ^ 1 = omega arith in
    ap (λ k. word 8 (bit_or k 1)) e ∙ ap (word 8) (or_shifted m 1 1 (lit< tt)) ∙ octet_of m 1 (lit< tt)

-- the least field of at least seven marks, where none stands after them, and where some does
pub least_true : (k : ℕ) (ms : List ℕ) → 7 ≤ length ms → none_marked (drop 7 ms) ≡ true → least_presence (suc k) ms ≡ take 7 ms ++ 0 ∷ []
least_true k ms long none =
    let all : none_marked (marks_after 7 ms) ≡ true = ap none_marked (marks_after_is 7 ms) ∙ none in
    ap (λ b. cond b (marks_upto 7 ms ++ 0 ∷ []) (marks_upto 7 ms ++ 1 ∷ least_presence k (marks_after 7 ms))) all
    ∙ ap (λ k. k ++ 0 ∷ []) (marks_upto_is 7 ms long)

pub least_false : (k : ℕ) (ms : List ℕ) → 7 ≤ length ms → none_marked (drop 7 ms) ≡ false → least_presence (suc k) ms ≡ take 7 ms ++ 1 ∷ least_presence k (drop 7 ms)
least_false k ms long some =
    let none : none_marked (marks_after 7 ms) ≡ false = ap none_marked (marks_after_is 7 ms) ∙ some in
    ap (λ b. cond b (marks_upto 7 ms ++ 0 ∷ []) (marks_upto 7 ms ++ 1 ∷ least_presence k (marks_after 7 ms))) none
    ∙ (λ i. marks_upto_is 7 ms long i ++ 1 ∷ least_presence k (marks_after_is 7 ms i))

long_enough : (ms : List ℕ) (m : ℕ) → seven m ≡ take 7 ms → 7 ≤ length ms
long_enough ms m e = omega (arith, ap length e, length-seven m, length-take 7 ms)

least_goes_on : (k : ℕ) (ms : List ℕ) (m : ℕ) → seven m ≡ take 7 ms → none_marked (drop 7 ms) ≡ false → least_presence (suc k) ms ≡ (seven m ++ 1 ∷ []) ++ least_presence k (drop 7 ms)
least_goes_on k ms m e some =
    least_false k ms (long_enough ms m e) some ∙ ap (λ z. z ++ 1 ∷ least_presence k (drop 7 ms)) (sym e)
    ∙ sym (append_assoc (seven m) (1 ∷ []) (least_presence k (drop 7 ms)))

least_ends : (k : ℕ) (ms : List ℕ) (m : ℕ) → seven m ≡ take 7 ms → none_marked (drop 7 ms) ≡ true → least_presence (suc k) ms ≡ seven m ++ 0 ∷ []
least_ends k ms m e none = least_true k ms (long_enough ms m e) none ∙ ap (λ z. z ++ 0 ∷ []) (sym e)

-- ---- the octets of a field

-- i octets were written, and the least field goes on with that of the marks after them
pub record WrittenSoFar (old now : Out) (marked : List ℕ) (i : ℕ) : Type 0 where
  pub few : i < 18
  pub front : List ℕ
  pub appends : Appends old now front
  pub whole : front ++ least_presence (18 - i) (drop (7 * i) marked) ≡ least_field marked

pub nothing_written : (out : Out) (marked : List ℕ) → WrittenSoFar out out marked 0
unfolding least_field
nothing_written out marked = record {
  few = lit< tt;
  front = [];
  appends = appends_none out;
  whole = refl;
}

negated : (b : Bool) → true ≡ not b → b ≡ false
negated true e = cc
negated false e = refl

unmarked : (b : Bool) → false ≡ not b → b ≡ true
unmarked true e = refl
unmarked false e = cc

following : (marked : List ℕ) (i : ℕ) → drop 7 (drop (7 * i) marked) ≡ drop (7 * i + 7) marked
following marked i = drop-drop 7 (7 * i) marked

goes_on : (marked : List ℕ) (i m : ℕ) → i < 17 → m < 128 → seven m ≡ take 7 (drop (7 * i) marked) → none_marked (drop (7 * i + 7) marked) ≡ false →
    least_presence (18 - i) (drop (7 * i) marked) ≡ word 8 (bit_or (m * 2 % 256) 1) ++ least_presence (18 - (i + 1)) (drop (7 * (i + 1)) marked)
goes_on marked i m h f e some =
    let count : 18 - i ≡ suc (18 - (i + 1)) = omega arith in
    let next : drop 7 (drop (7 * i) marked) ≡ drop (7 * (i + 1)) marked = following marked i ∙ ap (λ k. drop k marked) (omega arith) in
    ap (λ k. least_presence k (drop (7 * i) marked)) count
    ∙ least_goes_on (18 - (i + 1)) (drop (7 * i) marked) m e (ap none_marked (following marked i) ∙ some)
    ∙ (λ k. sym (octet_that_goes_on m f) k ++ least_presence (18 - (i + 1)) (next k))

ends : (marked : List ℕ) (i m : ℕ) → i < 18 → m < 128 → seven m ≡ take 7 (drop (7 * i) marked) → none_marked (drop (7 * i + 7) marked) ≡ true →
    least_presence (18 - i) (drop (7 * i) marked) ≡ word 8 (m * 2 % 256)
ends marked i m h f e none =
    let count : 18 - i ≡ suc (18 - (i + 1)) = omega arith in
    ap (λ k. least_presence k (drop (7 * i) marked)) count
    ∙ least_ends (18 - (i + 1)) (drop (7 * i) marked) m e (ap none_marked (following marked i) ∙ none) ∙ sym (octet_that_ends m f)

pub written_more : (old now new : Out) (marked : List ℕ) (i m : ℕ) → WrittenSoFar old now marked i → i < 17 → m < 128 → seven m ≡ take 7 (drop (7 * i) marked) → true ≡ not (none_marked (drop (7 * i + 7) marked)) →
    Appends now new (word 8 (bit_or (m * 2 % 256) 1)) → WrittenSoFar old new marked (i + 1)
written_more old now new marked i m h lt f e some a =
    let octet = word 8 (bit_or (m * 2 % 256) 1) in
    let later = least_presence (18 - (i + 1)) (drop (7 * (i + 1)) marked) in
    record {
      few = omega arith;
      front = h.front ++ octet;
      appends = appends_more old now new h.front octet (h.front ++ octet) refl h.appends a;
      whole =
          append_assoc h.front octet later
          ∙ ap (λ k. h.front ++ k) (sym (goes_on marked i m lt f e (negated (none_marked (drop (7 * i + 7) marked)) some))) ∙ h.whole;
    }

pub written_all : (old now new : Out) (marked : List ℕ) (i m : ℕ) → WrittenSoFar old now marked i → m < 128 → seven m ≡ take 7 (drop (7 * i) marked) → false ≡ not (none_marked (drop (7 * i + 7) marked)) →
    Appends now new (word 8 (m * 2 % 256)) → Appends old new (least_field marked)
written_all old now new marked i m h f e none a =
    let last = ends marked i m h.few f e (unmarked (none_marked (drop (7 * i + 7) marked)) none) in
    appends_more old now new h.front (word 8 (m * 2 % 256)) (least_field marked) (sym h.whole ∙ ap (λ k. h.front ++ k) last) h.appends a

some_octet : (b : Bool) (ms f : List ℕ) → 8 ≤ length (cond b (marks_upto 7 ms ++ 0 ∷ []) (marks_upto 7 ms ++ 1 ∷ f))
some_octet true ms f = omega arith
some_octet false ms f = omega arith

least_some : (k n : ℕ) (ms : List ℕ) → k ≡ suc n → 8 ≤ length (least_presence k ms)
least_some k n ms e = rw e (some_octet (none_marked (marks_after 7 ms)) ms (least_presence n (marks_after 7 ms)))

pub room_for_one : (old now : Out) (marked : List ℕ) (i : ℕ) → WrittenSoFar old now marked i → length (least_field marked) ≤ room old → 8 ≤ room now
room_for_one old now marked i h fits =
    let rest = least_presence (18 - i) (drop (7 * i) marked) in
    let some : 8 ≤ length rest = least_some (18 - i) (18 - (i + 1)) (drop (7 * i) marked) (omega (arith, h.few)) in
    let all : length h.front + length rest ≡ length (least_field marked) = sym (length-append h.front rest) ∙ ap length h.whole in
    omega (arith, h.appends.room)
