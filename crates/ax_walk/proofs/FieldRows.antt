-- A presence field whose octets have rows: which slots it marks.
use Rattle.std.proofs.Common.{◌≡◌, ℕ, zero, suc, inl, inr, ◌+◌, ◌-◌, ◌*◌, ◌/◌, ◌%◌, ◌<◌, ◌≤◌, Bool, IsTrue, List, [], ◌∷◌, ◌++◌, length, take, drop, replicate, get_or, refl, sym, ◌∙◌, ap, arith, subst, append_assoc, append-nil, length-append, length-drop}
use Rattle.std.proofs.lemmas.List.{take_at, drop_at, drop-drop, get_or-drop, length-take-le, length-replicate, take_more}
use Rattle.ax_bits.proofs.Pieces.{word-last}
use Rattle.ax_bits.proofs.Words.{word-AreBits}
use Rattle.ax_bits.specs.Bits.{bits, word, AreBits}
use Rattle.ax_fspec.proofs.Sets.{length-seven}
use Rattle.ax_fspec.specs.Fields.{mask_slots, MarksSlots}
use Rattle.ax_fspec.specs.Marks.{seven}
use Rattle.ax_fspec.specs.declared.mask.SlotMask.{SlotMask}
use Rattle.ax_format.proofs.Meets.{NoneUndefined-append}
use Rattle.ax_format.specs.Failing.{IsPresence}
use Rattle.ax_format.specs.Presence.{Presence, octets_needed, none_marked, NoneUndefined, slots_past}
use Rattle.ax_format.specs.Tree.{slots_of, defined_slots}
use Rattle.ax_fspec.specs.Reading.{IsMaskOf}
use Rattle.ax_rows.specs.Rows.{HaveRow}
use Rattle.ax_codec.specs.Meaning.{Meaning, linked_slots}
use Rattle.ax_walk.specs.Rows.{IsField, HaveRows, marks_of, slots_at}

-- ---- the bits of presence octets

octet_bits : (x : ℕ) (later : List ℕ) → word 8 x ++ later ≡ seven (x / 2) ++ (x % 2) ∷ later
unfolding seven
octet_bits x later = ap (λ k. k ++ later) (word-last x) ∙ append_assoc (word 7 (x / 2)) ((x % 2) ∷ []) later

seven_bits : (n : ℕ) → AreBits (seven n)
unfolding seven
seven_bits n = word-AreBits 7 n

-- each octet has FX but the last
abbrev Ends : List ℕ → Type 0
Ends [] = ⊥
Ends (x ∷ []) = x % 2 ≡ 0
Ends (x ∷ y ∷ ys) = (x % 2 ≡ 1) × Ends (y ∷ ys)

presence_of : (k : ℕ) (xs : List ℕ) → length xs ≤ k → Ends xs → Presence k (marks_of xs) (bits xs)
presence_of k [] le h = absurd h
presence_of zero (x ∷ []) le h = absurd (omega arith)
presence_of zero (x ∷ y ∷ ys) le h = absurd (omega arith)
presence_of (suc k) (x ∷ []) le h = (seven (x / 2), length-seven (x / 2), seven_bits (x / 2), inl (append-nil (seven (x / 2)), octet_bits x [] ∙ ap (λ f. seven (x / 2) ++ f ∷ []) h))
presence_of (suc k) (x ∷ y ∷ ys) le h =
    (seven (x / 2), length-seven (x / 2), seven_bits (x / 2), inr (marks_of (y ∷ ys), bits (y ∷ ys), refl, octet_bits x (bits (y ∷ ys)) ∙ ap (λ f. seven (x / 2) ++ f ∷ bits (y ∷ ys)) h.0, presence_of k (y ∷ ys) (omega arith) h.1))

ends_all : (xs : List ℕ) → 0 < length xs → ((j : ℕ) → j + 1 < length xs → get_or xs j 0 % 2 ≡ 1) → get_or xs (length xs - 1) 0 % 2 ≡ 0 → Ends xs
ends_all [] some on last = absurd (omega arith)
ends_all (x ∷ []) some on last = last
ends_all (x ∷ y ∷ ys) some on last =
    (on 0 (omega arith), ends_all (y ∷ ys) (omega arith) (λ j lt. on (suc j) (omega arith)) (let e : suc (suc (length ys)) - 1 ≡ suc (suc (length ys) - 1) = omega arith in subst (λ n. get_or (x ∷ y ∷ ys) n 0 % 2 ≡ 0) e last))

-- ---- the slots that the marks of rows stand for are defined

abbrev defined : List Meaning → List ℕ → List Bool
defined ms links = defined_slots (slots_of (linked_slots ms links))

row_clear : (ms : List Meaning) (octets links marks : List ℕ) → HaveRow octets links marks → NoneUndefined (defined ms links) marks
row_clear ms octets links [] h = tt
row_clear ms octets [] (zero ∷ marks) h = (λ e. absurd (omega (arith, e)), row_clear ms octets [] marks h)
row_clear ms octets [] (suc m ∷ marks) h = absurd h.0
row_clear ms octets (zero ∷ links) (zero ∷ marks) h = (λ e. absurd (omega (arith, e)), row_clear ms octets links marks h)
row_clear ms octets (suc l ∷ links) (zero ∷ marks) h = (λ e. tt, row_clear ms octets links marks h)
row_clear ms octets (zero ∷ links) (suc m ∷ marks) h = absurd (omega (arith, h.0.0))
row_clear ms octets (suc l ∷ links) (suc m ∷ marks) h = (λ e. tt, row_clear ms octets links marks h.1)

past_defined : (ms : List Meaning) (links marks : List ℕ) → slots_past marks (defined ms links) ≡ defined ms (drop (length marks) links)
past_defined ms links [] = refl
past_defined ms [] (m ∷ marks) = past_defined ms [] marks ∙ ap (defined ms) (drop_none (length marks))
  where
    drop_none : (n : ℕ) → drop {A = ℕ} n [] ≡ []
    drop_none zero = refl
    drop_none (suc n) = refl
past_defined ms (zero ∷ links) (m ∷ marks) = past_defined ms links marks
past_defined ms (suc l ∷ links) (m ∷ marks) = past_defined ms links marks

past_seven : (ms : List Meaning) (links : List ℕ) (v : ℕ) → slots_past (seven v) (defined ms links) ≡ defined ms (drop 7 links)
past_seven ms links v = past_defined ms links (seven v) ∙ ap (λ n. defined ms (drop n links)) (length-seven v)

drop_more_slots : (j : ℕ) (links : List ℕ) → drop (7 * j) (drop 7 links) ≡ drop (7 * suc j) links
drop_more_slots j links = drop-drop (7 * j) 7 links ∙ ap (λ n. drop n links) (let e : 7 + 7 * j ≡ 7 * suc j = omega arith in e)

field_clear : (ms : List Meaning) (octets links xs : List ℕ) → ((j : ℕ) → j < length xs → HaveRow octets (slots_at j links) (seven (get_or xs j 0 / 2))) → NoneUndefined (defined ms links) (marks_of xs)
field_clear ms octets links [] h = tt
field_clear ms octets links (x ∷ xs) h =
    NoneUndefined-append (defined ms links) (seven (x / 2)) (marks_of xs) (row_clear ms octets links (seven (x / 2)) (h 0 (omega arith)))
    (subst (λ ds. NoneUndefined ds (marks_of xs)) (sym (past_seven ms links (x / 2)))
    (field_clear ms octets (drop 7 links) xs (λ j lt. subst (λ ls. HaveRow octets ls (seven (get_or xs j 0 / 2))) (sym (drop_more_slots j links)) (h (suc j) (omega arith)))))

-- ---- the octets of a field

length_marks : (xs : List ℕ) → length (marks_of xs) ≡ 7 * length xs
length_marks [] = refl
length_marks (x ∷ xs) = length-append (seven (x / 2)) (marks_of xs) ∙ (let e : length (seven (x / 2)) + length (marks_of xs) ≡ 7 * suc (length xs) = omega (arith, length-seven (x / 2), length_marks xs) in e)

marks_append : (xs ys : List ℕ) → marks_of (xs ++ ys) ≡ marks_of xs ++ marks_of ys
marks_append [] ys = refl
marks_append (x ∷ xs) ys = ap (λ z. seven (x / 2) ++ z) (marks_append xs ys) ∙ sym (append_assoc (seven (x / 2)) (marks_of xs) (marks_of ys))

get_take : (n : ℕ) (xs : List ℕ) (j : ℕ) → j < n → get_or (take n xs) j 0 ≡ get_or xs j 0
get_take zero xs j lt = absurd (omega arith)
get_take (suc n) [] j lt = refl
get_take (suc n) (x ∷ xs) zero lt = refl
get_take (suc n) (x ∷ xs) (suc j) lt = get_take n xs j (omega arith)

window_at : (body : List ℕ) (at count j : ℕ) → j < count → get_or (take count (drop at body)) j 0 ≡ get_or body (at + j) 0
window_at body at count j lt = get_take count (drop at body) j lt ∙ get_or-drop at body j 0

pub window_length : (body : List ℕ) (at count : ℕ) → at + count ≤ length body → length (take count (drop at body)) ≡ count
window_length body at count le = length-take-le count (drop at body) (omega (arith, length-drop at body))

-- a field is one in octets that begin with it, too
pub field_alone : (body : List ℕ) (at end count : ℕ) → IsField body at count → at + count ≤ end → end ≤ length body → IsField (take (end - at) (drop at body)) 0 count
field_alone body at end count f inside le = record {
  some = f.some;
  within = omega (arith, inside, window_length body at (end - at) (omega (arith, inside, le)));
  goes_on = λ j lt. ap (λ k. get_or (take (end - at) (drop at body)) k 0 % 2) (let e : 0 + j ≡ j = omega arith in e) ∙ ap (λ x. x % 2) (window_at body at (end - at) j (omega (arith, inside, lt))) ∙ f.goes_on j lt;
  ends = ap (λ k. get_or (take (end - at) (drop at body)) k 0 % 2) (let e : 0 + (count - 1) ≡ count - 1 = omega arith in e) ∙ ap (λ x. x % 2) (window_at body at (end - at) (count - 1) (omega (arith, inside, f.some))) ∙ f.ends;
}

-- one more octet of a field
pub marks_next : (body : List ℕ) (at i : ℕ) (more : List ℕ) → at + i < length body
    → marks_of (take i (drop at body)) ++ (seven (get_or body (at + i) 0 / 2) ++ more) ≡ marks_of (take (i + 1) (drop at body)) ++ more
marks_next body at i more lt =
    let one : take (i + 1) (drop at body) ≡ take i (drop at body) ++ get_or body (at + i) 0 ∷ [] = take_more (drop at body) i 0 (omega (arith, length-drop at body)) ∙ ap (λ x. take i (drop at body) ++ x ∷ []) (get_or-drop at body i 0) in
    sym (append_assoc (marks_of (take i (drop at body))) (seven (get_or body (at + i) 0 / 2)) more)
    ∙ ap (λ z. z ++ more) (ap (λ z. marks_of (take i (drop at body)) ++ z) (sym (append-nil (seven (get_or body (at + i) 0 / 2)))) ∙ sym (marks_append (take i (drop at body)) (get_or body (at + i) 0 ∷ [])) ∙ ap marks_of (sym one))

-- a field of so many octets, whatever its marks stand for
pub field_presence : (k : ℕ) (body : List ℕ) (at count : ℕ) → IsField body at count → count ≤ k → Presence k (marks_of (take count (drop at body))) (bits (take count (drop at body)))
field_presence k body at count f few =
    let window = take count (drop at body) in
    let long : length window ≡ count = window_length body at count f.within in
    let ends : Ends window = ends_all window (omega (arith, f.some)) (λ j lt. ap (λ x. x % 2) (window_at body at count j (omega arith)) ∙ f.goes_on j (omega arith))
    (subst (λ n. get_or window (n - 1) 0 % 2 ≡ 0) (sym long) (ap (λ x. x % 2) (window_at body at count (count - 1) (omega (arith, f.some))) ∙ f.ends)) in
    presence_of k window (omega (arith, few)) ends

none_in_zeros : (n : ℕ) → IsTrue (none_marked (replicate n 0))
none_in_zeros zero = refl
none_in_zeros (suc n) = none_in_zeros n

-- the marks of a field of so many octets, and of no slot after them
abbrev pub field_marks : List ℕ → ℕ → ℕ → List ℕ
field_marks body at count = marks_of (take count (drop at body)) ++ replicate (126 - 7 * count) 0

pub none_after : (count : ℕ) → IsTrue (none_marked (replicate (126 - 7 * count) 0))
none_after count = none_in_zeros (126 - 7 * count)

pub field_marks_slots : (ms : List Meaning) (octets links : List ℕ) (mask : SlotMask) (body : List ℕ) (at count : ℕ) → IsMaskOf (linked_slots ms links) mask → IsField body at count → count ≤ octets_needed mask.count → mask.count ≤ 126
    → HaveRows octets links body at count → MarksSlots mask body at (at + count) (field_marks body at count)
field_marks_slots ms octets links mask body at count m f few most h =
    let window = take count (drop at body) in
    let zeros : List ℕ = replicate (126 - 7 * count) 0 in
    let long : length window ≡ count = window_length body at count f.within in
    let size : length (marks_of window) ≡ 7 * count = length_marks window ∙ ap (λ n. 7 * n) long in
    let front : take (7 * count) (marks_of window ++ zeros) ≡ marks_of window = take_at (marks_of window) zeros (7 * count) size in
    let clear : NoneUndefined (mask_slots mask) (marks_of window) = subst (λ ds. NoneUndefined ds (marks_of window)) (sym m.defined)
    (field_clear ms octets links window (λ j lt. subst (λ x. HaveRow octets (slots_at j links) (seven (x / 2))) (sym (window_at body at count j (omega arith))) (h.each j (omega arith)))) in
    let same : count ≡ at + count - at = omega arith in
    record {
      begins = omega (arith, f.some);
      within = f.within;
      field = record {
        octets = count;
        field = subst (λ k. IsP (take (7 * count) (marks_of window ++ zeros)) (bits (take k (drop at body)))) same
            (subst (λ b. IsP b (bits window)) (sym front) (record { field = field_presence (octets_needed mask.count) body at count f few; clear = clear }));
        no_other = subst (λ r. IsTrue (none_marked r)) (sym (drop_at (marks_of window) zeros (7 * count) size)) (none_after count);
      };
      size = length-append (marks_of window) zeros ∙ (let e : length (marks_of window) + length zeros ≡ 126 = omega (arith, size, length-replicate {A = ℕ} (126 - 7 * count) 0, few, most) in e);
    }
  where
    IsP : List ℕ → List ℕ → Type 0
    IsP marks b = IsPresence (octets_needed mask.count) (mask_slots mask) marks b
