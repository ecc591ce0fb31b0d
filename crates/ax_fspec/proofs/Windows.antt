-- Whether the slots of one presence octet are defined: in a mask's list, and in the mask's seven marks for that octet.
use Rattle.std.proofs.Common.{◌≡◌, ℕ, zero, suc, Bool, true, false, IsTrue, List, [], ◌∷◌, length, take, drop, refl, sym, ◌∙◌, ap, arith}
use Rattle.ax_format.specs.Presence.{none_marked, IsDefined, later_slots, slots_past, NoneUndefined, FirstUndefined}
use Rattle.ax_fspec.specs.Marks.{are_marked}

-- the first n of the slots, where past the last no slot is defined
abbrev flag : List Bool → Bool
flag [] = false
flag (d ∷ ds) = d

abbrev flags : ℕ → List Bool → List Bool
flags zero ds = []
flags (suc n) ds = flag ds ∷ flags n (later_slots ds)

-- ---- only the first slots count

flag_of_defined : (ds : List Bool) → IsDefined ds → flag ds ≡ true
flag_of_defined [] h = absurd h
flag_of_defined (true ∷ ds) h = refl
flag_of_defined (false ∷ ds) h = absurd h

defined_of_flag : (ds : List Bool) → flag ds ≡ true → IsDefined ds
defined_of_flag [] e = cc
defined_of_flag (true ∷ ds) e = tt
defined_of_flag (false ∷ ds) e = cc

defined_same : (ds es : List Bool) → flag ds ≡ flag es → IsDefined ds → IsDefined es
defined_same ds es e h = defined_of_flag es (sym e ∙ flag_of_defined ds h)

clear_same : (n : ℕ) (ds es : List Bool) (ms : List ℕ) → length ms ≡ n → flags n ds ≡ flags n es → NoneUndefined ds ms → NoneUndefined es ms
clear_same n ds es [] l e h = tt
clear_same zero ds es (m ∷ ms) l e h = absurd (omega arith)
clear_same (suc n) ds es (m ∷ ms) l e h = (λ z. defined_same ds es (cc) (h.0 z), clear_same n (later_slots ds) (later_slots es) ms (omega arith) (cc) h.1)

first_same : (n : ℕ) (ds es : List Bool) (ms : List ℕ) (j : ℕ) → length ms ≡ n → flags n ds ≡ flags n es → FirstUndefined ds ms j → FirstUndefined es ms j
first_same n ds es [] j l e h = h
first_same zero ds es (m ∷ ms) j l e h = absurd (omega arith)
first_same (suc n) ds es (m ∷ ms) zero l e h = (h.0, λ d. h.1 (defined_same es ds (cc) d))
first_same (suc n) ds es (m ∷ ms) (suc j) l e h = (λ z. defined_same ds es (cc) (h.0 z), first_same n (later_slots ds) (later_slots es) ms j (omega arith) (cc) h.1)

-- ---- the slots of one octet

later_none : (m : ℕ) → drop {A = Bool} m [] ≡ []
later_none zero = refl
later_none (suc m) = refl

pub slots_past_is : (ms : List ℕ) (m : ℕ) (ds : List Bool) → length ms ≡ m → slots_past ms ds ≡ drop m ds
slots_past_is [] zero ds e = refl
slots_past_is [] (suc m) ds e = absurd (omega arith)
slots_past_is (x ∷ ms) zero ds e = absurd (omega arith)
slots_past_is (x ∷ ms) (suc m) [] e = slots_past_is ms m [] (omega arith) ∙ later_none m
slots_past_is (x ∷ ms) (suc m) (d ∷ ds) e = slots_past_is ms m ds (omega arith)

no_flags : (n m : ℕ) (marks : List ℕ) → IsTrue (none_marked marks) → flags n (drop m (are_marked marks)) ≡ flags n []
no_flags n m [] h = ap (flags n) (later_none m)
no_flags zero m (x ∷ marks) h = refl
no_flags (suc n) zero (zero ∷ marks) h = λ i. false ∷ no_flags n zero marks h i
no_flags n (suc m) (zero ∷ marks) h = no_flags n m marks h
no_flags n m (suc x ∷ marks) h = cc

flags_taken : (n m c : ℕ) (marks : List ℕ) → IsTrue (none_marked (drop c marks)) → flags n (drop m (are_marked (take c marks))) ≡ flags n (drop m (are_marked marks))
flags_taken n m zero marks h = ap (flags n) (later_none m) ∙ sym (no_flags n m marks h)
flags_taken n m (suc c) [] h = refl
flags_taken zero m (suc c) (x ∷ marks) h = refl
flags_taken (suc n) zero (suc c) (zero ∷ marks) h = λ i. false ∷ flags_taken n zero c marks h i
flags_taken (suc n) zero (suc c) (suc x ∷ marks) h = λ i. true ∷ flags_taken n zero c marks h i
flags_taken n (suc m) (suc c) (zero ∷ marks) h = flags_taken n m c marks h
flags_taken n (suc m) (suc c) (suc x ∷ marks) h = flags_taken n m c marks h

flags_dropped : (m : ℕ) (marks : List ℕ) → drop m (are_marked marks) ≡ are_marked (drop m marks)
flags_dropped zero marks = refl
flags_dropped (suc m) [] = refl
flags_dropped (suc m) (zero ∷ marks) = flags_dropped m marks
flags_dropped (suc m) (suc x ∷ marks) = flags_dropped m marks

flags_front : (n : ℕ) (marks : List ℕ) → flags n (are_marked marks) ≡ flags n (are_marked (take n marks))
flags_front zero marks = refl
flags_front (suc n) [] = refl
flags_front (suc n) (zero ∷ marks) = λ i. false ∷ flags_front n marks i
flags_front (suc n) (suc x ∷ marks) = λ i. true ∷ flags_front n marks i

window : (n m c : ℕ) (marks : List ℕ) → IsTrue (none_marked (drop c marks)) → flags n (drop m (are_marked (take c marks))) ≡ flags n (are_marked (take n (drop m marks)))
window n m c marks h = flags_taken n m c marks h ∙ ap (flags n) (flags_dropped m marks) ∙ flags_front n (drop m marks)

-- `front` are the marks before those of an octet, `seven` the octet's own, `own` the mask's
pub clear_in_mask : (c m : ℕ) (defined front marks own : List ℕ) → IsTrue (none_marked (drop c defined)) → length front ≡ m → length marks ≡ 7 → own ≡ take 7 (drop m defined) →
    NoneUndefined (are_marked own) marks → NoneUndefined (slots_past front (are_marked (take c defined))) marks
clear_in_mask c m defined front marks own none l k e h =
    let ds = are_marked (take c defined) in
    let same : flags 7 (are_marked own) ≡ flags 7 (slots_past front ds)
    = ap (λ x. flags 7 (are_marked x)) e ∙ sym (window 7 m c defined none) ∙ ap (flags 7) (sym (slots_past_is front m ds l)) in
    clear_same 7 (are_marked own) (slots_past front ds) marks k same h

pub first_in_mask : (c m : ℕ) (defined front marks own : List ℕ) (j : ℕ) → IsTrue (none_marked (drop c defined)) → length front ≡ m → length marks ≡ 7 → own ≡ take 7 (drop m defined) →
    FirstUndefined (are_marked own) marks j → FirstUndefined (slots_past front (are_marked (take c defined))) marks j
first_in_mask c m defined front marks own j none l k e h =
    let ds = are_marked (take c defined) in
    let same : flags 7 (are_marked own) ≡ flags 7 (slots_past front ds)
    = ap (λ x. flags 7 (are_marked x)) e ∙ sym (window 7 m c defined none) ∙ ap (flags 7) (sym (slots_past_is front m ds l)) in
    first_same 7 (are_marked own) (slots_past front ds) marks j k same h
