-- Moves from marked slots, by their places in order: the others make no entry.
use Rattle.std.proofs.Common.{◌≡◌, ℕ, zero, suc, ◌+◌, ◌-◌, ◌<◌, ◌≤◌, ◌⊎◌, inl, inr, nat_lt, Bool, true, false, if◌then◌else◌, List, [], ◌∷◌, ◌++◌, length, get_or, set, Option, Some, None, refl, sym, ◌∙◌, ap, arith, subst, append_assoc, append-nil}
use Rattle.std.proofs.lemmas.Bool.{cases_eq, ltb-true}
use Rattle.std.proofs.lemmas.List.{get_or-set_other, get_or-set_same, length-set}
use Rattle.ax_relation.specs.Moves.{MoveTree, move_from, MovesTree, no_moves, move_and}
use Rattle.ax_relation.specs.PlainMoves.{move_tree, moves_tree}
use Rattle.ax_relation.specs.declared.moves.Move.{Move}
use Rattle.ax_fspec.specs.Marks.{IsMarked, no_marks, slots_from, slots_of}
use Rattle.ax_moves.proofs.Entries.{nothing_there, one_entry, one_mark}
use Rattle.ax_moves.proofs.LaidBits.{lays_none, lays_more}
use Rattle.ax_moves.proofs.MovedMarks.{set_with, size_none}
use Rattle.ax_moves.specs.BySlot.{found_canon, found_marks}
use Rattle.ax_moves.specs.KnownMoves.{move_at, FindsEach, with_places, places_marks, places_canon, IsAbsent, AreOthersAbsent}
use Rattle.ax_moves.specs.Laying.{Lays}
use Rattle.ax_moves.specs.Octets.{with_slot, with_slot_where, marks_by, spelled_where, value_canon_by, entries_canon_by, move_canon, move_marks}
use Rattle.ax_format.specs.At.{slot_value}
use Rattle.ax_format.specs.Lengths.{kind_after}
use Rattle.ax_format.specs.Tree.{SlotsTree, EntriesTree}

-- ---- moves of a list

pub at_is : (moves : List Move) (i : ℕ) (one : Move) → i < length moves → one ≡ get_or moves i one → move_at i (moves_tree moves) ≡ Some (move_tree one)
at_is [] i one within is = absurd (omega arith)
at_is (m ∷ moves) zero one within is = ap (λ x. Some (move_tree x)) (sym is)
at_is (m ∷ moves) (suc i) one within is = at_is moves i one (omega arith) is

pub at_past : (moves : List Move) (i : ℕ) → length moves ≤ i → move_at i (moves_tree moves) ≡ None
at_past [] i past = refl
at_past (m ∷ moves) zero past = absurd (omega arith)
at_past (m ∷ moves) (suc i) past = at_past moves i (omega arith)

pub at_within : (moves : List Move) (i : ℕ) (m : MoveTree) → move_at i (moves_tree moves) ≡ Some m → i < length moves
at_within [] i m e = absurd (let no : None ≡ Some m = e in cc)
at_within (x ∷ moves) zero m e = omega arith
at_within (x ∷ moves) (suc i) m e = let lt = at_within moves i m e in omega arith

-- ---- a move that makes no entry

absent_canon : (m : MoveTree) (ss : SlotsTree) (es : EntriesTree) → IsAbsent es (Some m) → move_canon m ss es ≡ []
absent_canon (move_from s t c below) ss es e = ap (λ o. spelled_where (kind_after (s - 1) ss) o (value_canon_by c below)) e ∙ nothing_there (kind_after (s - 1) ss) (value_canon_by c below)

absent_marks : (m : MoveTree) (es : EntriesTree) (set : List ℕ) → IsAbsent es (Some m) → move_marks m es set ≡ set
absent_marks (move_from s t c below) es set e = ap (λ o. with_slot_where o t set) e

pub all_absent_canon : (ms : MovesTree) (ss : SlotsTree) (es : EntriesTree) → ((i : ℕ) → IsAbsent es (move_at i ms)) → entries_canon_by ms ss es ≡ []
all_absent_canon no_moves ss es none = refl
all_absent_canon (move_and m ms) ss es none = one_entry m ms ss es ∙ ap (λ x. x ++ entries_canon_by ms ss es) (absent_canon m ss es (none 0)) ∙ all_absent_canon ms ss es (λ i. none (suc i))

pub all_absent_marks : (ms : MovesTree) (es : EntriesTree) (set : List ℕ) → ((i : ℕ) → IsAbsent es (move_at i ms)) → marks_by ms es set ≡ set
all_absent_marks no_moves es set none = refl
all_absent_marks (move_and m ms) es set none = one_mark m ms es set ∙ ap (marks_by ms es) (absent_marks m es set (none 0)) ∙ all_absent_marks ms es set (λ i. none (suc i))

-- ---- the moves at the places of a set, of which the first mark is that of place a

first_place : (a : ℕ) (all : MovesTree) (o : Option MoveTree) → 1 ≤ a → move_at (a - 1 + 0) all ≡ o → move_at (a - 1) all ≡ o
first_place a all o some e = ap (λ j. move_at j all) (let f : a - 1 ≡ a - 1 + 0 = omega arith in f) ∙ e

next_places : (a : ℕ) (all : MovesTree) (later : ℕ → Option MoveTree) → 1 ≤ a → ((i : ℕ) → move_at (a - 1 + suc i) all ≡ later i) → (i : ℕ) → move_at (a + 1 - 1 + i) all ≡ later i
next_places a all later some same i = ap (λ j. move_at j all) (let f : a + 1 - 1 + i ≡ a - 1 + suc i = omega arith in f) ∙ same i

past_canon : (a : ℕ) (marks : List ℕ) (all : MovesTree) (ss : SlotsTree) (es : EntriesTree) → 1 ≤ a → ((i : ℕ) → move_at (a - 1 + i) all ≡ None) → places_canon (slots_from a marks) all ss es ≡ []
past_canon a [] all ss es some none = refl
past_canon a (zero ∷ marks) all ss es some none = past_canon (a + 1) marks all ss es (omega arith) (next_places a all (λ i. None) some (λ i. none (suc i)))
past_canon a (suc m ∷ marks) all ss es some none =
    ap (λ o. found_canon o ss es ++ places_canon (slots_from (a + 1) marks) all ss es) (first_place a all None some (none 0)) ∙ past_canon (a + 1) marks all ss es (omega arith) (next_places a all (λ i. None) some (λ i. none (suc i)))

past_marks : (a : ℕ) (marks : List ℕ) (all : MovesTree) (es : EntriesTree) (set : List ℕ) → 1 ≤ a → ((i : ℕ) → move_at (a - 1 + i) all ≡ None) → places_marks (slots_from a marks) all es set ≡ set
past_marks a [] all es set some none = refl
past_marks a (zero ∷ marks) all es set some none = past_marks (a + 1) marks all es set (omega arith) (next_places a all (λ i. None) some (λ i. none (suc i)))
past_marks a (suc m ∷ marks) all es set some none =
    ap (λ o. places_marks (slots_from (a + 1) marks) all es (found_marks o es set)) (first_place a all None some (none 0)) ∙ past_marks (a + 1) marks all es set (omega arith) (next_places a all (λ i. None) some (λ i. none (suc i)))

canon_from : (a : ℕ) (marks : List ℕ) (ms all : MovesTree) (ss : SlotsTree) (es : EntriesTree) → 1 ≤ a → ((i : ℕ) → move_at (a - 1 + i) all ≡ move_at i ms) → AreOthersAbsent marks ms es
    → places_canon (slots_from a marks) all ss es ≡ entries_canon_by ms ss es
canon_from a marks no_moves all ss es some same none = past_canon a marks all ss es some same
canon_from a [] (move_and m ms) all ss es some same none = sym (all_absent_canon (move_and m ms) ss es (λ i. none i refl))
canon_from a (zero ∷ marks) (move_and m ms) all ss es some same none =
    canon_from (a + 1) marks ms all ss es (omega arith) (next_places a all (λ i. move_at i ms) some (λ i. same (suc i))) (λ i e. none (suc i) e)
    ∙ sym (one_entry m ms ss es ∙ ap (λ x. x ++ entries_canon_by ms ss es) (absent_canon m ss es (none 0 refl)))
canon_from a (suc n ∷ marks) (move_and m ms) all ss es some same none =
    let rest = canon_from (a + 1) marks ms all ss es (omega arith) (next_places a all (λ i. move_at i ms) some (λ i. same (suc i))) (λ i e. none (suc i) e) in
    let here = first_place a all (Some m) some (same 0) in
    (λ i. found_canon (here i) ss es ++ rest i) ∙ sym (one_entry m ms ss es)

marks_from : (a : ℕ) (marks : List ℕ) (ms all : MovesTree) (es : EntriesTree) (set : List ℕ) → 1 ≤ a → ((i : ℕ) → move_at (a - 1 + i) all ≡ move_at i ms) → AreOthersAbsent marks ms es
    → places_marks (slots_from a marks) all es set ≡ marks_by ms es set
marks_from a marks no_moves all es set some same none = past_marks a marks all es set some same
marks_from a [] (move_and m ms) all es set some same none = sym (all_absent_marks (move_and m ms) es set (λ i. none i refl))
marks_from a (zero ∷ marks) (move_and m ms) all es set some same none =
    marks_from (a + 1) marks ms all es set (omega arith) (next_places a all (λ i. move_at i ms) some (λ i. same (suc i))) (λ i e. none (suc i) e)
    ∙ sym (one_mark m ms es set ∙ ap (marks_by ms es) (absent_marks m es set (none 0 refl)))
marks_from a (suc n ∷ marks) (move_and m ms) all es set some same none =
    let here = first_place a all (Some m) some (same 0) in
    ap (λ o. places_marks (slots_from (a + 1) marks) all es (found_marks o es set)) here
    ∙ marks_from (a + 1) marks ms all es (move_marks m es set) (omega arith) (next_places a all (λ i. move_at i ms) some (λ i. same (suc i))) (λ i e. none (suc i) e)
    ∙ sym (one_mark m ms es set)

pub places_entries : (there : List ℕ) (ms : MovesTree) (ss : SlotsTree) (es : EntriesTree) → AreOthersAbsent there ms es → places_canon (slots_of there) ms ss es ≡ entries_canon_by ms ss es
places_entries there ms ss es none = canon_from 1 there ms ms ss es (omega arith) (λ i. ap (λ j. move_at j ms) (let e : 1 - 1 + i ≡ i = omega arith in e)) none

pub places_slots : (there : List ℕ) (ms : MovesTree) (es : EntriesTree) (set : List ℕ) → AreOthersAbsent there ms es → places_marks (slots_of there) ms es set ≡ marks_by ms es set
places_slots there ms es set none = marks_from 1 there ms ms es set (omega arith) (λ i. ap (λ j. move_at j ms) (let e : 1 - 1 + i ≡ i = omega arith in e)) none

-- ---- the places of the moves from marked slots

within_set : (xs : List ℕ) (i : ℕ) → get_or xs i 0 ≡ 1 → i < length xs
within_set [] i e = absurd (omega (arith, e))
within_set (x ∷ xs) zero e = omega arith
within_set (x ∷ xs) (suc i) e = let lt = within_set xs i e in omega arith

module _ (t : ℕ) (marks : List ℕ) where
  put_size : (b c : Bool) → length (if b then (if c then set marks (t - 1) 1 else marks) else marks) ≡ length marks
  put_size true true = length-set marks (t - 1) 1
  put_size true false = refl
  put_size false c = refl

  put_keeps : (j : ℕ) (b c : Bool) → get_or marks j 0 ≡ 1 → get_or (if b then (if c then set marks (t - 1) 1 else marks) else marks) j 0 ≡ 1
  put_keeps j true true e = by (cases_eq j (t - 1))
    where
      by : (j ≡ t - 1) ⊎ (j ≡ t - 1 → ⊥) → get_or (set marks (t - 1) 1) j 0 ≡ 1
      by (inl f) = ap (λ k. get_or (set marks (t - 1) 1) k 0) f ∙ get_or-set_same marks (t - 1) 1 0 (let lt = within_set marks j e in omega (arith, lt, f))
      by (inr d) = get_or-set_other marks (t - 1) j 1 0 d ∙ e
  put_keeps j true false e = e
  put_keeps j false c e = e

  put_size_of : length (with_slot t marks) ≡ length marks
  put_size_of = put_size (nat_lt 0 t) (nat_lt t 127)

  kept_by : (j : ℕ) → get_or marks j 0 ≡ 1 → get_or (with_slot t marks) j 0 ≡ 1
  kept_by j e = put_keeps j (nat_lt 0 t) (nat_lt t 127) e

put_there : (t i : ℕ) (marks : List ℕ) → t ≡ i + 1 → i < 126 → length marks ≡ 126 → get_or (with_slot t marks) i 0 ≡ 1
put_there t i marks e few size =
    let place : i ≡ t - 1 = omega (arith, e) in
    ap (λ x. get_or x i 0) (set_with t marks (omega (arith, e)) (omega (arith, e, few))) ∙ ap (λ k. get_or (set marks (t - 1) 1) k 0) place ∙ get_or-set_same marks (t - 1) 1 0 (omega (arith, e, few, size))

places_keep : (slots places set : List ℕ) (j : ℕ) → get_or set j 0 ≡ 1 → get_or (with_places slots places set) j 0 ≡ 1
places_keep [] places set j e = e
places_keep (s ∷ slots) places set j e = places_keep slots places (with_slot (get_or places s 0) set) j (kept_by (get_or places s 0) set j e)

-- the place of the move from a marked slot is in the set
marked_there : (a : ℕ) (marks : List ℕ) (j : ℕ) (places set : List ℕ) (i : ℕ) → length set ≡ 126 → get_or marks j 0 ≡ 1 → get_or places (a + j) 0 ≡ i + 1 → i < 126 → get_or (with_places (slots_from a marks) places set) i 0 ≡ 1
marked_there a [] j places set i size one is few = absurd (omega (arith, one))
marked_there a (zero ∷ marks) zero places set i size one is few = absurd (omega (arith, one))
marked_there a (zero ∷ marks) (suc j) places set i size one is few =
    marked_there (a + 1) marks j places set i size one (ap (λ k. get_or places k 0) (let e : a + 1 + j ≡ a + suc j = omega arith in e) ∙ is) few
marked_there a (suc m ∷ marks) zero places set i size one is few =
    let here : get_or places a 0 ≡ i + 1 = ap (λ k. get_or places k 0) (let e : a ≡ a + 0 = omega arith in e) ∙ is in
    places_keep (slots_from (a + 1) marks) places (with_slot (get_or places a 0) set) i (put_there (get_or places a 0) i set here few size)
marked_there a (suc m ∷ marks) (suc j) places set i size one is few =
    marked_there (a + 1) marks j places (with_slot (get_or places a 0) set) i (put_size_of (get_or places a 0) set ∙ size) one (ap (λ k. get_or places k 0) (let e : a + 1 + j ≡ a + suc j = omega arith in e) ∙ is) few

pub others_absent : (marks places : List ℕ) (ms : MovesTree) (es : EntriesTree) → FindsEach ms places → ((s : ℕ) → IsMarked marks s → s < 127) → ((s : ℕ) → (IsMarked marks s → ⊥) → slot_value s es ≡ None)
    → AreOthersAbsent (with_places (slots_of marks) places no_marks) ms es
others_absent marks places ms es f small others i none = by (move_at i ms) refl
  where
    by : (o : Option MoveTree) → move_at i ms ≡ o → IsAbsent es o
    by None e = tt
    by (Some (move_from s t c below)) e = others s there
      where
        there : IsMarked marks s → ⊥
        there m =
            let is : get_or places s 0 ≡ i + 1 = f.at s (small s m) ∙ f.first i s t c below e in
            let at : get_or places (1 + (s - 1)) 0 ≡ i + 1 = ap (λ k. get_or places k 0) (let g : 1 + (s - 1) ≡ s = omega (arith, m.0) in g) ∙ is in
            let one = marked_there 1 marks (s - 1) places no_marks i size_none m.1 at (ltb-true i 126 (f.few i (move_from s t c below) e)) in
            absurd (omega (arith, one, none))

-- ---- one place after the other

pub next_marks : (left later : List ℕ) (p : ℕ) (ms : MovesTree) (es : EntriesTree) (set new all : List ℕ) → left ≡ p ∷ later → found_marks (move_at (p - 1) ms) es set ≡ new → places_marks left ms es set ≡ all → places_marks later ms es new ≡ all
next_marks left later p ms es set new all e is h = ap (places_marks later ms es) (sym is) ∙ sym (ap (λ x. places_marks x ms es set) e) ∙ h

pub there_found : (p : ℕ) (ms : MovesTree) (m : MoveTree) (es : EntriesTree) (set new : List ℕ) → move_at (p - 1) ms ≡ Some m → new ≡ move_marks m es set → found_marks (move_at (p - 1) ms) es set ≡ new
there_found p ms m es set new is e = ap (λ o. found_marks o es set) is ∙ sym e

pub past_found : (p : ℕ) (ms : MovesTree) (es : EntriesTree) (set : List ℕ) → move_at (p - 1) ms ≡ None → found_marks (move_at (p - 1) ms) es set ≡ set
past_found p ms es set none = ap (λ o. found_marks o es set) none

-- the entries of the moves at places that aren't left are laid
pub record LaidPlaces (left all : List ℕ) (ms : MovesTree) (ss : SlotsTree) (es : EntriesTree) (at end : ℕ) (old now : List ℕ) : Type 0 where
  pub front : List ℕ
  pub laid : Lays front at end old now
  pub whole : front ++ places_canon left ms ss es ≡ places_canon all ms ss es

pub places_first : (all : List ℕ) (ms : MovesTree) (ss : SlotsTree) (es : EntriesTree) (at : ℕ) (output : List ℕ) → at < 4294967296 → LaidPlaces all all ms ss es at at output output
places_first all ms ss es at output few = record { front = []; laid = lays_none at output (omega arith); whole = refl }

module _ (left all later : List ℕ) (p : ℕ) (ms : MovesTree) (ss : SlotsTree) (es : EntriesTree) (at end : ℕ) (old now : List ℕ) (h : LaidPlaces left all ms ss es at end old now) (e : left ≡ p ∷ later) where
  pub place_skips : move_at (p - 1) ms ≡ None → LaidPlaces later all ms ss es at end old now
  place_skips none = record {
    front = h.front;
    laid = h.laid;
    whole = ap (λ x. h.front ++ x) (sym (ap (λ x. places_canon x ms ss es) e ∙ ap (λ o. found_canon o ss es ++ places_canon later ms ss es) none)) ∙ h.whole;
  }

  pub place_laid : (m : MoveTree) (n : ℕ) (new : List ℕ) → move_at (p - 1) ms ≡ Some m → Lays (move_canon m ss es) end n now new → LaidPlaces later all ms ss es at n old new
  place_laid m n new is l =
      let b = move_canon m ss es in record {
        front = h.front ++ b;
        laid = lays_more h.front b (h.front ++ b) at end n old now new refl h.laid l;
        whole = append_assoc h.front b (places_canon later ms ss es)
            ∙ ap (λ x. h.front ++ x) (sym (ap (λ x. places_canon x ms ss es) e ∙ ap (λ o. found_canon o ss es ++ places_canon later ms ss es) is)) ∙ h.whole;
      }

pub places_last : (left all : List ℕ) (ms : MovesTree) (ss : SlotsTree) (es : EntriesTree) (at end : ℕ) (old now : List ℕ) → left ≡ [] → LaidPlaces left all ms ss es at end old now → Lays (places_canon all ms ss es) at end old now
places_last left all ms ss es at end old now e h = subst (λ b. Lays b at end old now) (sym (append-nil h.front) ∙ ap (λ x. h.front ++ x) (sym (ap (λ x. places_canon x ms ss es) e)) ∙ h.whole) h.laid
