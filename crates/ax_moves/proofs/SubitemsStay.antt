-- A compound of which each subitem that is there remains has its own canonical octets.
use Rattle.std.proofs.Common.{◌≡◌, ℕ, zero, suc, ◌+◌, ◌-◌, ◌<◌, ◌≤◌, ◌⊎◌, inl, inr, nat_lt, Bool, true, false, IsTrue, if◌then◌else◌, List, [], ◌∷◌, ◌++◌, length, get_or, Option, Some, None, refl, sym, ◌∙◌, ap, arith, subst}
use Rattle.std.proofs.lemmas.Bool.{cases_eq, eq-eqb, le-ltb, ltb-false, ltb-true, ne_eqb}
use Rattle.std.proofs.lemmas.List.{get_or_past}
use Rattle.ax_fspec.specs.Fields.{least_field}
use Rattle.ax_fspec.specs.Marks.{IsMarked, no_marks, slots_of}
use Rattle.ax_relation.specs.Moves.{MoveTree, move_from, MovesTree, no_moves, move_and}
use Rattle.ax_moves.proofs.BareItems.{absent}
use Rattle.ax_moves.proofs.KeptWhole.{KeepsOne, KeepsThere, StaysWhere, leaf_canon, there_stays}
use Rattle.ax_moves.proofs.MovesBySlot.{Absent, absent_slots, canon_from, marks_from, none_canon, none_marks}
use Rattle.ax_moves.proofs.PlacesThere.{all_absent_canon, all_absent_marks}
use Rattle.ax_moves.specs.BySlot.{ascends, found_canon, found_marks, found_move, slots_canon, slots_marks}
use Rattle.ax_moves.specs.KnownMoves.{move_at}
use Rattle.ax_moves.specs.Lost.{NoneShared}
use Rattle.ax_moves.specs.Octets.{canon_by, entries_canon_by, field_by, marks_by}
use Rattle.ax_moves.specs.Subitems.{Remains}
use Rattle.ax_format.specs.At.{slot_value}
use Rattle.ax_format.specs.Canonical.{canon}
use Rattle.ax_format.specs.Lengths.{kind_after}
use Rattle.ax_format.specs.Shape.{EntriesShape}
use Rattle.ax_format.specs.Tree.{KindTree, compound, SlotsTree, no_slots, slot_and, spare_slot, subitem, slot_count, marked, EntriesTree}

-- ---- moves that leave each slot where it is

abbrev pub parts_by : Option MoveTree → ℕ
parts_by None = 0
parts_by (Some (move_from s u c below)) = c

abbrev pub below_by : Option MoveTree → MovesTree
below_by None = no_moves
below_by (Some (move_from s u c below)) = below

-- from slot t to itself, and else as the move from slot t is
abbrev pub own_move : MovesTree → ℕ → MoveTree
own_move ms t = move_from t t (parts_by (found_move t ms)) (below_by (found_move t ms))

-- for each of these slots, of which the first has the number t
abbrev pub own_moves : MovesTree → ℕ → SlotsTree → MovesTree
own_moves ms t no_slots = no_moves
own_moves ms t (slot_and spare_slot ss) = own_moves ms (t + 1) ss
own_moves ms t (slot_and (subitem name k) ss) = move_and (own_move ms t) (own_moves ms (t + 1) ss)

own_ascends : (ms : MovesTree) (a t : ℕ) (ss : SlotsTree) → a ≤ t → IsTrue (ascends a (own_moves ms t ss))
own_ascends ms a t no_slots le = refl
own_ascends ms a t (slot_and spare_slot ss) le = own_ascends ms a (t + 1) ss (omega (arith, le))
own_ascends ms a t (slot_and (subitem name k) ss) le = ap (λ b. if b then false else ascends (t + 1) (own_moves ms (t + 1) ss)) (le-ltb t a le) ∙ own_ascends ms (t + 1) (t + 1) ss (omega arith)

own_found : (ms : MovesTree) (t i : ℕ) (ss : SlotsTree) (k : KindTree) → kind_after i ss ≡ Some k → found_move (t + i) (own_moves ms t ss) ≡ Some (own_move ms (t + i))
own_found ms t i no_slots k e = absurd (let no : None ≡ Some k = e in cc)
own_found ms t zero (slot_and spare_slot ss) k e = absurd (let no : None ≡ Some k = e in cc)
own_found ms t (suc i) (slot_and spare_slot ss) k e = subst (λ n. found_move n (own_moves ms (t + 1) ss) ≡ Some (own_move ms n)) (let g : t + 1 + i ≡ t + suc i = omega arith in g) (own_found ms (t + 1) i ss k e)
own_found ms t zero (slot_and (subitem name l) ss) k e =
    ap (λ b. if b then Some (own_move ms t) else found_move (t + 0) (own_moves ms (t + 1) ss)) (eq-eqb t (t + 0) (let g : t ≡ t + 0 = omega arith in g)) ∙ ap (λ n. Some (own_move ms n)) (let g : t ≡ t + 0 = omega arith in g)
own_found ms t (suc i) (slot_and (subitem name l) ss) k e =
    ap (λ b. if b then Some (own_move ms t) else found_move (t + suc i) (own_moves ms (t + 1) ss)) (ne_eqb t (t + suc i) (λ f. absurd (omega (arith, f))))
    ∙ subst (λ n. found_move n (own_moves ms (t + 1) ss) ≡ Some (own_move ms n)) (let g : t + 1 + i ≡ t + suc i = omega arith in g) (own_found ms (t + 1) i ss k e)

-- ---- which slots are marked

pub is_in : (marks : List ℕ) (s : ℕ) → IsMarked marks s ⊎ (IsMarked marks s → ⊥)
is_in marks zero = inr (λ m. absurd (let some = m.0 in omega (arith, some)))
is_in marks (suc i) = by (cases_eq (get_or marks (suc i - 1) 0) 1)
  where
    by : (get_or marks (suc i - 1) 0 ≡ 1) ⊎ (get_or marks (suc i - 1) 0 ≡ 1 → ⊥) → IsMarked marks (suc i) ⊎ (IsMarked marks (suc i) → ⊥)
    by (inl e) = inl (omega arith, e)
    by (inr d) = inr (λ m. d m.1)

pub is_few : (marks : List ℕ) (s : ℕ) → length marks ≡ 126 → IsMarked marks s → s < 127
is_few marks s size m = by (nat_lt (s - 1) 126) refl
  where
    by : (b : Bool) → nat_lt (s - 1) 126 ≡ b → s < 127
    by true e = let lt = ltb-true (s - 1) 126 e in omega (arith, lt)
    by false e =
        let le = ltb-false (s - 1) 126 e in
        let none : get_or marks (s - 1) 0 ≡ 0 = get_or_past marks (s - 1) 0 (omega (arith, size, le)) in
        let one = m.1 in
        absurd (omega (arith, none, one))

-- a slot that is marked, if there is one
first_in : (marks : List ℕ) → ((i : ℕ) × (get_or marks i 0 ≡ 1)) ⊎ ((i : ℕ) → get_or marks i 0 ≡ 1 → ⊥)
first_in [] = inr (λ i e. absurd (let no : 0 ≡ 1 = e in omega (arith, no)))
first_in (m ∷ marks) = by (cases_eq m 1) (first_in marks)
  where
    by : (m ≡ 1) ⊎ (m ≡ 1 → ⊥) → ((i : ℕ) × (get_or marks i 0 ≡ 1)) ⊎ ((i : ℕ) → get_or marks i 0 ≡ 1 → ⊥) → ((i : ℕ) × (get_or (m ∷ marks) i 0 ≡ 1)) ⊎ ((i : ℕ) → get_or (m ∷ marks) i 0 ≡ 1 → ⊥)
    by (inl e) rest = inl (0, e)
    by (inr d) (inl f) = inl (suc f.0, f.1)
    by (inr d) (inr none) = inr (λ i. at i)
      where
        at : (i : ℕ) → get_or (m ∷ marks) i 0 ≡ 1 → ⊥
        at zero e = d e
        at (suc i) e = none i e

-- ---- one compound

-- the entry of slot s keeps its slot, and its value has its own canonical octets as it moves
pub record RemainsHere (ss : SlotsTree) (ms : MovesTree) (es : EntriesTree) (s : ℕ) : Type 0 where
  pub parts : ℕ
  pub below : MovesTree
  pub kind : KindTree
  pub found : found_move s ms ≡ Some (move_from s s parts below)
  pub is : kind_after (s - 1) ss ≡ Some kind
  pub whole : StaysWhere parts below kind (slot_value s es)

module _ (ss : SlotsTree) (ms : MovesTree) (es : EntriesTree) (marks : List ℕ) (others : (s : ℕ) → (IsMarked marks s → ⊥) → slot_value s es ≡ None)
    (there : (s : ℕ) → IsMarked marks s → IsTrue (ascends 1 ms) × RemainsHere ss ms es s) where
  abbrev own : MovesTree
  own = own_moves ms 1 ss

  own_same : (s : ℕ) → IsMarked marks s → found_move s ms ≡ found_move s own
  own_same s m =
      let r = (there s m).1 in
      let some = m.0 in
      let n : 1 + (s - 1) ≡ s = omega (arith, some) in
      let found : found_move s own ≡ Some (own_move ms s) = subst (λ k. found_move k own ≡ Some (own_move ms k)) n (own_found ms 1 (s - 1) ss r.kind r.is) in
      r.found ∙ sym (found ∙ ap (λ o. Some (move_from s s (parts_by o) (below_by o))) r.found)

  same_canon : (s : ℕ) → found_canon (found_move s ms) ss es ≡ found_canon (found_move s own) ss es
  same_canon s = by (is_in marks s)
    where
      by : IsMarked marks s ⊎ (IsMarked marks s → ⊥) → found_canon (found_move s ms) ss es ≡ found_canon (found_move s own) ss es
      by (inl m) = ap (λ o. found_canon o ss es) (own_same s m)
      by (inr d) = none_canon s ms ss es (others s d) ∙ sym (none_canon s own ss es (others s d))

  same_marks : (s : ℕ) (set : List ℕ) → found_marks (found_move s ms) es set ≡ found_marks (found_move s own) es set
  same_marks s set = by (is_in marks s)
    where
      by : IsMarked marks s ⊎ (IsMarked marks s → ⊥) → found_marks (found_move s ms) es set ≡ found_marks (found_move s own) es set
      by (inl m) = ap (λ o. found_marks o es set) (own_same s m)
      by (inr d) = none_marks s ms es set (others s d) ∙ sym (none_marks s own es set (others s d))

  all_canon : (slots : List ℕ) → slots_canon slots ms ss es ≡ slots_canon slots own ss es
  all_canon [] = refl
  all_canon (s ∷ slots) = let rest = all_canon slots in λ i. same_canon s i ++ rest i

  all_marks : (slots set : List ℕ) → slots_marks slots ms es set ≡ slots_marks slots own es set
  all_marks [] set = refl
  all_marks (s ∷ slots) set = ap (slots_marks slots ms es) (same_marks s set) ∙ all_marks slots (found_marks (found_move s own) es set)

  keeps_from : (t : ℕ) (rest : SlotsTree) → 1 ≤ t → ((i : ℕ) → kind_after (t - 1 + i) ss ≡ kind_after i rest) → KeepsThere t rest (own_moves ms t rest) es
  keeps_from t no_slots some kinds = tt
  keeps_from t (slot_and spare_slot rest) some kinds = keeps_from (t + 1) rest (omega arith) (λ i. ap (λ k. kind_after k ss) (let e : t + 1 - 1 + i ≡ t - 1 + suc i = omega (arith, some) in e) ∙ kinds (suc i))
  keeps_from t (slot_and (subitem name k) rest) some kinds =
      (by (is_in marks t), keeps_from (t + 1) rest (omega arith) (λ i. ap (λ k. kind_after k ss) (let e : t + 1 - 1 + i ≡ t - 1 + suc i = omega (arith, some) in e) ∙ kinds (suc i)))
    where
      kind : kind_after (t - 1) ss ≡ Some k
      kind = ap (λ n. kind_after n ss) (let e : t - 1 ≡ t - 1 + 0 = omega arith in e) ∙ kinds 0

      by : IsMarked marks t ⊎ (IsMarked marks t → ⊥) → KeepsOne t k (own_move ms t) es
      by (inl m) =
          let r = (there t m).1 in
          let same : Some r.kind ≡ Some k = sym r.is ∙ kind in
          let own_kind : r.kind ≡ k = cc in
          let whole : StaysWhere r.parts r.below k (slot_value t es) = subst (λ x. StaysWhere r.parts r.below x (slot_value t es)) own_kind r.whole in
          (refl, refl, subst (λ o. StaysWhere (parts_by o) (below_by o) k (slot_value t es)) (sym r.found) whole)
      by (inr d) = (refl, refl, λ v e shape. absurd (let no : None ≡ Some v = sym (others t d) ∙ e in cc))

  -- in order
  ordered : IsTrue (ascends 1 ms) → canon_by ms (compound ss) (marked es) ≡ canon_by own (compound ss) (marked es)
  ordered h =
      let none : Absent 1 marks es = absent_slots marks es others in
      let up : IsTrue (ascends 1 own) = own_ascends ms 1 1 ss (omega arith) in
      let set : marks_by ms es no_marks ≡ marks_by own es no_marks = marks_from 1 marks ms ms ss es no_marks h (λ u le. refl) none ∙ all_marks (slots_of marks) no_marks ∙ sym (marks_from 1 marks own own ss es no_marks up (λ u le. refl) none) in
      let field : field_by ms es ≡ field_by own es = ap least_field set in
      let rest : entries_canon_by ms ss es ≡ entries_canon_by own ss es = canon_from 1 marks ms ms ss es h (λ u le. refl) none ∙ all_canon (slots_of marks) ∙ sym (canon_from 1 marks own own ss es up (λ u le. refl) none) in
      λ i. field i ++ rest i

  -- where no subitem is there
  nothing : ((s : ℕ) → slot_value s es ≡ None) → canon_by ms (compound ss) (marked es) ≡ canon_by own (compound ss) (marked es)
  nothing none =
      let set : marks_by ms es no_marks ≡ marks_by own es no_marks = all_absent_marks ms es no_marks (λ i. absent es none (move_at i ms)) ∙ sym (all_absent_marks own es no_marks (λ i. absent es none (move_at i own))) in
      let field : field_by ms es ≡ field_by own es = ap least_field set in
      let rest : entries_canon_by ms ss es ≡ entries_canon_by own ss es = all_absent_canon ms ss es (λ i. absent es none (move_at i ms)) ∙ sym (all_absent_canon own ss es (λ i. absent es none (move_at i own))) in
      λ i. field i ++ rest i

  as_own : ((i : ℕ) × (get_or marks i 0 ≡ 1)) ⊎ ((i : ℕ) → get_or marks i 0 ≡ 1 → ⊥) → canon_by ms (compound ss) (marked es) ≡ canon_by own (compound ss) (marked es)
  as_own (inl f) = ordered (there (1 + f.0) (omega arith, ap (λ n. get_or marks n 0) (let e : 1 + f.0 - 1 ≡ f.0 = omega arith in e) ∙ f.1)).0
  as_own (inr none) = nothing (λ s. others s (λ m. none (s - 1) m.1))

  pub those_stay : EntriesShape 1 ss es → 1 ≤ slot_count ss → slot_count ss ≤ 126 → canon_by ms (compound ss) (marked es) ≡ canon (compound ss) (marked es)
  those_stay shape some few =
      as_own (first_in marks) ∙ there_stays ss own es (keeps_from 1 ss (omega arith) (λ i. ap (λ k. kind_after k ss) (let e : 1 - 1 + i ≡ i = omega arith in e))) shape some few

-- where none is in a set, and the others remain
pub remaining_stay : (ss : SlotsTree) (ms : MovesTree) (es : EntriesTree) (marks leaving : List ℕ) → length marks ≡ 126 → ((s : ℕ) → (IsMarked marks s → ⊥) → slot_value s es ≡ None) → NoneShared marks leaving
    → ((s : ℕ) → 1 ≤ s → s < 127 → (IsMarked leaving s → ⊥) → IsTrue (ascends 1 ms) × Remains ss ms s) → EntriesShape 1 ss es → 1 ≤ slot_count ss → slot_count ss ≤ 126 → canon_by ms (compound ss) (marked es) ≡ canon (compound ss) (marked es)
remaining_stay ss ms es marks leaving size others apart remain = those_stay ss ms es marks others there
  where
    there : (s : ℕ) → IsMarked marks s → IsTrue (ascends 1 ms) × RemainsHere ss ms es s
    there s m =
        let some = m.0 in
        let r = remain s (omega (arith, some)) (is_few marks s size m) (λ l. apart s m l) in
        let one = r.1 in
        (r.0, record { parts = one.parts; below = one.below; kind = one.kind; found = one.found; is = one.is; whole = λ v e. leaf_canon one.parts one.below one.kind v one.leaf })
