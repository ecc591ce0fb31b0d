-- Moves in the order of their old slots, and the entries of a record in the order of its slots.
use Rattle.std.proofs.Common.{◌≡◌, ℕ, zero, suc, ◌+◌, ◌-◌, ◌<◌, ◌≤◌, ◌==◌, ◌⊎◌, inl, inr, nat_lt, Bool, true, false, IsTrue, if◌then◌else◌, List, [], ◌∷◌, ◌++◌, length, map, get_or, Some, None, refl, sym, ◌∙◌, ap, arith, subst}
use Rattle.std.proofs.lemmas.Bool.{ltb-false, le-ltb, eqb-true, eq-eqb, ne_eqb, cases_eq}
use Rattle.ax_relation.specs.Moves.{MoveTree, move_from, MovesTree, no_moves, move_and, moves_from}
use Rattle.ax_relation.specs.PlainMoves.{move_tree, moves_tree}
use Rattle.ax_relation.specs.declared.moves.Move.{Move, out-Move}
use Rattle.ax_fspec.specs.Marks.{IsMarked, slots_from}
use Rattle.ax_moves.proofs.Entries.{nothing_there, move_is}
use Rattle.ax_moves.specs.BySlot.{found_move, place_from, ascends, ArePlaces, IsFrom, found_canon, found_marks, slots_canon, slots_marks}
use Rattle.ax_moves.specs.Octets.{with_slot_where, marks_by, spelled_where, value_canon_by, entries_canon_by, move_canon}
use Rattle.ax_format.specs.At.{slot_value}
use Rattle.ax_format.specs.Lengths.{kind_after}
use Rattle.ax_format.specs.Tree.{KindTree, SlotsTree, ValueTree, EntriesTree}

-- ---- places

-- a place that isn't 0 is not before the first
not_before : (n s : ℕ) (ms : List MoveTree) → 1 ≤ n → (0 < place_from n s (moves_from ms)) × (place_from n s (moves_from ms) < n) → ⊥
not_before n s [] some h = omega (arith, h.0)
not_before n s (move_from u t c below ∷ ms) some h = by (u == s) (λ g. not_before (n + 1) s ms (omega arith) g) h
  where
    by : (b : Bool) → ((0 < place_from (n + 1) s (moves_from ms)) × (place_from (n + 1) s (moves_from ms) < n + 1) → ⊥) → (0 < (if b then n else place_from (n + 1) s (moves_from ms))) × ((if b then n else place_from (n + 1) s (moves_from ms)) < n) → ⊥
    by true rest g = omega (arith, g.1)
    by false rest g = rest (g.0, omega (arith, g.1))

-- it is that of the move that is found
pub place_found : (n s : ℕ) (ms : List MoveTree) (k : ℕ) → 1 ≤ n → place_from n s (moves_from ms) ≡ n + k → (k < length ms) × ((m : MoveTree) → m ≡ get_or ms k m → found_move s (moves_from ms) ≡ Some m)
place_found n s [] k some e = absurd (omega arith)
place_found n s (move_from u t c below ∷ ms) k some e = by (u == s) (λ j f. place_found (n + 1) s ms j (omega arith) f) e
  where
    here : MoveTree
    here = move_from u t c below

    Later : Type 0
    Later = (j : ℕ) → place_from (n + 1) s (moves_from ms) ≡ n + 1 + j → (j < length ms) × ((m : MoveTree) → m ≡ get_or ms j m → found_move s (moves_from ms) ≡ Some m)

    later : Later → (k : ℕ) → place_from (n + 1) s (moves_from ms) ≡ n + k → (k < suc (length ms)) × ((m : MoveTree) → m ≡ get_or (here ∷ ms) k m → found_move s (moves_from ms) ≡ Some m)
    later rest zero f = absurd (not_before (n + 1) s ms (omega arith) (omega (arith, f), omega (arith, f)))
    later rest (suc j) f = let h = rest j (omega (arith, f)) in (omega (arith, h.0), h.1)

    by : (b : Bool) → Later → (if b then n else place_from (n + 1) s (moves_from ms)) ≡ n + k → (k < suc (length ms)) × ((m : MoveTree) → m ≡ get_or (here ∷ ms) k m → (if b then Some here else found_move s (moves_from ms)) ≡ Some m)
    by true rest f =
        let none : k ≡ 0 = omega (arith, f) in
        (omega (arith, none), λ m is. ap (λ x. Some x) (sym (is ∙ ap (λ j. get_or (here ∷ ms) j m) none)))
    by false rest f = later rest k f

pub place_none : (n s : ℕ) (ms : List MoveTree) → 1 ≤ n → place_from n s (moves_from ms) ≡ 0 → found_move s (moves_from ms) ≡ None
place_none n s [] some e = refl
place_none n s (move_from u t c below ∷ ms) some e = by (u == s) (λ f. place_none (n + 1) s ms (omega arith) f) e
  where
    by : (b : Bool) → (place_from (n + 1) s (moves_from ms) ≡ 0 → found_move s (moves_from ms) ≡ None) → (if b then n else place_from (n + 1) s (moves_from ms)) ≡ 0 → (if b then Some (move_from u t c below) else found_move s (moves_from ms)) ≡ None
    by true rest f = absurd (omega (arith, f))
    by false rest f = rest f

pub tree_at : (moves : List Move) (k : ℕ) (one : Move) → k < length moves → one ≡ get_or moves k one → move_tree one ≡ get_or (map move_tree moves) k (move_tree one)
tree_at [] k one within is = absurd (omega arith)
tree_at (m ∷ moves) zero one within is = ap move_tree is
tree_at (m ∷ moves) (suc k) one within is = tree_at moves k one (omega arith) is

trees : (moves : List Move) → length (map move_tree moves) ≡ length moves
trees [] = refl
trees (m ∷ moves) = ap suc (trees moves)

module _ (moves : List Move) (places : List ℕ) (slot place : ℕ) (known : ArePlaces moves 127 places) (few : slot < 127) (is : place ≡ get_or places slot 0) where
  pub no_move : place ≡ 0 → found_move slot (moves_tree moves) ≡ None
  no_move e = place_none 1 slot (map move_tree moves) (omega arith) (sym (known.at slot few) ∙ sym is ∙ e)

  there : 0 < place → place_from 1 slot (moves_tree moves) ≡ 1 + (place - 1)
  there some = sym (known.at slot few) ∙ sym is ∙ (let e : place ≡ 1 + (place - 1) = omega arith in e)

  pub move_within : 0 < place → place - 1 < length moves
  move_within some = omega (arith, (place_found 1 slot (map move_tree moves) (place - 1) (omega arith) (there some)).0, trees moves)

  pub move_there : 0 < place → (one : Move) → one ≡ get_or moves (place - 1) one → found_move slot (moves_tree moves) ≡ Some (move_tree one)
  move_there some one at = (place_found 1 slot (map move_tree moves) (place - 1) (omega arith) (there some)).1 (move_tree one) (tree_at moves (place - 1) one (move_within some) at)

-- ---- one slot after the other

first_ascends : (a s : ℕ) (x b : Bool) → nat_lt s a ≡ b → IsTrue (if b then false else x) → (a ≤ s) × IsTrue x
first_ascends a s x true e h = absurd (let no : false ≡ true = h in cc)
first_ascends a s x false e h = (ltb-false s a e, h)

not_found : (a b : ℕ) (ms : MovesTree) → IsTrue (ascends b ms) → a < b → found_move a ms ≡ None
not_found a b no_moves h lt = refl
not_found a b (move_and (move_from s t c below) ms) h lt =
    let f = first_ascends b s (ascends (s + 1) ms) (nat_lt s b) refl h in
    ap (λ x. if x then Some (move_from s t c below) else found_move a ms) (ne_eqb s a (λ e. absurd (omega (arith, f.0, e)))) ∙ not_found a (s + 1) ms f.1 (omega (arith, f.0))

-- of the moves from slot a on: the move from slot a, and those after it
record Step (a : ℕ) (ms : MovesTree) (ss : SlotsTree) (es : EntriesTree) : Type 0 where
  later : MovesTree
  ascending : IsTrue (ascends (a + 1) later)
  found : (u : ℕ) → a < u → found_move u ms ≡ found_move u later
  canon : entries_canon_by ms ss es ≡ found_canon (found_move a ms) ss es ++ entries_canon_by later ss es
  marks : (set : List ℕ) → marks_by ms es set ≡ marks_by later es (found_marks (found_move a ms) es set)

-- where there is no entry, nothing is made of it
pub none_canon : (a : ℕ) (ms : MovesTree) (ss : SlotsTree) (es : EntriesTree) → slot_value a es ≡ None → found_canon (found_move a ms) ss es ≡ []
none_canon a no_moves ss es e = refl
none_canon a (move_and (move_from s t c below) ms) ss es e = by (s == a) (λ h. eqb-true s a h) (none_canon a ms ss es e)
  where
    by : (b : Bool) → (b ≡ true → s ≡ a) → found_canon (found_move a ms) ss es ≡ [] → found_canon (if b then Some (move_from s t c below) else found_move a ms) ss es ≡ []
    by true h rest = ap (λ o. spelled_where (kind_after (s - 1) ss) o (value_canon_by c below)) (ap (λ u. slot_value u es) (h refl) ∙ e) ∙ nothing_there (kind_after (s - 1) ss) (value_canon_by c below)
    by false h rest = rest

pub none_marks : (a : ℕ) (ms : MovesTree) (es : EntriesTree) (set : List ℕ) → slot_value a es ≡ None → found_marks (found_move a ms) es set ≡ set
none_marks a no_moves es set e = refl
none_marks a (move_and (move_from s t c below) ms) es set e = by (s == a) (λ h. eqb-true s a h) (none_marks a ms es set e)
  where
    by : (b : Bool) → (b ≡ true → s ≡ a) → found_marks (found_move a ms) es set ≡ set → found_marks (if b then Some (move_from s t c below) else found_move a ms) es set ≡ set
    by true h rest = ap (λ o. with_slot_where o t set) (ap (λ u. slot_value u es) (h refl) ∙ e)
    by false h rest = rest

step : (a : ℕ) (ms : MovesTree) (ss : SlotsTree) (es : EntriesTree) → IsTrue (ascends a ms) → Step a ms ss es
step a no_moves ss es h = record { later = no_moves; ascending = refl; found = λ u lt. refl; canon = refl; marks = λ set. refl }
step a (move_and (move_from s t c below) ms) ss es h = by (cases_eq s a)
  where
    one : MoveTree
    one = move_from s t c below

    f : (a ≤ s) × IsTrue (ascends (s + 1) ms)
    f = first_ascends a s (ascends (s + 1) ms) (nat_lt s a) refl h

    by : (s ≡ a) ⊎ (s ≡ a → ⊥) → Step a (move_and (move_from s t c below) ms) ss es
    by (inl e) =
        let is : found_move a (move_and one ms) ≡ Some one = ap (λ b. if b then Some one else found_move a ms) (eq-eqb s a e) in record {
          later = ms;
          ascending = subst (λ n. IsTrue (ascends (n + 1) ms)) e f.1;
          found = λ u lt. ap (λ b. if b then Some one else found_move u ms) (ne_eqb s u (λ g. absurd (omega (arith, e, g, lt))));
          canon = ap (λ o. found_canon o ss es ++ entries_canon_by ms ss es) (sym is);
          marks = λ set. ap (λ o. marks_by ms es (found_marks o es set)) (sym is);
        }
    by (inr d) =
        let le : a + 1 ≤ s = apart d f.0 in
        let is : found_move a (move_and one ms) ≡ None = ap (λ b. if b then Some one else found_move a ms) (ne_eqb s a d) ∙ not_found a (s + 1) ms f.1 (omega (arith, f.0)) in record {
          later = move_and one ms;
          ascending = ap (λ b. if b then false else ascends (s + 1) ms) (le-ltb s (a + 1) le) ∙ f.1;
          found = λ u lt. refl;
          canon = ap (λ o. found_canon o ss es ++ entries_canon_by (move_and one ms) ss es) (sym is);
          marks = λ set. ap (λ o. marks_by (move_and one ms) es (found_marks o es set)) (sym is);
        }
      where
        apart : (s ≡ a → ⊥) → a ≤ s → a + 1 ≤ s
        apart d le = least (cases_eq s a)
          where
            least : (s ≡ a) ⊎ (s ≡ a → ⊥) → a + 1 ≤ s
            least (inl e) = absurd (d e)
            least (inr g) = omega (arith, le, g)

-- past the last slot nothing moves
past_canon : (a : ℕ) (ms : MovesTree) (ss : SlotsTree) (es : EntriesTree) → IsTrue (ascends a ms) → ((u : ℕ) → a ≤ u → slot_value u es ≡ None) → entries_canon_by ms ss es ≡ []
past_canon a no_moves ss es h none = refl
past_canon a (move_and (move_from s t c below) ms) ss es h none =
    let f = first_ascends a s (ascends (s + 1) ms) (nat_lt s a) refl h in
    ap (λ o. spelled_where (kind_after (s - 1) ss) o (value_canon_by c below) ++ entries_canon_by ms ss es) (none s f.0) ∙ ap (λ x. x ++ entries_canon_by ms ss es) (nothing_there (kind_after (s - 1) ss) (value_canon_by c below))
    ∙ past_canon (s + 1) ms ss es f.1 (λ u le. none u (omega (arith, f.0)))

past_marks : (a : ℕ) (ms : MovesTree) (es : EntriesTree) (set : List ℕ) → IsTrue (ascends a ms) → ((u : ℕ) → a ≤ u → slot_value u es ≡ None) → marks_by ms es set ≡ set
past_marks a no_moves es set h none = refl
past_marks a (move_and (move_from s t c below) ms) es set h none =
    let f = first_ascends a s (ascends (s + 1) ms) (nat_lt s a) refl h in
    ap (λ o. marks_by ms es (with_slot_where o t set)) (none s f.0) ∙ past_marks (s + 1) ms es set f.1 (λ u le. none u (omega (arith, f.0)))

-- slots that aren't marked have no entry, where the first mark is that of slot a
abbrev pub Absent : ℕ → List ℕ → EntriesTree → Type 0
Absent a marks es = (i : ℕ) → get_or marks i 0 ≡ 0 → slot_value (a + i) es ≡ None

absent_past : (a : ℕ) (es : EntriesTree) → Absent a [] es → (u : ℕ) → a ≤ u → slot_value u es ≡ None
absent_past a es none u le = ap (λ n. slot_value n es) (let e : u ≡ a + (u - a) = omega arith in e) ∙ none (u - a) refl

absent_first : (a : ℕ) (marks : List ℕ) (es : EntriesTree) → Absent a (zero ∷ marks) es → slot_value a es ≡ None
absent_first a marks es none = ap (λ n. slot_value n es) (let e : a ≡ a + 0 = omega arith in e) ∙ none 0 refl

absent_next : (a m : ℕ) (marks : List ℕ) (es : EntriesTree) → Absent a (m ∷ marks) es → Absent (a + 1) marks es
absent_next a m marks es none i e = ap (λ n. slot_value n es) (let e : a + 1 + i ≡ a + suc i = omega arith in e) ∙ none (suc i) e

pub canon_from : (a : ℕ) (marks : List ℕ) (ms all : MovesTree) (ss : SlotsTree) (es : EntriesTree) → IsTrue (ascends a ms) → ((u : ℕ) → a ≤ u → found_move u all ≡ found_move u ms) → Absent a marks es
    → entries_canon_by ms ss es ≡ slots_canon (slots_from a marks) all ss es
canon_from a [] ms all ss es h same none = past_canon a ms ss es h (absent_past a es none)
canon_from a (zero ∷ marks) ms all ss es h same none =
    let s = step a ms ss es h in
    s.canon ∙ ap (λ x. x ++ entries_canon_by s.later ss es) (none_canon a ms ss es (absent_first a marks es none))
    ∙ canon_from (a + 1) marks s.later all ss es s.ascending (λ u le. same u (omega arith) ∙ s.found u (omega arith)) (absent_next a 0 marks es none)
canon_from a (suc m ∷ marks) ms all ss es h same none =
    let s = step a ms ss es h in
    let rest = canon_from (a + 1) marks s.later all ss es s.ascending (λ u le. same u (omega arith) ∙ s.found u (omega arith)) (absent_next a (suc m) marks es none) in
    s.canon ∙ (λ i. found_canon (sym (same a (let le : a ≤ a = omega arith in le)) i) ss es ++ rest i)

pub marks_from : (a : ℕ) (marks : List ℕ) (ms all : MovesTree) (ss : SlotsTree) (es : EntriesTree) (set : List ℕ) → IsTrue (ascends a ms) → ((u : ℕ) → a ≤ u → found_move u all ≡ found_move u ms) → Absent a marks es
    → marks_by ms es set ≡ slots_marks (slots_from a marks) all es set
marks_from a [] ms all ss es set h same none = past_marks a ms es set h (absent_past a es none)
marks_from a (zero ∷ marks) ms all ss es set h same none =
    let s = step a ms ss es h in
    s.marks set ∙ ap (marks_by s.later es) (none_marks a ms es set (absent_first a marks es none))
    ∙ marks_from (a + 1) marks s.later all ss es set s.ascending (λ u le. same u (omega arith) ∙ s.found u (omega arith)) (absent_next a 0 marks es none)
marks_from a (suc m ∷ marks) ms all ss es set h same none =
    let s = step a ms ss es h in
    s.marks set ∙ ap (λ o. marks_by s.later es (found_marks o es set)) (sym (same a (let le : a ≤ a = omega arith in le)))
    ∙ marks_from (a + 1) marks s.later all ss es (found_marks (found_move a all) es set) s.ascending (λ u le. same u (omega arith) ∙ s.found u (omega arith)) (absent_next a (suc m) marks es none)

-- ---- a record's slots

pub absent_slots : (marks : List ℕ) (es : EntriesTree) → ((s : ℕ) → (IsMarked marks s → ⊥) → slot_value s es ≡ None) → Absent 1 marks es
absent_slots marks es others i e = others (1 + i) (λ m. absurd (let k : 1 + i - 1 ≡ i = omega arith in let is : get_or marks (1 + i - 1) 0 ≡ get_or marks i 0 = ap (λ j. get_or marks j 0) k in let one = m.1 in omega (arith, one, is, e)))

-- the move that is found is from its slot
pub found_from : (s : ℕ) (ms : MovesTree) (m : MoveTree) → found_move s ms ≡ Some m → IsFrom s m
found_from s no_moves m e = absurd (let no : None ≡ Some m = e in cc)
found_from s (move_and (move_from u t c below) ms) m e = by (u == s) (λ h. eqb-true u s h) (found_from s ms m) e
  where
    by : (b : Bool) → (b ≡ true → u ≡ s) → (found_move s ms ≡ Some m → IsFrom s m) → (if b then Some (move_from u t c below) else found_move s ms) ≡ Some m → IsFrom s m
    by true h rest f = subst (IsFrom s) (let same : move_from u t c below ≡ m = cc in same) (h refl)
    by false h rest f = rest f

-- what is copied is what a move makes of the value
pub copied_by : (s : ℕ) (one : Move) (ss : SlotsTree) (es : EntriesTree) (k : KindTree) (v : ValueTree) (b : List ℕ) → IsFrom s (move_tree one) → kind_after (s - 1) ss ≡ Some k → slot_value s es ≡ Some v → value_canon_by (out-Move one).parts (moves_tree (out-Move one).below) k v ≡ b
    → move_canon (move_tree one) ss es ≡ b
copied_by s one ss es k v b own kind value is =
    let m = out-Move one in
    let old : m.old ≡ s = subst (IsFrom s) (move_is one) own in
    ap (λ t. move_canon t ss es) (move_is one) ∙ (λ i. spelled_where (kind_after (old i - 1) ss) (slot_value (old i) es) (value_canon_by m.parts (moves_tree m.below))) ∙ (λ i. spelled_where (kind i) (value i) (value_canon_by m.parts (moves_tree m.below))) ∙ is

-- the first of the slots that are left, and the others
pub next_canon : (left later : List ℕ) (s : ℕ) (ms : MovesTree) (ss : SlotsTree) (es : EntriesTree) (b : List ℕ) → left ≡ s ∷ later → found_canon (found_move s ms) ss es ≡ b → slots_canon left ms ss es ≡ b ++ slots_canon later ms ss es
next_canon left later s ms ss es b e is = ap (λ x. slots_canon x ms ss es) e ∙ ap (λ x. x ++ slots_canon later ms ss es) is
