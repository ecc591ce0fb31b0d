-- The set of the new slots of the entries that move has the marks of the moved entries.
use Rattle.std.proofs.Common.{◌≡◌, ℕ, zero, suc, ◌+◌, ◌-◌, ◌<◌, ◌≤◌, ◌⊎◌, inl, inr, cond, nat_lt, IsTrue, List, [], ◌∷◌, ◌++◌, length, take, drop, set, Option, Some, None, option_map, refl, sym, ◌∙◌, ap, arith, subst, append_assoc, append-nil}
use Rattle.std.proofs.lemmas.Bool.{lt-ltb}
use Rattle.std.proofs.lemmas.List.{take_more_set, drop-set-lt, length-set, length-replicate}
use Rattle.ax_relation.specs.Below.{slot_below}
use Rattle.ax_relation.specs.Moves.{MoveTree, moves_from, move_where, moves_below, moves_of}
use Rattle.ax_relation.proofs.Lookups.{equal, less}
use Rattle.ax_relation.proofs.MovedNamed.{new_value}
use Rattle.ax_relation.proofs.MovedShape.{entries_from, entries_moved}
use Rattle.ax_relation.specs.Moved.{entry_where, moved, moved_entries}
use Rattle.ax_fspec.proofs.FieldLaws.{least_field_of, none_further, none_after_none}
use Rattle.ax_fspec.specs.Fields.{least_field}
use Rattle.ax_fspec.specs.Marks.{no_marks}
use Rattle.ax_moves.proofs.OneSlot.{Moves, Stays, slot_cases}
use Rattle.ax_moves.specs.Octets.{with_slot, with_slot_where, marks_by}
use Rattle.ax_format.specs.At.{slot_value}
use Rattle.ax_format.specs.Canonical.{marks_of}
use Rattle.ax_format.specs.Naming.{slot_named}
use Rattle.ax_format.specs.Presence.{octets_needed, none_marked, least_presence}
use Rattle.ax_format.specs.Shape.{EntriesShape}
use Rattle.ax_format.specs.Tree.{KindTree, compound, SlotsTree, no_slots, slot_and, spare_slot, subitem, slot_count, ValueTree, EntriesTree, no_entries, entry_and}

-- no entry of a later slot marks this one
pub unmarked : (t : ℕ) (name : List ℕ) (l : KindTree) (ts : SlotsTree) (es : EntriesTree) → EntriesShape (t + 1) ts es → marks_of t (slot_and (subitem name l) ts) es ≡ 0 ∷ marks_of (t + 1) ts es
unmarked t name l ts no_entries h = refl
unmarked t name l ts (entry_and u v es) h =
    let le = entries_from (t + 1) ts u v es h in ap (λ b. cond b (1 ∷ marks_of (t + 1) ts es) (0 ∷ marks_of (t + 1) ts (entry_and u v es))) (less t u (omega arith))

pub slot_marked : (t : ℕ) (name : List ℕ) (l : KindTree) (ts : SlotsTree) (v : ValueTree) (es : EntriesTree) → marks_of t (slot_and (subitem name l) ts) (entry_and t v es) ≡ 1 ∷ marks_of (t + 1) ts es
slot_marked t name l ts v es = ap (λ b. cond b (1 ∷ marks_of (t + 1) ts es) (0 ∷ marks_of (t + 1) ts (entry_and t v es))) (equal t t refl)

-- the set with a slot
pub set_with : (t : ℕ) (marks : List ℕ) → 1 ≤ t → t ≤ 126 → with_slot t marks ≡ set marks (t - 1) 1
set_with t marks some few =
    ap (λ b. cond b (cond (nat_lt t 127) (set marks (t - 1) 1) marks) marks) (lt-ltb 0 t (omega arith)) ∙ ap (λ b. cond b (set marks (t - 1) 1) marks) (lt-ltb t 127 (omega arith))

one_zero : (n : ℕ) (ms : List ℕ) → IsTrue (none_marked (drop n ms)) → n < length ms → take (suc n) ms ≡ take n ms ++ 0 ∷ []
one_zero n [] h lt = absurd (omega arith)
one_zero zero (zero ∷ ms) h lt = refl
one_zero zero (suc m ∷ ms) h lt = cc
one_zero (suc n) (m ∷ ms) h lt = ap (λ x. m ∷ x) (one_zero n ms h (omega arith))

-- the marks from slot t on are those of the moved entries, and no slot after the last is marked
pub record Marked (t n : ℕ) (before later made : List ℕ) : Type 0 where
  pub size : length made ≡ 126
  pub front : take (t - 1 + n) made ≡ take (t - 1) before ++ later
  pub following : IsTrue (none_marked (drop (t - 1 + n) made))

-- a slot that isn't marked, and the others
pub skips : (t n : ℕ) (before later made : List ℕ) → 1 ≤ t → t ≤ 126 → length before ≡ 126 → IsTrue (none_marked (drop (t - 1) before)) → Marked (t + 1) n before later made → Marked t (suc n) before (0 ∷ later) made
skips t n before later made some few size none m =
    let i : t - 1 + suc n ≡ t + 1 - 1 + n = omega arith in
    let j : t + 1 - 1 ≡ suc (t - 1) = omega arith in record {
      size = m.size;
      front = ap (λ k. take k made) i ∙ m.front ∙ ap (λ x. x ++ later) (ap (λ k. take k before) j ∙ one_zero (t - 1) before none (omega (arith, size))) ∙ append_assoc (take (t - 1) before) (0 ∷ []) later;
      following = subst (λ k. IsTrue (none_marked (drop k made))) (sym i) m.following;
    }

-- one that is
pub marks : (t n : ℕ) (before later made : List ℕ) → 1 ≤ t → t ≤ 126 → length before ≡ 126 → Marked (t + 1) n (with_slot t before) later made → Marked t (suc n) before (1 ∷ later) made
marks t n before later made some few size m =
    let i : t - 1 + suc n ≡ t + 1 - 1 + n = omega arith in
    let j : t + 1 - 1 ≡ t - 1 + 1 = omega arith in record {
      size = m.size;
      front = ap (λ k. take k made) i ∙ m.front
          ∙ ap (λ x. x ++ later) ((λ p. take (j p) (set_with t before some few p)) ∙ take_more_set before (t - 1) 1 (omega (arith, size)))
          ∙ append_assoc (take (t - 1) before) (1 ∷ []) later;
      following = subst (λ k. IsTrue (none_marked (drop k made))) (sym i) m.following;
    }

pub with_size : (t : ℕ) (before : List ℕ) → 1 ≤ t → t ≤ 126 → length before ≡ 126 → length (with_slot t before) ≡ 126
with_size t before some few size = ap length (set_with t before some few) ∙ length-set before (t - 1) 1 ∙ size

pub with_following : (t : ℕ) (before : List ℕ) → 1 ≤ t → t ≤ 126 → IsTrue (none_marked (drop (t - 1) before)) → IsTrue (none_marked (drop (t + 1 - 1) (with_slot t before)))
with_following t before some few none =
    ap (λ x. none_marked (drop (t + 1 - 1) x)) (set_with t before some few) ∙ ap none_marked (drop-set-lt (t + 1 - 1) before (t - 1) 1 (omega arith)) ∙ none_further (t - 1) (t + 1 - 1) before (omega arith) none

pub moves_mark : (t : ℕ) (ts ss : SlotsTree) (es : EntriesTree) (before : List ℕ) → EntriesShape 1 ss es → 1 ≤ t → t - 1 + slot_count ts ≤ 126 → length before ≡ 126 → IsTrue (none_marked (drop (t - 1) before))
    → Marked t (slot_count ts) before (marks_of t ts (moved_entries t ts ss es)) (marks_by (moves_from (moves_of t ts (λ name. slot_below name (compound ss)))) es before)
moves_mark t no_slots ss es before h some few size none = record {
  size = size;
  front = ap (λ k. take k before) (let e : t - 1 + 0 ≡ t - 1 = omega arith in e) ∙ sym (append-nil (take (t - 1) before));
  following = subst (λ k. IsTrue (none_marked (drop k before))) (let e : t - 1 ≡ t - 1 + 0 = omega arith in e) none;
}
moves_mark t (slot_and spare_slot ts) ss es before h some few size none =
    skips t (slot_count ts) before (marks_of (t + 1) ts (moved_entries (t + 1) ts ss es)) (marks_by (moves_from (moves_of (t + 1) ts (λ name. slot_below name (compound ss)))) es before) some (omega arith) size none
    (moves_mark (t + 1) ts ss es before h (omega arith) (omega arith) size (none_further (t - 1) (t + 1 - 1) before (omega arith) none))
moves_mark t (slot_and (subitem name l) ts) ss es before h some few size none =
    by_case (slot_cases t name l ss es) (λ now length_now none_now. moves_mark (t + 1) ts ss es now h (omega arith) (omega arith) length_now none_now)
  where
    rule : List ℕ → Option (ℕ × KindTree)
    rule = λ own. slot_below own (compound ss)

    Goal : Option ValueTree → List ℕ → Type 0
    Goal o made = Marked t (suc (slot_count ts)) before (marks_of t (slot_and (subitem name l) ts) (entry_where t o (moved_entries (t + 1) ts ss es))) made

    rest : EntriesTree
    rest = moved_entries (t + 1) ts ss es

    -- what the later moves make of a set
    later : List ℕ → List ℕ
    later marks = marks_by (moves_from (moves_of (t + 1) ts (λ own. slot_below own (compound ss)))) es marks

    -- what is said of the later moves
    Later : Type 0
    Later = (now : List ℕ) → length now ≡ 126 → IsTrue (none_marked (drop (t + 1 - 1) now)) → Marked (t + 1) (slot_count ts) now (marks_of (t + 1) ts rest) (later now)

    no_value : Later → Goal None (later before)
    no_value g = subst (λ x. Marked t (suc (slot_count ts)) before x (later before)) (sym (unmarked t name l ts rest (entries_moved (t + 1) ts ss es h)))
        (skips t (slot_count ts) before (marks_of (t + 1) ts rest) (later before) some (omega arith) size none (g before size (none_further (t - 1) (t + 1 - 1) before (omega arith) none)))

    a_value : Later → (v : ValueTree) → Goal (Some v) (later (with_slot t before))
    a_value g v = subst (λ x. Marked t (suc (slot_count ts)) before x (later (with_slot t before))) (sym (slot_marked t name l ts v rest))
        (marks t (slot_count ts) before (marks_of (t + 1) ts rest) (later (with_slot t before)) some (omega arith) size (g (with_slot t before) (with_size t before some (omega arith) size) (with_following t before some (omega arith) none)))

    by_value : Later → (k : KindTree) (o : Option ValueTree) → Goal (option_map (moved l k) o) (later (with_slot_where o t before))
    by_value g k None = no_value g
    by_value g k (Some v) = a_value g (moved l k v)

    moved_by : {o p : Option ValueTree} → {x y : List MoveTree} → x ≡ y → o ≡ p → Goal o (marks_by (moves_from (x ++ moves_of (t + 1) ts rule)) es before) → Goal p (marks_by (moves_from (y ++ moves_of (t + 1) ts rule)) es before)
    moved_by {o} {p} {x} {y} e f h =
        let made : List MoveTree → List ℕ = λ z. marks_by (moves_from (z ++ moves_of (t + 1) ts rule)) es before in
        let P : List MoveTree → Type 0 = λ z. Goal p (made z) in
        let Q : Option ValueTree → Type 0 = λ z. Goal z (made x) in subst P e (subst Q f h)

    by_case : Moves t name l ss es ⊎ Stays t name l ss es → Later → Goal (new_value name l ss es) (marks_by (moves_from (move_where t l (slot_named 1 name ss) (moves_below l) ++ moves_of (t + 1) ts rule)) es before)
    by_case (inl m) g = moved_by (sym m.move) (sym m.value) (by_value g m.kind (slot_value m.old es))
    by_case (inr s) g = moved_by (sym s.0) (sym s.1) (no_value g)

pub size_none : length no_marks ≡ 126
unfolding no_marks
size_none = length-replicate {A = ℕ} 126 0

-- the least field of that set is the presence field of the moved entries
pub moved_field : (ts ss : SlotsTree) (es : EntriesTree) → EntriesShape 1 ss es → 1 ≤ slot_count ts → slot_count ts ≤ 126
    → least_field (marks_by (moves_from (moves_of 1 ts (λ name. slot_below name (compound ss)))) es no_marks) ≡ least_presence (octets_needed (slot_count ts)) (marks_of 1 ts (moved_entries 1 ts ss es))
moved_field ts ss es h some few =
    let made = marks_by (moves_from (moves_of 1 ts (λ name. slot_below name (compound ss)))) es no_marks in
    let m = moves_mark 1 ts ss es no_marks h (omega arith) (omega arith) size_none (none_after_none 0) in
    let n : 1 - 1 + slot_count ts ≡ slot_count ts = omega arith in
    least_field_of (slot_count ts) made some few (subst (λ k. IsTrue (none_marked (drop k made))) n m.following)
    ∙ ap (least_presence (octets_needed (slot_count ts))) (ap (λ k. take k made) (sym n) ∙ m.front)
