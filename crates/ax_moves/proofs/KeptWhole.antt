-- A compound of which each subitem keeps its slot has its own canonical octets.
use Rattle.std.proofs.Common.{◌≡◌, ℕ, suc, ◌+◌, ◌-◌, ◌≤◌, IsTrue, List, ◌++◌, length, take, drop, Option, Some, None, refl, sym, ◌∙◌, ap, arith, subst, append-nil}
use Rattle.ax_relation.specs.Moves.{MoveTree, move_from, MovesTree, no_moves, move_and}
use Rattle.ax_relation.proofs.CutParts.{parts_whole}
use Rattle.ax_relation.proofs.NamedOnce.{front_of, front_value, front_later}
use Rattle.ax_relation.specs.Moved.{entry_where}
use Rattle.ax_fspec.proofs.FieldLaws.{least_field_of, none_further, none_after_none}
use Rattle.ax_fspec.specs.Fields.{least_field}
use Rattle.ax_fspec.specs.Marks.{no_marks}
use Rattle.ax_moves.proofs.FrontParts.{fixed_whole, list_few}
use Rattle.ax_moves.proofs.MovedCanon.{canon_where, front_canon}
use Rattle.ax_moves.proofs.MovedMarks.{Marked, skips, marks, with_size, with_following, unmarked, slot_marked, size_none}
use Rattle.ax_moves.specs.Keeping.{IsLeaf, KeepsAll}
use Rattle.ax_moves.specs.Octets.{with_slot, with_slot_where, marks_by, spelled_where, canon_by, value_canon_by, entries_canon_by}
use Rattle.ax_format.specs.At.{slot_value}
use Rattle.ax_format.specs.Canonical.{parts_canon, canon, marks_of, entries_canon}
use Rattle.ax_format.specs.Lengths.{kind_after}
use Rattle.ax_format.specs.Presence.{octets_needed, none_marked, least_presence}
use Rattle.ax_format.specs.Shape.{Shape, EntriesShape}
use Rattle.ax_format.specs.Tree.{KindTree, fixed, extended, counted, by_fx, explicit, compound, SlotsTree, no_slots, slot_and, spare_slot, subitem, slot_count, ValueTree, part_values, occurrences, content_octets, marked, EntriesTree}

pub leaf_canon : (c : ℕ) (below : MovesTree) (k : KindTree) (v : ValueTree) → IsLeaf c k → Shape k v → value_canon_by c below k v ≡ canon k v
leaf_canon c below (fixed f) v h s = fixed_whole c below f v s
leaf_canon c below (extended last ps) (part_values ls) h s = ap (parts_canon last ps) (parts_whole c ls (omega (arith, list_few ps ls s, h)))
leaf_canon c below (extended last ps) _ h s = absurd s
leaf_canon c below (counted size k) (occurrences vs) h s = refl
leaf_canon c below (counted size k) _ h s = absurd s
leaf_canon c below (by_fx f) (occurrences vs) h s = refl
leaf_canon c below (by_fx f) _ h s = absurd s
leaf_canon c below explicit (content_octets xs) h s = refl
leaf_canon c below explicit _ h s = absurd s
leaf_canon c below (compound ss) v h s = absurd h

-- the value, if it is there, has its own canonical octets as it moves
abbrev pub StaysWhere : ℕ → MovesTree → KindTree → Option ValueTree → Type 0
StaysWhere c below k o = (v : ValueTree) → o ≡ Some v → Shape k v → value_canon_by c below k v ≡ canon k v

-- the move leaves slot t where it is, and its entry, if it is there, has its own canonical octets as it moves
abbrev pub KeepsOne : ℕ → KindTree → MoveTree → EntriesTree → Type 0
KeepsOne t k (move_from s u c below) es = (s ≡ t) × (u ≡ t) × StaysWhere c below k (slot_value t es)

-- the same of each of these slots, of which the first has the number t, and nothing else moves
abbrev pub KeepsThere : ℕ → SlotsTree → MovesTree → EntriesTree → Type 0
KeepsThere t no_slots no_moves es = Unit {0}
KeepsThere t no_slots (move_and m ms) es = ⊥
KeepsThere t (slot_and spare_slot ss) ms es = KeepsThere (t + 1) ss ms es
KeepsThere t (slot_and (subitem name k) ss) no_moves es = ⊥
KeepsThere t (slot_and (subitem name k) ss) (move_and m ms) es = KeepsOne t k m es × KeepsThere (t + 1) ss ms es

keeps_there : (t : ℕ) (ss : SlotsTree) (ms : MovesTree) (es : EntriesTree) → KeepsAll t ss ms → KeepsThere t ss ms es
keeps_there t no_slots no_moves es h = tt
keeps_there t no_slots (move_and m ms) es h = absurd h
keeps_there t (slot_and spare_slot ss) ms es h = keeps_there (t + 1) ss ms es h
keeps_there t (slot_and (subitem name k) ss) no_moves es h = absurd h
keeps_there t (slot_and (subitem name k) ss) (move_and (move_from s u c below) ms) es h = ((h.0.0, h.0.1, λ v e. leaf_canon c below k v h.0.2), keeps_there (t + 1) ss ms es h.1)

one_canon : (c : ℕ) (below : MovesTree) (k : KindTree) (o : Option ValueTree) → StaysWhere c below k o → ((v : ValueTree) → o ≡ Some v → Shape k v) → spelled_where (Some k) o (value_canon_by c below) ≡ canon_where k o
one_canon c below k None h s = refl
one_canon c below k (Some v) h s = h v refl (s v refl)

-- the entries from slot t on
pub entries_stay : (t : ℕ) (ss all : SlotsTree) (ms : MovesTree) (whole es : EntriesTree) → KeepsThere t ss ms whole → EntriesShape t ss es → ((u : ℕ) → t ≤ u → slot_value u whole ≡ slot_value u es) → 1 ≤ t
    → ((i : ℕ) → kind_after (t - 1 + i) all ≡ kind_after i ss) → entries_canon_by ms all whole ≡ entries_canon t ss es
entries_stay t no_slots all no_moves whole es h shape values some kinds = refl
entries_stay t no_slots all (move_and m ms) whole es h shape values some kinds = absurd h
entries_stay t (slot_and spare_slot ss) all ms whole es h shape values some kinds =
    entries_stay (t + 1) ss all ms whole es h shape (λ u le. values u (omega arith)) (omega arith) (λ i. ap (λ k. kind_after k all) (let e : t + 1 - 1 + i ≡ t - 1 + suc i = omega arith in e) ∙ kinds (suc i))
entries_stay t (slot_and (subitem name k) ss) all no_moves whole es h shape values some kinds = absurd h
entries_stay t (slot_and (subitem name k) ss) all (move_and (move_from s u c below) ms) whole es h shape values some kinds =
    let f = front_of t name k ss es shape in
    let kind : kind_after (s - 1) all ≡ Some k = ap (λ x. kind_after x all) (let e : s - 1 ≡ t - 1 + 0 = (let g = h.0.0 in omega arith) in e) ∙ kinds 0 in
    let here : slot_value t whole ≡ f.here = values t (omega arith) ∙ front_value t k ss es f in
    let value : slot_value s whole ≡ f.here = ap (λ x. slot_value x whole) h.0.0 ∙ here in
    let later = entries_stay (t + 1) ss all ms whole f.rest h.1 f.later (λ u le. values u (omega arith) ∙ front_later t k ss es f u (omega arith)) (omega arith)
    (λ i. ap (λ x. kind_after x all) (let e : t + 1 - 1 + i ≡ t - 1 + suc i = omega arith in e) ∙ kinds (suc i)) in
    (λ i. spelled_where (kind i) (value i) (value_canon_by c below) ++ later i) ∙ ap (λ x. x ++ entries_canon (t + 1) ss f.rest) (one_canon c below k f.here (λ v e. h.0.2 v (here ∙ e)) f.shape)
    ∙ sym (front_canon t name k ss f.here f.rest f.later) ∙ ap (entries_canon t (slot_and (subitem name k) ss)) (sym f.is)

pub marks_stay : (t : ℕ) (ss : SlotsTree) (ms : MovesTree) (whole es : EntriesTree) (before : List ℕ) → KeepsThere t ss ms whole → EntriesShape t ss es → ((u : ℕ) → t ≤ u → slot_value u whole ≡ slot_value u es) → 1 ≤ t → t - 1 + slot_count ss ≤ 126
    → length before ≡ 126 → IsTrue (none_marked (drop (t - 1) before)) → Marked t (slot_count ss) before (marks_of t ss es) (marks_by ms whole before)
marks_stay t no_slots no_moves whole es before h shape values some few size none = record {
  size = size;
  front = ap (λ k. take k before) (let e : t - 1 + 0 ≡ t - 1 = omega arith in e) ∙ sym (append-nil (take (t - 1) before));
  following = subst (λ k. IsTrue (none_marked (drop k before))) (let e : t - 1 ≡ t - 1 + 0 = omega arith in e) none;
}
marks_stay t no_slots (move_and m ms) whole es before h shape values some few size none = absurd h
marks_stay t (slot_and spare_slot ss) ms whole es before h shape values some few size none =
    skips t (slot_count ss) before (marks_of (t + 1) ss es) (marks_by ms whole before) some (omega arith) size none
    (marks_stay (t + 1) ss ms whole es before h shape (λ u le. values u (omega arith)) (omega arith) (omega arith) size (none_further (t - 1) (t + 1 - 1) before (omega arith) none))
marks_stay t (slot_and (subitem name k) ss) no_moves whole es before h shape values some few size none = absurd h
marks_stay t (slot_and (subitem name k) ss) (move_and (move_from s u c below) ms) whole es before h shape values some few size none =
    let f = front_of t name k ss es shape in
    let value : slot_value s whole ≡ f.here = ap (λ x. slot_value x whole) h.0.0 ∙ values t (omega arith) ∙ front_value t k ss es f in
    let P : EntriesTree → Type 0 = λ x. Marked t (suc (slot_count ss)) before (marks_of t (slot_and (subitem name k) ss) x) (marks_by ms whole (with_slot_where (slot_value s whole) u before)) in
    let Q : List ℕ → Type 0 = λ now. Marked t (suc (slot_count ss)) before (marks_of t (slot_and (subitem name k) ss) (entry_where t f.here f.rest)) (marks_by ms whole now) in
    subst P (sym f.is) (subst Q (λ i. with_slot_where (sym value i) (sym h.0.1 i) before)
    (by_here f.here f.rest f.later (λ now length_now none_now. marks_stay (t + 1) ss ms whole f.rest now h.1 f.later (λ u le. values u (omega arith) ∙ front_later t k ss es f u (omega arith)) (omega arith) (omega arith) length_now none_now)))
  where
    Later : EntriesTree → Type 0
    Later rest = (now : List ℕ) → length now ≡ 126 → IsTrue (none_marked (drop (t + 1 - 1) now)) → Marked (t + 1) (slot_count ss) now (marks_of (t + 1) ss rest) (marks_by ms whole now)

    by_here : (o : Option ValueTree) (rest : EntriesTree) → EntriesShape (t + 1) ss rest → Later rest
        → Marked t (suc (slot_count ss)) before (marks_of t (slot_and (subitem name k) ss) (entry_where t o rest)) (marks_by ms whole (with_slot_where o t before))
    by_here None rest later g = subst (λ x. Marked t (suc (slot_count ss)) before x (marks_by ms whole before)) (sym (unmarked t name k ss rest later))
        (skips t (slot_count ss) before (marks_of (t + 1) ss rest) (marks_by ms whole before) some (omega arith) size none (g before size (none_further (t - 1) (t + 1 - 1) before (omega arith) none)))
    by_here (Some v) rest later g = subst (λ x. Marked t (suc (slot_count ss)) before x (marks_by ms whole (with_slot t before))) (sym (slot_marked t name k ss v rest))
        (marks t (slot_count ss) before (marks_of (t + 1) ss rest) (marks_by ms whole (with_slot t before)) some (omega arith) size (g (with_slot t before) (with_size t before some (omega arith) size) (with_following t before some (omega arith) none)))

pub there_stays : (ss : SlotsTree) (ms : MovesTree) (es : EntriesTree) → KeepsThere 1 ss ms es → EntriesShape 1 ss es → 1 ≤ slot_count ss → slot_count ss ≤ 126 → canon_by ms (compound ss) (marked es) ≡ canon (compound ss) (marked es)
there_stays ss ms es h shape some few =
    let m = marks_stay 1 ss ms es es no_marks h shape (λ u le. refl) (omega arith) (omega arith) size_none (none_after_none 0) in
    let made = marks_by ms es no_marks in
    let n : 1 - 1 + slot_count ss ≡ slot_count ss = omega arith in
    let field : least_field made ≡ least_presence (octets_needed (slot_count ss)) (marks_of 1 ss es) =
    least_field_of (slot_count ss) made some few (subst (λ k. IsTrue (none_marked (drop k made))) n m.following) ∙ ap (least_presence (octets_needed (slot_count ss))) (ap (λ k. take k made) (sym n) ∙ m.front) in
    let entries = entries_stay 1 ss ss ms es es h shape (λ u le. refl) (omega arith) (λ i. ap (λ x. kind_after x ss) (let e : 1 - 1 + i ≡ i = omega arith in e)) in
    λ i. field i ++ entries i

pub whole_stays : (ss : SlotsTree) (ms : MovesTree) (es : EntriesTree) → KeepsAll 1 ss ms → EntriesShape 1 ss es → 1 ≤ slot_count ss → slot_count ss ≤ 126 → canon_by ms (compound ss) (marked es) ≡ canon (compound ss) (marked es)
whole_stays ss ms es h shape some few = there_stays ss ms es (keeps_there 1 ss ms es h) shape some few
