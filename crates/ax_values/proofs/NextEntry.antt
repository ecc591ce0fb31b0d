-- The entries of a compound or a record, one after the other: their marks, and their spellings.
use Rattle.std.proofs.Common.{◌≡◌, ℕ, zero, suc, ◌+◌, ◌-◌, ◌<◌, ◌≤◌, ◌==◌, Bool, true, false, cond, List, [], ◌∷◌, ◌++◌, length, take, drop, set, replicate, IsTrue, MatchBool, Option, Some, None, refl, sym, ◌∙◌, ap, arith, subst, append_assoc, add-one, take-add, length-drop}
use Rattle.std.proofs.lemmas.Bool.{eqb-true}
use Rattle.std.proofs.lemmas.List.{take_more_set, drop-set-lt, length-set, length-replicate}
use Rattle.ax_bits.specs.Out.{Appends, room}
use Rattle.ax_bits.specs.declared.output.Out.{Out}
use Rattle.ax_fspec.proofs.FieldLaws.{least_field_of, none_further}
use Rattle.ax_fspec.specs.Fields.{least_field}
use Rattle.ax_fspec.specs.Marks.{no_marks}
use Rattle.ax_format.proofs.RecordFitting.{entries_split}
use Rattle.ax_format.specs.Canonical.{canon, marks_of, entries_canon}
use Rattle.ax_format.specs.InBounds.{InBounds, SlotsInBounds}
use Rattle.ax_format.specs.Lengths.{kind_after, slot_kind}
use Rattle.ax_format.specs.Plain.{entries_tree, value_tree}
use Rattle.ax_format.specs.Presence.{octets_needed, none_marked, least_presence}
use Rattle.ax_format.specs.Shape.{Shape, EntriesShape}
use Rattle.ax_format.specs.Tree.{KindTree, ValueTree, EntriesTree, no_entries, entry_and, SlotsTree, no_slots, slot_and, SlotTree, spare_slot, subitem, slot_count}
use Rattle.ax_format.specs.declared.value.Entry.{Entry}
use Rattle.ax_values.proofs.Written.{written_none, written_more, written_all, written_room, first_room}
use Rattle.ax_values.specs.Writing.{IsWrittenTo, EntryShape, entry_canon}

-- the slots after the first n
abbrev pub slots_after : ℕ → SlotsTree → SlotsTree
slots_after zero ss = ss
slots_after (suc n) no_slots = no_slots
slots_after (suc n) (slot_and s ss) = slots_after n ss

after_no_octet : (n : ℕ) → slots_after n no_slots ≡ no_slots
after_no_octet zero = refl
after_no_octet (suc n) = refl

after_more : (m n : ℕ) (ss : SlotsTree) → slots_after m (slots_after n ss) ≡ slots_after (n + m) ss
after_more m zero ss = ap (λ k. slots_after k ss) (let e : m ≡ 0 + m = omega arith in e)
after_more m (suc n) no_slots = after_no_octet m ∙ sym (after_no_octet (suc n + m))
after_more m (suc n) (slot_and s ss) = after_more m n ss ∙ ap (λ k. slots_after k (slot_and s ss)) (let e : suc (n + m) ≡ suc n + m = omega arith in e)

kind_further : (m n : ℕ) (ss : SlotsTree) → kind_after m (slots_after n ss) ≡ kind_after (n + m) ss
kind_further m zero ss = ap (λ k. kind_after k ss) (let e : m ≡ 0 + m = omega arith in e)
kind_further m (suc n) no_slots = refl
kind_further m (suc n) (slot_and s ss) = kind_further m n ss ∙ ap (λ k. kind_after k (slot_and s ss)) (let e : suc (n + m) ≡ suc n + m = omega arith in e)

-- the first entry is of the slot after `gap` others, of which the first has the number s
record NextIs (s : ℕ) (ss : SlotsTree) (t : ℕ) (v : ValueTree) (es : EntriesTree) : Type 0 where
  gap : ℕ
  number : t ≡ s + gap
  within : gap < slot_count ss
  kind : KindTree
  found : kind_after gap ss ≡ Some kind
  shape : Shape kind v
  later : EntriesShape (t + 1) (slots_after (suc gap) ss) es
  spelled : entries_canon s ss (entry_and t v es) ≡ canon kind v ++ entries_canon (t + 1) (slots_after (suc gap) ss) es
  marks : marks_of s ss (entry_and t v es) ≡ replicate gap 0 ++ 1 ∷ marks_of (t + 1) (slots_after (suc gap) ss) es

next_further : (s : ℕ) (slot : SlotTree) (ss : SlotsTree) (t : ℕ) (v : ValueTree) (es : EntriesTree) → entries_canon s (slot_and slot ss) (entry_and t v es) ≡ entries_canon (s + 1) ss (entry_and t v es)
    → marks_of s (slot_and slot ss) (entry_and t v es) ≡ 0 ∷ marks_of (s + 1) ss (entry_and t v es) → NextIs (s + 1) ss t v es → NextIs s (slot_and slot ss) t v es
next_further s slot ss t v es e f h = record {
  gap = suc h.gap;
  number = omega (arith, h.number);
  within = omega (arith, h.within);
  kind = h.kind;
  found = h.found;
  shape = h.shape;
  later = h.later;
  spelled = e ∙ h.spelled;
  marks = f ∙ ap (λ ms. 0 ∷ ms) h.marks;
}

-- at a subitem, by whether the entry is its own
at_subitem : (s : ℕ) (name : List ℕ) (k : KindTree) (ss : SlotsTree) (t : ℕ) (v : ValueTree) (es : EntriesTree) → (EntriesShape (s + 1) ss (entry_and t v es) → NextIs (s + 1) ss t v es)
    → (b : Bool) → (t == s) ≡ b → MatchBool b (Shape k v × EntriesShape (s + 1) ss es) (EntriesShape (s + 1) ss (entry_and t v es)) → NextIs s (slot_and (subitem name k) ss) t v es
at_subitem s name k ss t v es further true is h =
    let same : t ≡ s = eqb-true t s is in
    let next : s + 1 ≡ t + 1 = omega arith in record {
      gap = 0;
      number = omega arith;
      within = omega arith;
      kind = k;
      found = refl;
      shape = h.0;
      later = subst (λ n. EntriesShape n ss es) next h.1;
      spelled = ap (λ b. cond b (canon k v ++ entries_canon (s + 1) ss es) (entries_canon (s + 1) ss (entry_and t v es))) is ∙ ap (λ n. canon k v ++ entries_canon n ss es) next;
      marks = ap (λ b. cond b (1 ∷ marks_of (s + 1) ss es) (0 ∷ marks_of (s + 1) ss (entry_and t v es))) is ∙ ap (λ n. 1 ∷ marks_of n ss es) next;
    }
at_subitem s name k ss t v es further false is h =
    next_further s (subitem name k) ss t v es (ap (λ b. cond b (canon k v ++ entries_canon (s + 1) ss es) (entries_canon (s + 1) ss (entry_and t v es))) is)
    (ap (λ b. cond b (1 ∷ marks_of (s + 1) ss es) (0 ∷ marks_of (s + 1) ss (entry_and t v es))) is) (further h)

next_entry : (s : ℕ) (ss : SlotsTree) (t : ℕ) (v : ValueTree) (es : EntriesTree) → EntriesShape s ss (entry_and t v es) → NextIs s ss t v es
next_entry s no_slots t v es h = absurd h
next_entry s (slot_and spare_slot ss) t v es h = next_further s spare_slot ss t v es refl refl (next_entry (s + 1) ss t v es h)
next_entry s (slot_and (subitem name k) ss) t v es h = at_subitem s name k ss t v es (next_entry (s + 1) ss t v es) (t == s) refl h

-- ---- what is left of the entries, with the slots after the first i

kind_bounds : (i : ℕ) (ss : SlotsTree) (k : KindTree) → SlotsInBounds ss → kind_after i ss ≡ Some k → InBounds k
kind_bounds i no_slots k h e = absurd (let none : ◌≡◌ {A = Option KindTree} None (Some k) = e in cc)
kind_bounds zero (slot_and spare_slot ss) k h e = absurd (let none : ◌≡◌ {A = Option KindTree} None (Some k) = e in cc)
kind_bounds zero (slot_and (subitem name j) ss) k h e = subst InBounds (let same : j ≡ k = cc in same) h.0
kind_bounds (suc i) (slot_and spare_slot ss) k h e = kind_bounds i ss k h e
kind_bounds (suc i) (slot_and (subitem name j) ss) k h e = kind_bounds i ss k h.1 e

pub record EntriesLeft (ss : SlotsTree) (old now : Out) (whole : List ℕ) (es : List Entry) : Type 0 where
  pub slots : ℕ
  pub shape : EntriesShape (slots + 1) (slots_after slots ss) (entries_tree es)
  pub written : IsWrittenTo old now whole (entries_canon (slots + 1) (slots_after slots ss) (entries_tree es))

pub entries_first : (ss : SlotsTree) (out : Out) (es : List Entry) → EntriesShape 1 ss (entries_tree es) → EntriesLeft ss out out (entries_canon 1 ss (entries_tree es)) es
entries_first ss out es h = record { slots = 0; shape = h; written = written_none out (entries_canon 1 ss (entries_tree es)) }

-- the kind of the next entry
record KindOfNext (ss : SlotsTree) (old now : Out) (whole : List ℕ) (e : Entry) (es : List Entry) : Type 0 where
  kind : KindTree
  found : slot_kind ss e.slot ≡ Some kind
  shape : Shape kind (value_tree e.value)
  next : ℕ
  later : EntriesShape (next + 1) (slots_after next ss) (entries_tree es)
  written : IsWrittenTo old now whole (canon kind (value_tree e.value) ++ entries_canon (next + 1) (slots_after next ss) (entries_tree es))

kind_of_next : (ss : SlotsTree) (old now : Out) (whole : List ℕ) (e : Entry) (es : List Entry) → EntriesLeft ss old now whole (e ∷ es) → KindOfNext ss old now whole e es
kind_of_next ss old now whole e es h =
    let tree = entries_split e (e ∷ es) es refl in
    let n = next_entry (h.slots + 1) (slots_after h.slots ss) e.slot (value_tree e.value) (entries_tree es) (subst (EntriesShape (h.slots + 1) (slots_after h.slots ss)) tree h.shape) in
    let place : e.slot ≡ suc (h.slots + n.gap) = omega (arith, n.number) in
    let following : slots_after (suc n.gap) (slots_after h.slots ss) ≡ slots_after e.slot ss = after_more (suc n.gap) h.slots ss ∙ ap (λ k. slots_after k ss) (let z : h.slots + suc n.gap ≡ e.slot = omega arith in z) in record {
      kind = n.kind;
      found = ap (slot_kind ss) place ∙ sym (kind_further n.gap h.slots ss) ∙ n.found;
      shape = n.shape;
      next = e.slot;
      later = subst (λ ss. EntriesShape (e.slot + 1) ss (entries_tree es)) following n.later;
      written = subst (λ left. IsWrittenTo old now whole left) (ap (entries_canon (h.slots + 1) (slots_after h.slots ss)) tree ∙ n.spelled ∙ ap (λ ss. canon n.kind (value_tree e.value) ++ entries_canon (e.slot + 1) ss (entries_tree es)) following) h.written;
    }

entries_at_first : (ss : SlotsTree) (old now : Out) (whole : List ℕ) (left es : List Entry) (e : Entry) → EntriesLeft ss old now whole left → left ≡ e ∷ es → KindOfNext ss old now whole e es
entries_at_first ss old now whole left es e h is = kind_of_next ss old now whole e es (subst (λ left. EntriesLeft ss old now whole left) is h)

pub entry_shape : (ss : SlotsTree) (old now : Out) (whole : List ℕ) (left es : List Entry) (e : Entry) → EntriesLeft ss old now whole left → left ≡ e ∷ es → SlotsInBounds ss → EntryShape (slot_kind ss e.slot) (value_tree e.value)
entry_shape ss old now whole left es e h is bounds =
    let n = entries_at_first ss old now whole left es e h is in subst (λ o. EntryShape o (value_tree e.value)) (sym n.found) (in_bounds e.slot n.found, n.shape)
  where
    in_bounds : {k : KindTree} (t : ℕ) → slot_kind ss t ≡ Some k → InBounds k
    in_bounds {k} zero f = absurd (let none : ◌≡◌ {A = Option KindTree} None (Some k) = f in cc)
    in_bounds {k} (suc i) f = kind_bounds i ss k bounds f

pub entry_room : (ss : SlotsTree) (old now : Out) (whole : List ℕ) (left es : List Entry) (e : Entry) → EntriesLeft ss old now whole left → left ≡ e ∷ es → length whole ≤ room old → length (entry_canon (slot_kind ss e.slot) (value_tree e.value)) ≤ room now
entry_room ss old now whole left es e h is le =
    let n = entries_at_first ss old now whole left es e h is in
    let piece = canon n.kind (value_tree e.value) in
    let rest = entries_canon (n.next + 1) (slots_after n.next ss) (entries_tree es) in
    subst (λ o. length (entry_canon o (value_tree e.value)) ≤ room now) (sym n.found) (first_room piece rest (piece ++ rest) (room now) refl (written_room old now whole (piece ++ rest) n.written le))

pub entries_next : (ss : SlotsTree) (old now new : Out) (whole : List ℕ) (left es : List Entry) (e : Entry) → EntriesLeft ss old now whole left → left ≡ e ∷ es → Appends now new (entry_canon (slot_kind ss e.slot) (value_tree e.value)) → EntriesLeft ss old new whole es
entries_next ss old now new whole left es e h is a =
    let n = entries_at_first ss old now whole left es e h is in
    let piece = canon n.kind (value_tree e.value) in
    let rest = entries_canon (n.next + 1) (slots_after n.next ss) (entries_tree es) in
    record {
      slots = n.next;
      shape = n.later;
      written = written_more old now new whole (piece ++ rest) piece rest n.written refl (subst (λ o. Appends now new (entry_canon o (value_tree e.value))) n.found a);
    }

canon_none : (s : ℕ) (ss : SlotsTree) → entries_canon s ss no_entries ≡ []
canon_none s no_slots = refl
canon_none s (slot_and spare_slot ss) = canon_none (s + 1) ss
canon_none s (slot_and (subitem name k) ss) = canon_none (s + 1) ss

pub entries_ended : (ss : SlotsTree) (old now : Out) (whole : List ℕ) (left : List Entry) → EntriesLeft ss old now whole left → left ≡ [] → Appends old now whole
entries_ended ss old now whole left h e =
    written_all old now whole (entries_canon (h.slots + 1) (slots_after h.slots ss) (entries_tree left)) h.written
    (ap (λ es. entries_canon (h.slots + 1) (slots_after h.slots ss) (entries_tree es)) e ∙ canon_none (h.slots + 1) (slots_after h.slots ss))

-- ---- the marks of the entries

-- the entries before these are marked, and no slot after theirs
pub record MarksLeft (ss : SlotsTree) (all marks : List ℕ) (es : List Entry) : Type 0 where
  pub slots : ℕ
  pub size : length marks ≡ 126
  pub few : slots ≤ slot_count ss
  pub shape : EntriesShape (slots + 1) (slots_after slots ss) (entries_tree es)
  pub marked : all ≡ take slots marks ++ marks_of (slots + 1) (slots_after slots ss) (entries_tree es)
  pub following : IsTrue (none_marked (drop slots marks))

pub marks_first : (ss : SlotsTree) (es : List Entry) → EntriesShape 1 ss (entries_tree es) → MarksLeft ss (marks_of 1 ss (entries_tree es)) no_marks es
unfolding no_marks
marks_first ss es h = record { slots = 0; size = length-replicate {A = ℕ} 126 0; few = omega arith; shape = h; marked = refl; following = refl }

zeros_taken : (n : ℕ) (ms : List ℕ) → IsTrue (none_marked ms) → n ≤ length ms → take n ms ≡ replicate n 0
zeros_taken zero ms h le = refl
zeros_taken (suc n) [] h le = absurd (omega arith)
zeros_taken (suc n) (zero ∷ ms) h le = ap (λ x. 0 ∷ x) (zeros_taken n ms h (omega arith))
zeros_taken (suc n) (suc m ∷ ms) h le = cc

count_after : (n : ℕ) (ss : SlotsTree) → n ≤ slot_count ss → n + slot_count (slots_after n ss) ≡ slot_count ss
count_after zero ss le = omega arith
count_after (suc n) no_slots le = absurd (omega arith)
count_after (suc n) (slot_and s ss) le = omega (arith, count_after n ss (omega arith))

record MarkOfNext (ss : SlotsTree) (all marks : List ℕ) (e : Entry) (es : List Entry) : Type 0 where
  slot : ℕ
  number : e.slot ≡ suc slot
  few : suc slot ≤ slot_count ss
  later : EntriesShape (e.slot + 1) (slots_after e.slot ss) (entries_tree es)
  marked : slot_count ss ≤ 126 → all ≡ take slot marks ++ 1 ∷ marks_of (e.slot + 1) (slots_after e.slot ss) (entries_tree es)
  following : IsTrue (none_marked (drop slot marks))

mark_of_next : (ss : SlotsTree) (all marks : List ℕ) (e : Entry) (es : List Entry) → MarksLeft ss all marks (e ∷ es) → MarkOfNext ss all marks e es
mark_of_next ss all marks e es h =
    let tree = entries_split e (e ∷ es) es refl in
    let n = next_entry (h.slots + 1) (slots_after h.slots ss) e.slot (value_tree e.value) (entries_tree es) (subst (EntriesShape (h.slots + 1) (slots_after h.slots ss)) tree h.shape) in
    let place : e.slot ≡ suc (h.slots + n.gap) = omega (arith, n.number) in
    let following : slots_after (suc n.gap) (slots_after h.slots ss) ≡ slots_after e.slot ss = after_more (suc n.gap) h.slots ss ∙ ap (λ k. slots_after k ss) (let z : h.slots + suc n.gap ≡ e.slot = omega arith in z) in
    let rest = marks_of (e.slot + 1) (slots_after e.slot ss) (entries_tree es) in
    let few : suc (h.slots + n.gap) ≤ slot_count ss = omega (arith, n.within, count_after h.slots ss h.few) in record {
      slot = h.slots + n.gap;
      number = place;
      few = few;
      later = subst (λ ss. EntriesShape (e.slot + 1) ss (entries_tree es)) following n.later;
      marked = λ small. (
          let front : take (h.slots + n.gap) marks ≡ take h.slots marks ++ replicate n.gap 0 =
          take-add h.slots n.gap marks ∙ ap (λ z. take h.slots marks ++ z) (zeros_taken n.gap (drop h.slots marks) h.following (omega (arith, h.size, length-drop h.slots marks))) in
          h.marked ∙ ap (λ z. take h.slots marks ++ z) (ap (marks_of (h.slots + 1) (slots_after h.slots ss)) tree ∙ n.marks ∙ ap (λ ss. replicate n.gap 0 ++ 1 ∷ marks_of (e.slot + 1) ss (entries_tree es)) following)
          ∙ sym (append_assoc (take h.slots marks) (replicate n.gap 0) (1 ∷ rest)) ∙ ap (λ z. z ++ 1 ∷ rest) (sym front)
          );
      following = none_further h.slots (h.slots + n.gap) marks (omega arith) h.following;
    }

marks_at_first : (ss : SlotsTree) (all marks : List ℕ) (left es : List Entry) (e : Entry) → MarksLeft ss all marks left → left ≡ e ∷ es → MarkOfNext ss all marks e es
marks_at_first ss all marks left es e h is = mark_of_next ss all marks e es (subst (λ left. MarksLeft ss all marks left) is h)

pub mark_within : (ss : SlotsTree) (all marks : List ℕ) (left es : List Entry) (e : Entry) → MarksLeft ss all marks left → left ≡ e ∷ es → slot_count ss ≤ 126 → (1 ≤ e.slot) × (e.slot ≤ 126)
mark_within ss all marks left es e h is small = let n = marks_at_first ss all marks left es e h is in (omega (arith, n.number), omega (arith, n.number, n.few))

pub marks_next : (ss : SlotsTree) (all marks new : List ℕ) (left es : List Entry) (e : Entry) → MarksLeft ss all marks left → left ≡ e ∷ es → slot_count ss ≤ 126 → new ≡ set marks (e.slot - 1) 1 → MarksLeft ss all new es
marks_next ss all marks new left es e h is small f =
    let n = marks_at_first ss all marks left es e h is in
    let g : new ≡ set marks n.slot 1 = f ∙ ap (λ k. set marks k 1) (let z : e.slot - 1 ≡ n.slot = omega (arith, n.number) in z) in
    let t : take e.slot new ≡ take n.slot marks ++ 1 ∷ [] = (λ i. take (n.number i) (g i)) ∙ ap (λ k. take k (set marks n.slot 1)) (sym (add-one n.slot)) ∙ take_more_set marks n.slot 1 (omega (arith, h.size, n.few)) in
    let rest = marks_of (e.slot + 1) (slots_after e.slot ss) (entries_tree es) in
    let past : drop e.slot new ≡ drop e.slot marks = ap (drop e.slot) g ∙ drop-set-lt e.slot marks n.slot 1 (omega (arith, n.number)) in record {
      slots = e.slot;
      size = ap length g ∙ length-set marks n.slot 1 ∙ h.size;
      few = omega (arith, n.number, n.few);
      shape = n.later;
      marked = n.marked small ∙ sym (append_assoc (take n.slot marks) (1 ∷ []) rest) ∙ ap (λ z. z ++ rest) (sym t);
      following = ap none_marked past ∙ none_further n.slot e.slot marks (omega (arith, n.number)) n.following;
    }

marks_none : (s : ℕ) (ss : SlotsTree) → marks_of s ss no_entries ≡ replicate (slot_count ss) 0
marks_none s no_slots = refl
marks_none s (slot_and spare_slot ss) = ap (λ x. 0 ∷ x) (marks_none (s + 1) ss)
marks_none s (slot_and (subitem name k) ss) = ap (λ x. 0 ∷ x) (marks_none (s + 1) ss)

-- the set is that of the entries, and so its least field is theirs
pub marks_ended : (ss : SlotsTree) (all marks : List ℕ) (left : List Entry) → MarksLeft ss all marks left → left ≡ [] → 1 ≤ slot_count ss → slot_count ss ≤ 126 → least_field marks ≡ least_presence (octets_needed (slot_count ss)) all
marks_ended ss all marks left h e some small =
    let n = slot_count ss in
    let left_count = slot_count (slots_after h.slots ss) in
    let count : h.slots + left_count ≡ n = count_after h.slots ss h.few in
    let zeros : marks_of (h.slots + 1) (slots_after h.slots ss) (entries_tree left) ≡ replicate left_count 0 =
    ap (λ es. marks_of (h.slots + 1) (slots_after h.slots ss) (entries_tree es)) e ∙ marks_none (h.slots + 1) (slots_after h.slots ss) in
    let tail : take left_count (drop h.slots marks) ≡ replicate left_count 0 = zeros_taken left_count (drop h.slots marks) h.following (omega (arith, h.size, length-drop h.slots marks)) in
    let whole : take n marks ≡ all =
    ap (λ k. take k marks) (sym count) ∙ take-add h.slots left_count marks ∙ ap (λ z. take h.slots marks ++ z) (tail ∙ sym zeros) ∙ sym h.marked in
    least_field_of n marks some small (none_further h.slots n marks (omega arith) h.following) ∙ ap (least_presence (octets_needed n)) whole
