-- Occurrences, contents and entries that are written one after the other.
use Rattle.std.proofs.Common.{◌≡◌, ℕ, suc, ◌+◌, ◌-◌, ◌*◌, ◌<◌, ◌≤◌, List, [], ◌∷◌, ◌++◌, length, drop, get_or, set, refl, sym, ◌∙◌, ap, arith, subst, length-append, add-one, drop-cons}
use Rattle.std.proofs.lemmas.List.{drop_all}
use Rattle.ax_bits.proofs.Outputs.{appends_more}
use Rattle.ax_bits.proofs.Words.{length-word}
use Rattle.ax_bits.specs.Bits.{word}
use Rattle.ax_bits.specs.Out.{Appends, room}
use Rattle.ax_bits.specs.declared.output.Out.{Out}
use Rattle.ax_fspec.specs.Fields.{least_field}
use Rattle.ax_fspec.specs.Marks.{no_marks}
use Rattle.ax_format.specs.Canonical.{canon, each_canon, marks_of, entries_canon}
use Rattle.ax_format.specs.Lengths.{slot_kind}
use Rattle.ax_format.specs.Plain.{value_tree, values_tree, entries_tree}
use Rattle.ax_format.specs.Presence.{octets_needed, least_presence}
use Rattle.ax_format.specs.Shape.{Shape, EachShape}
use Rattle.ax_format.specs.Tree.{KindTree, value_count, SlotsTree, slot_count}
use Rattle.ax_format.specs.declared.value.Entry.{Entry}
use Rattle.ax_format.specs.declared.value.Value.{Value}
use Rattle.ax_values.proofs.NextEntry.{EntriesLeft, entries_first, entry_shape, entry_room, entries_next, entries_ended, MarksLeft, marks_first, mark_within, marks_next, marks_ended}
use Rattle.ax_values.proofs.Written.{written_none, written_more, written_all, written_room, first_room}
use Rattle.ax_values.specs.Writing.{IsWrittenTo, EntryShape, entry_canon, AreEntriesOf}
use Rattle.ax_format.specs.Widths.{counter_octets, counter_width}
use Rattle.ax_format.specs.declared.kind.Counter.{Counter}
use Rattle.ax_format.proofs.WholeOctets.{counter_in_octets}

pub from_place : {X : Type 0} (xs : List X) (i : ℕ) (x : X) → i < length xs → x ≡ get_or xs i x → drop i xs ≡ x ∷ drop (i + 1) xs
from_place xs i x lt e = drop-cons xs i x lt ∙ (λ k. sym e k ∷ drop (sym (add-one i) k) xs)

-- ---- values by one kind

pub record EachLeft (k : KindTree) (old now : Out) (whole : List ℕ) (vs : List Value) : Type 0 where
  pub shape : EachShape (Shape k) (values_tree vs)
  pub written : IsWrittenTo old now whole (each_canon (canon k) (values_tree vs))

pub each_first : (k : KindTree) (out : Out) (vs : List Value) → EachShape (Shape k) (values_tree vs) → EachLeft k out out (each_canon (canon k) (values_tree vs)) vs
each_first k out vs h = record { shape = h; written = written_none out (each_canon (canon k) (values_tree vs)) }

each_here : (k : KindTree) (old now : Out) (whole : List ℕ) (all : List Value) (i : ℕ) (v : Value) → EachLeft k old now whole (drop i all) → i < length all → v ≡ get_or all i v → EachLeft k old now whole (v ∷ drop (i + 1) all)
each_here k old now whole all i v h lt e = subst (λ vs. EachLeft k old now whole vs) (from_place all i v lt e) h

pub each_shape : (k : KindTree) (old now : Out) (whole : List ℕ) (all : List Value) (i : ℕ) (v : Value) → EachLeft k old now whole (drop i all) → i < length all → v ≡ get_or all i v → Shape k (value_tree v)
each_shape k old now whole all i v h lt e = (each_here k old now whole all i v h lt e).shape.0

pub each_room : (k : KindTree) (old now : Out) (whole : List ℕ) (all : List Value) (i : ℕ) (v : Value) → EachLeft k old now whole (drop i all) → i < length all → v ≡ get_or all i v → length whole ≤ room old → length (canon k (value_tree v)) ≤ room now
each_room k old now whole all i v h lt e le =
    let rest = each_canon (canon k) (values_tree (drop (i + 1) all)) in
    first_room (canon k (value_tree v)) rest (canon k (value_tree v) ++ rest) (room now) refl (written_room old now whole (canon k (value_tree v) ++ rest) (each_here k old now whole all i v h lt e).written le)

pub each_next : (k : KindTree) (old now new : Out) (whole : List ℕ) (all : List Value) (i : ℕ) (v : Value) → EachLeft k old now whole (drop i all) → i < length all → v ≡ get_or all i v → Appends now new (canon k (value_tree v)) → EachLeft k old new whole (drop (i + 1) all)
each_next k old now new whole all i v h lt e a =
    let t = each_here k old now whole all i v h lt e in
    let rest = each_canon (canon k) (values_tree (drop (i + 1) all)) in
    record { shape = t.shape.1; written = written_more old now new whole (canon k (value_tree v) ++ rest) (canon k (value_tree v)) rest t.written refl a }

pub each_ended : (k : KindTree) (old now : Out) (whole : List ℕ) (all : List Value) (i : ℕ) → EachLeft k old now whole (drop i all) → length all ≤ i → Appends old now whole
each_ended k old now whole all i h past = written_all old now whole (each_canon (canon k) (values_tree (drop i all))) h.written (ap (λ vs. each_canon (canon k) (values_tree vs)) (drop_all i all past))

-- ---- counts and contents

pub count_of : (vs : List Value) → value_count (values_tree vs) ≡ length vs
count_of [] = refl
count_of (v ∷ vs) = ap suc (count_of vs)

-- an octet, and what is after it
pub octet_and : (old mid new : Out) (n m : ℕ) (rest : List ℕ) → n ≡ m → Appends old mid (word 8 n) → Appends mid new rest → Appends old new (word 8 m ++ rest)
octet_and old mid new n m rest e a b = subst (λ n. Appends old new (word 8 n ++ rest)) e (appends_more old mid new (word 8 n) rest (word 8 n ++ rest) refl a b)

-- a counter, and what is after it
pub count_and : (size : Counter) (old mid new : Out) (n : ℕ) (rest : List ℕ) → Appends old mid (word (8 * counter_octets size) n) → Appends mid new rest → Appends old new (word (counter_width size) n ++ rest)
count_and size old mid new n rest a b =
    appends_more old mid new (word (counter_width size) n) rest (word (counter_width size) n ++ rest) refl (subst (λ w. Appends old mid (word w n)) (sym (counter_in_octets size)) a) b

pub rest_room : (old new : Out) (n m : ℕ) (rest : List ℕ) → length (word 8 n ++ rest) ≤ room old → Appends old new (word 8 m) → length rest ≤ room new
rest_room old new n m rest le a = omega (arith, length-append (word 8 n) rest, length-word 8 n, length-word 8 m, a.room)

-- ---- entries

pub left_first : (ss : SlotsTree) (out : Out) (es : List Entry) → AreEntriesOf ss (entries_tree es) → EntriesLeft ss out out (entries_canon 1 ss (entries_tree es)) es
left_first ss out es h = entries_first ss out es h.shape

pub left_shape : (ss : SlotsTree) (old now : Out) (whole : List ℕ) (all : List Entry) (i : ℕ) (e : Entry) → EntriesLeft ss old now whole (drop i all) → i < length all → e ≡ get_or all i e → AreEntriesOf ss (entries_tree all)
    → EntryShape (slot_kind ss e.slot) (value_tree e.value)
left_shape ss old now whole all i e h lt is of = entry_shape ss old now whole (drop i all) (drop (i + 1) all) e h (from_place all i e lt is) of.bounds

pub left_room : (ss : SlotsTree) (old now : Out) (whole : List ℕ) (all : List Entry) (i : ℕ) (e : Entry) → EntriesLeft ss old now whole (drop i all) → i < length all → e ≡ get_or all i e → length whole ≤ room old
    → length (entry_canon (slot_kind ss e.slot) (value_tree e.value)) ≤ room now
left_room ss old now whole all i e h lt is le = entry_room ss old now whole (drop i all) (drop (i + 1) all) e h (from_place all i e lt is) le

pub left_next : (ss : SlotsTree) (old now new : Out) (whole : List ℕ) (all : List Entry) (i : ℕ) (e : Entry) → EntriesLeft ss old now whole (drop i all) → i < length all → e ≡ get_or all i e
    → Appends now new (entry_canon (slot_kind ss e.slot) (value_tree e.value)) → EntriesLeft ss old new whole (drop (i + 1) all)
left_next ss old now new whole all i e h lt is a = entries_next ss old now new whole (drop i all) (drop (i + 1) all) e h (from_place all i e lt is) a

pub left_ended : (ss : SlotsTree) (old now : Out) (whole : List ℕ) (all : List Entry) (i : ℕ) → EntriesLeft ss old now whole (drop i all) → length all ≤ i → Appends old now whole
left_ended ss old now whole all i h past = entries_ended ss old now whole (drop i all) h (drop_all i all past)

-- ---- their marks, under whatever slots they are entries of

pub record MarksOf (all : List Entry) (i : ℕ) (marks : List ℕ) : Type 0 where
  pub under : (ss : SlotsTree) → AreEntriesOf ss (entries_tree all) → MarksLeft ss (marks_of 1 ss (entries_tree all)) marks (drop i all)

pub marks_more : (all : List Entry) (i : ℕ) (e : Entry) (marks new : List ℕ) → MarksOf all i marks → i < length all → e ≡ get_or all i e → new ≡ set marks (e.slot - 1) 1 → MarksOf all (i + 1) new
marks_more all i e marks new h lt is f = record {
  under = λ ss of. marks_next ss (marks_of 1 ss (entries_tree all)) marks new (drop i all) (drop (i + 1) all) e (h.under ss of) (from_place all i e lt is) of.few f;
}

pub mark_fits : (all : List Entry) (i : ℕ) (e : Entry) (marks : List ℕ) (ss : SlotsTree) → AreEntriesOf ss (entries_tree all) → MarksOf all i marks → i < length all → e ≡ get_or all i e → (1 ≤ e.slot) × (e.slot ≤ 126)
mark_fits all i e marks ss of h lt is = mark_within ss (marks_of 1 ss (entries_tree all)) marks (drop i all) (drop (i + 1) all) e (h.under ss of) (from_place all i e lt is) of.few

pub marks_all : (all : List Entry) (i : ℕ) (marks : List ℕ) → MarksOf all i marks → length all ≤ i → (ss : SlotsTree) → AreEntriesOf ss (entries_tree all) → least_field marks ≡ least_presence (octets_needed (slot_count ss)) (marks_of 1 ss (entries_tree all))
marks_all all i marks h past ss of = marks_ended ss (marks_of 1 ss (entries_tree all)) marks (drop i all) (h.under ss of) (drop_all i all past) of.some of.few

pub marks_of_none : (all : List Entry) → MarksOf all 0 no_marks
marks_of_none all = record { under = λ ss of. marks_first ss all of.shape }
