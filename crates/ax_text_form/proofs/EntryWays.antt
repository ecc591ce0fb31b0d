-- The entries of a compound or a record, one after the other, by the slots of their numbers.
use Rattle.std.proofs.Common.{◌≡◌, ℕ, zero, suc, ◌+◌, ◌<◌, ◌≤◌, ◌==◌, Bool, true, false, cond, MatchBool, List, [], ◌∷◌, ◌++◌, ◌-◌, length, drop, get_or, slice_get, refl, sym, ◌∙◌, ap, subst, arith}
use Rattle.std.proofs.lemmas.Bool.{eqb-true}
use Rattle.std.proofs.lemmas.List.{drop_all}
use Rattle.std.specs.Option.{option_map}
use Rattle.ax_format.proofs.RecordFitting.{entries_split}
use Rattle.ax_format.specs.Plain.{slot_tree, slots_tree, value_tree, entries_tree}
use Rattle.ax_format.specs.Shape.{EntriesShape}
use Rattle.ax_format.specs.Tree.{KindTree, SlotTree, SlotsTree, no_slots, slot_and, spare_slot, subitem, ValueTree, EntriesTree, no_entries, entry_and}
use Rattle.ax_format.specs.declared.kind.Slot.{Slot}
use Rattle.ax_format.specs.declared.value.Entry.{Entry}
use Rattle.ax_text_form.specs.Printing.{Puts}
use Rattle.ax_text_form.specs.Slots.{slot_after, slot_numbered, or_spare, SlotShape, slot_onto}
use Rattle.ax_text_form.specs.ValueText.{Texts, entries_onto}
use Rattle.ax_text_form.proofs.Printed.{none_put, both_put, Leaves, leaves_all, leaves_fewer, leaves_none, from_place}

-- ---- entries by the slots of their numbers

abbrev pub OfSlot : Type 0
OfSlot = SlotTree → ValueTree → Texts → Texts

abbrev pub OfEntries : Type 0
OfEntries = ℕ → SlotsTree → EntriesTree → Texts → Texts

abbrev pub by_slots : OfSlot → (ℕ → SlotTree) → EntriesTree → Texts → Texts
by_slots one at no_entries rest = rest
by_slots one at (entry_and t v es) rest = one (at t) v (by_slots one at es rest)

-- the texts of entries are made of those of each, slot by slot
pub record IsMadeOf (all : OfEntries) (one : OfSlot) : Type 0 where
  pub none : (s : ℕ) (rest : Texts) → all s no_slots no_entries rest ≡ rest
  pub skip : (s : ℕ) (ss : SlotsTree) (es : EntriesTree) (rest : Texts) → all s (slot_and spare_slot ss) es rest ≡ all (s + 1) ss es rest
  pub last : (s : ℕ) (name : List ℕ) (k : KindTree) (ss : SlotsTree) (rest : Texts) → all s (slot_and (subitem name k) ss) no_entries rest ≡ all (s + 1) ss no_entries rest
  pub take : (s : ℕ) (name : List ℕ) (k : KindTree) (ss : SlotsTree) (t : ℕ) (v : ValueTree) (es : EntriesTree) (rest : Texts) → all s (slot_and (subitem name k) ss) (entry_and t v es) rest
      ≡ cond (t == s) (one (subitem name k) v (all (s + 1) ss es rest)) (all (s + 1) ss (entry_and t v es) rest)

pub texts_made : IsMadeOf entries_onto slot_onto
texts_made = record { none = λ s rest. refl; skip = λ s ss es rest. refl; last = λ s name k ss rest. refl; take = λ s name k ss t v es rest. refl }

abbrev pub EachSlotShape : (ℕ → SlotTree) → EntriesTree → Type 0
EachSlotShape at no_entries = Unit {0}
EachSlotShape at (entry_and t v es) = SlotShape (at t) v × EachSlotShape at es

-- the slots from number s on are these
abbrev AreFrom : (ℕ → SlotTree) → ℕ → SlotsTree → Type 0
AreFrom at s ss = (i : ℕ) → at (s + i) ≡ slot_after i ss

next_are : (at : ℕ → SlotTree) (s : ℕ) (slot : SlotTree) (ss : SlotsTree) → AreFrom at s (slot_and slot ss) → AreFrom at (s + 1) ss
next_are at s slot ss h i = ap at (let e : (s + 1) + i ≡ s + suc i = omega arith in e) ∙ h (suc i)

first_is : (at : ℕ → SlotTree) (s t : ℕ) (slot : SlotTree) (ss : SlotsTree) → AreFrom at s (slot_and slot ss) → t ≡ s → at t ≡ slot
first_is at s t slot ss h e = ap at (let f : t ≡ s + 0 = omega (arith, e) in f) ∙ h 0

same_choice : (b : Bool) (S T : Type 0) (p q r : Texts) → MatchBool b S T → (b ≡ true → S → p ≡ r) → (T → q ≡ r) → cond b p q ≡ r
same_choice true S T p q r h f g = f refl h
same_choice false S T p q r h f g = g h

shape_choice : (b : Bool) (S T E : Type 0) → MatchBool b S T → (b ≡ true → S → E) → (T → E) → E
shape_choice true S T E h f g = f refl h
shape_choice false S T E h f g = g h

pub entries_same : (all : OfEntries) (one : OfSlot) → IsMadeOf all one → (at : ℕ → SlotTree) (s : ℕ) (ss : SlotsTree) (es : EntriesTree) (rest : Texts) → AreFrom at s ss → EntriesShape s ss es → all s ss es rest ≡ by_slots one at es rest
entries_same all one m at s no_slots no_entries rest f h = m.none s rest
entries_same all one m at s no_slots (entry_and t v es) rest f h = absurd h
entries_same all one m at s (slot_and spare_slot ss) es rest f h = m.skip s ss es rest ∙ entries_same all one m at (s + 1) ss es rest (next_are at s spare_slot ss f) h
entries_same all one m at s (slot_and (subitem name k) ss) no_entries rest f h = m.last s name k ss rest ∙ entries_same all one m at (s + 1) ss no_entries rest (next_are at s (subitem name k) ss f) h
entries_same all one m at s (slot_and (subitem name k) ss) (entry_and t v es) rest f h =
    m.take s name k ss t v es rest
    ∙ same_choice (t == s) _ _ _ _ _ h
    (λ e g. ap (λ r. one (subitem name k) v r) (entries_same all one m at (s + 1) ss es rest (next_are at s (subitem name k) ss f) g.1)
    ∙ ap (λ slot. one slot v (by_slots one at es rest)) (sym (first_is at s t (subitem name k) ss f (eqb-true t s e))))
    (λ g. entries_same all one m at (s + 1) ss (entry_and t v es) rest (next_are at s (subitem name k) ss f) g)

entries_shaped : (at : ℕ → SlotTree) (s : ℕ) (ss : SlotsTree) (es : EntriesTree) → AreFrom at s ss → EntriesShape s ss es → EachSlotShape at es
entries_shaped at s no_slots no_entries f h = tt
entries_shaped at s no_slots (entry_and t v es) f h = absurd h
entries_shaped at s (slot_and spare_slot ss) es f h = entries_shaped at (s + 1) ss es (next_are at s spare_slot ss f) h
entries_shaped at s (slot_and (subitem name k) ss) no_entries f h = tt
entries_shaped at s (slot_and (subitem name k) ss) (entry_and t v es) f h =
    shape_choice (t == s) _ _ _ h
    (λ e g. (subst (λ slot. SlotShape slot v) (sym (first_is at s t (subitem name k) ss f (eqb-true t s e))) g.0, entries_shaped at (s + 1) ss es (next_are at s (subitem name k) ss f) g.1))
    (λ g. entries_shaped at (s + 1) ss (entry_and t v es) (next_are at s (subitem name k) ss f) g)

pub numbered : (ss : SlotsTree) → AreFrom (slot_numbered ss) 1 ss
numbered ss i = ap (slot_numbered ss) (let e : 1 + i ≡ suc i = omega arith in e)

-- ---- a loop over entries

-- entries that are left, each of the shape of its slot
pub record EntriesLeft (form : Texts → List ℕ) (one : OfSlot) (ss : SlotsTree) (whole : Texts → Texts) (old now : List ℕ) (es : List Entry) : Type 0 where
  pub shape : EachSlotShape (slot_numbered ss) (entries_tree es)
  pub left : Leaves form whole (by_slots one (slot_numbered ss) (entries_tree es)) old now

pub entries_first : (form : Texts → List ℕ) (all : OfEntries) (one : OfSlot) → IsMadeOf all one → (ss : SlotsTree) (es : List Entry) (out : List ℕ) → EntriesShape 1 ss (entries_tree es) → EntriesLeft form one ss (all 1 ss (entries_tree es)) out out es
entries_first form all one m ss es out h = record {
  shape = entries_shaped (slot_numbered ss) 1 ss (entries_tree es) (numbered ss) h;
  left = record { left_after = λ rest. ap (λ t. out ++ form t) (sym (entries_same all one m (slot_numbered ss) 1 ss (entries_tree es) rest (numbered ss) h)) };
}

pub entry_tree_first : (e : Entry) (es : List Entry) → entries_tree (e ∷ es) ≡ entry_and e.slot (value_tree e.value) (entries_tree es)
entry_tree_first e es = entries_split e (e ∷ es) es refl

-- the tree of the entries from a place on
from_entry : (all : List Entry) (i : ℕ) (e : Entry) → i < length all → e ≡ get_or all i e → entries_tree (drop i all) ≡ entry_and e.slot (value_tree e.value) (entries_tree (drop (i + 1) all))
from_entry all i e lt is = ap entries_tree (from_place all i e lt is) ∙ entry_tree_first e (drop (i + 1) all)

module _ (form : Texts → List ℕ) (one : OfSlot) (ss : SlotsTree) (whole : Texts → Texts) where
  pub entry_shape : (old now : List ℕ) (all : List Entry) (i : ℕ) (e : Entry) → EntriesLeft form one ss whole old now (drop i all) → i < length all → e ≡ get_or all i e → SlotShape (slot_numbered ss e.slot) (value_tree e.value)
  entry_shape old now all i e h lt is = (subst (EachSlotShape (slot_numbered ss)) (from_entry all i e lt is) h.shape).0

  pub entry_next : (old now new : List ℕ) (all : List Entry) (i : ℕ) (e : Entry) → EntriesLeft form one ss whole old now (drop i all) → i < length all → e ≡ get_or all i e
      → Puts form (one (slot_numbered ss e.slot) (value_tree e.value)) now new → EntriesLeft form one ss whole old new (drop (i + 1) all)
  entry_next old now new all i e h lt is p = record {
    shape = (subst (EachSlotShape (slot_numbered ss)) (from_entry all i e lt is) h.shape).1;
    left = leaves_fewer whole (by_slots one (slot_numbered ss) (entries_tree (drop i all))) (one (slot_numbered ss e.slot) (value_tree e.value)) (by_slots one (slot_numbered ss) (entries_tree (drop (i + 1) all))) old now new h.left
        (λ rest. ap (λ es. by_slots one (slot_numbered ss) es rest) (from_entry all i e lt is)) p;
  }

  pub entries_ended : (old now : List ℕ) (all : List Entry) (i : ℕ) → EntriesLeft form one ss whole old now (drop i all) → length all ≤ i → Puts form whole old now
  entries_ended old now all i h past =
      leaves_none whole (by_slots one (slot_numbered ss) (entries_tree (drop i all))) old now h.left (λ rest. ap (λ es. by_slots one (slot_numbered ss) (entries_tree es) rest) (drop_all i all past))

pub ruleset entries_ways = (entry_shape, entry_next, entries_ended)

-- ---- one entry

pub ruleset entry_ways = (none_put, both_put)

-- ---- slots by their numbers

pub slot_at : (ss : List Slot) (i : ℕ) → or_spare (option_map slot_tree (slice_get ss i)) ≡ slot_after i (slots_tree ss)
slot_at [] i = refl
slot_at (s ∷ ss) zero = refl
slot_at (s ∷ ss) (suc i) = slot_at ss i

pub slot_of_number : (ss : List Slot) (n : ℕ) → 0 < n → or_spare (option_map slot_tree (slice_get ss (n - 1))) ≡ slot_numbered (slots_tree ss) n
slot_of_number ss zero h = absurd (omega arith)
slot_of_number ss (suc n) h = ap (λ m. or_spare (option_map slot_tree (slice_get ss m))) (let e : suc n - 1 ≡ n = omega arith in e) ∙ slot_at ss n

pub ruleset slot_found = slot_of_number
