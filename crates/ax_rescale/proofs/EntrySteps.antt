-- The entries of a compound converted one slot after another.
use Rattle.std.proofs.Common.{◌≡◌, ℕ, ◌+◌, ◌≤◌, ◌==◌, Bool, true, false, MatchBool, List, [], ◌∷◌, ◌++◌, length, refl, sym, ◌∙◌, ap, subst, arith}
use Rattle.std.proofs.lemmas.List.{append-nil, length-append}
use Rattle.std.proofs.lemmas.Bool.{eq-eqb, ne_eqb}
use Rattle.ax_format.proofs.RecordFitting.{entries_split}
use Rattle.ax_format.specs.Plain.{kind_tree, kind_step, slot_step, value_step, entry_step, slot_tree, slots_tree, value_tree, entry_tree, entries_tree}
use Rattle.ax_format.specs.Shape.{Shape, EntriesShape}
use Rattle.ax_format.specs.Tree.{KindTree, SlotTree, SlotsTree, no_slots, slot_and, spare_slot, subitem, ValueTree, EntriesTree, no_entries, entry_and}
use Rattle.ax_format.specs.declared.kind.Kind.{Kind}
use Rattle.ax_format.specs.declared.kind.Kind.TheOpen.{Slot-F}
use Rattle.ax_format.specs.declared.kind.Slot.{Slot, fold-roll-Slot}
use Rattle.ax_format.specs.declared.kind.Slot.TheVariants.{Spare, Sub, rolls-Spare, rolls-Sub}
use Rattle.ax_format.specs.declared.value.Entry.{Entry, fold_out-Entry}
use Rattle.ax_format.specs.declared.value.Value.{Value}
use Rattle.ax_rescale.specs.Converted.{Converted, EntriesConverted}
use Rattle.ax_rescale.specs.Scales.{SlotScaled, SlotsScaled}
use Rattle.ax_rescale.specs.SlotSteps.{SlotShape, entries_before, SlotStep, NoSlotStep}

entry_is : (e : Entry) → entry_tree e ≡ (e.slot, value_tree e.value)
entry_is e = fold_out-Entry ValueTree (ℕ × ValueTree) value_step entry_step e

-- ---- entries in front of others

before_both : (made more : List Entry) (y : EntriesTree) → entries_before made (entries_before more y) ≡ entries_before (made ++ more) y
before_both [] more y = refl
before_both (e ∷ es) more y = ap (entry_and (entry_tree e).0 (entry_tree e).1) (before_both es more y)

before_none : (made : List Entry) → entries_before made no_entries ≡ entries_tree made
before_none [] = refl
before_none (e ∷ es) = ap (entry_and (entry_tree e).0 (entry_tree e).1) (before_none es)

-- ---- one slot

pub stay_put : (made : List Entry) → made ≡ made ++ []
stay_put made = sym (append-nil made)

pub spare_step : (s : ℕ) (es made : List Entry) → SlotStep s spare_slot spare_slot (entries_tree es) (entries_tree es) made made
spare_step s es made = record {
  more = [];
  appended = stay_put made;
  few = omega arith;
  shape = λ ss h. h;
  on = λ ss ts y h. h;
  back = λ ss ts x h. (x, h);
}

pub spare_or_not : (s : ℕ) (name : List ℕ) (k : KindTree) (es : List Entry) → NoSlotStep s spare_slot (subitem name k) (entries_tree es)
spare_or_not s name k es ss ts x h = h

pub not_spare : (s : ℕ) (name : List ℕ) (k : KindTree) (es : List Entry) → NoSlotStep s (subitem name k) spare_slot (entries_tree es)
not_spare s name k [] ss ts x h = h
not_spare s name k (e ∷ es) ss ts x h = h

-- an entry is converted to one of the same slot, and no entries to none
same_slot : (s : ℕ) (ss ts : SlotsTree) (t : ℕ) (v : ValueTree) (es : EntriesTree) (u : ℕ) (x : ValueTree) (xs : EntriesTree) → EntriesConverted s ss ts (entry_and t v es) (entry_and u x xs) → u ≡ t
same_slot s (slot_and spare_slot ss) (slot_and spare_slot ts) t v es u x xs h = same_slot (s + 1) ss ts t v es u x xs h
same_slot s (slot_and (subitem name k) ss) (slot_and (subitem other l) ts) t v es u x xs h = h.0
same_slot s no_slots no_slots t v es u x xs h = absurd h
same_slot s no_slots (slot_and n ts) t v es u x xs h = absurd h
same_slot s (slot_and spare_slot ss) no_slots t v es u x xs h = absurd h
same_slot s (slot_and (subitem name k) ss) no_slots t v es u x xs h = absurd h
same_slot s (slot_and spare_slot ss) (slot_and (subitem other l) ts) t v es u x xs h = absurd h
same_slot s (slot_and (subitem name k) ss) (slot_and spare_slot ts) t v es u x xs h = absurd h

some_made : (s : ℕ) (ss ts : SlotsTree) (t : ℕ) (v : ValueTree) (es : EntriesTree) → EntriesConverted s ss ts (entry_and t v es) no_entries → ⊥
some_made s (slot_and spare_slot ss) (slot_and spare_slot ts) t v es h = some_made (s + 1) ss ts t v es h
some_made s (slot_and (subitem name k) ss) (slot_and (subitem other l) ts) t v es h = h
some_made s no_slots no_slots t v es h = h
some_made s no_slots (slot_and n ts) t v es h = h
some_made s (slot_and spare_slot ss) no_slots t v es h = h
some_made s (slot_and (subitem name k) ss) no_slots t v es h = h
some_made s (slot_and spare_slot ss) (slot_and (subitem other l) ts) t v es h = h
some_made s (slot_and (subitem name k) ss) (slot_and spare_slot ts) t v es h = h

none_made : (s : ℕ) (ss ts : SlotsTree) (u : ℕ) (x : ValueTree) (xs : EntriesTree) → EntriesConverted s ss ts no_entries (entry_and u x xs) → ⊥
none_made s (slot_and spare_slot ss) (slot_and spare_slot ts) u x xs h = none_made (s + 1) ss ts u x xs h
none_made s (slot_and (subitem name k) ss) (slot_and (subitem other l) ts) u x xs h = h
none_made s no_slots no_slots u x xs h = h
none_made s no_slots (slot_and n ts) u x xs h = h
none_made s (slot_and spare_slot ss) no_slots u x xs h = h
none_made s (slot_and (subitem name k) ss) no_slots u x xs h = h
none_made s (slot_and spare_slot ss) (slot_and (subitem other l) ts) u x xs h = h
none_made s (slot_and (subitem name k) ss) (slot_and spare_slot ts) u x xs h = h

chosen_true : (b : Bool) (P Q : Type 0) → b ≡ true → MatchBool b P Q → P
chosen_true true P Q e h = h
chosen_true false P Q e h = absurd (cc)

choose_true : (b : Bool) (P Q : Type 0) → b ≡ true → P → MatchBool b P Q
choose_true true P Q e h = h
choose_true false P Q e h = absurd (cc)

chosen_false : (b : Bool) (P Q : Type 0) → b ≡ false → MatchBool b P Q → Q
chosen_false false P Q e h = h
chosen_false true P Q e h = absurd (cc)

choose_false : (b : Bool) (P Q : Type 0) → b ≡ false → Q → MatchBool b P Q
choose_false false P Q e h = h
choose_false true P Q e h = absurd (cc)

module _ (s : ℕ) (name other : List ℕ) (k l : KindTree) where
  -- no entry is left
  none_left : (made : List Entry) → SlotStep s (subitem name k) (subitem other l) no_entries no_entries made made
  none_left made = record {
    more = [];
    appended = stay_put made;
    few = omega arith;
    shape = λ ss h. h;
    on = on;
    back = back;
  }
    where
      on : (ss ts : SlotsTree) (y : EntriesTree) → EntriesConverted (s + 1) ss ts no_entries y → EntriesConverted s (slot_and (subitem name k) ss) (slot_and (subitem other l) ts) no_entries y
      on ss ts no_entries h = h
      on ss ts (entry_and u x xs) h = absurd (none_made (s + 1) ss ts u x xs h)

      back : (ss ts : SlotsTree) (x : EntriesTree) → EntriesConverted s (slot_and (subitem name k) ss) (slot_and (subitem other l) ts) no_entries x → (y : EntriesTree) × EntriesConverted (s + 1) ss ts no_entries y
      back ss ts no_entries h = (no_entries, h)
      back ss ts (entry_and u x xs) h = absurd h

  -- the first entry is of a later slot
  of_later : (t : ℕ) (v : ValueTree) (es : EntriesTree) (made : List Entry) → (t == s) ≡ false → SlotStep s (subitem name k) (subitem other l) (entry_and t v es) (entry_and t v es) made made
  of_later t v es made e = record {
    more = [];
    appended = stay_put made;
    few = omega arith;
    shape = λ ss h. chosen_false (t == s) (Shape k v × EntriesShape (s + 1) ss es) (EntriesShape (s + 1) ss (entry_and t v es)) e h;
    on = on;
    back = back;
  }
    where
      on : (ss ts : SlotsTree) (y : EntriesTree) → EntriesConverted (s + 1) ss ts (entry_and t v es) y → EntriesConverted s (slot_and (subitem name k) ss) (slot_and (subitem other l) ts) (entry_and t v es) y
      on ss ts no_entries h = absurd (some_made (s + 1) ss ts t v es h)
      on ss ts (entry_and u x xs) h =
          (same_slot (s + 1) ss ts t v es u x xs h, choose_false (t == s) (Converted k l v x × EntriesConverted (s + 1) ss ts es xs) (EntriesConverted (s + 1) ss ts (entry_and t v es) (entry_and u x xs)) e h)

      back : (ss ts : SlotsTree) (x : EntriesTree) → EntriesConverted s (slot_and (subitem name k) ss) (slot_and (subitem other l) ts) (entry_and t v es) x → (y : EntriesTree) × EntriesConverted (s + 1) ss ts (entry_and t v es) y
      back ss ts no_entries h = absurd h
      back ss ts (entry_and u x xs) h = (entry_and u x xs, chosen_false (t == s) (Converted k l v x × EntriesConverted (s + 1) ss ts es xs) (EntriesConverted (s + 1) ss ts (entry_and t v es) (entry_and u x xs)) e h.1)

  -- the first entry is of this slot
  of_slot : (t : ℕ) (v : ValueTree) (es : EntriesTree) (made : List Entry) (one : Entry) → (t == s) ≡ true → (entry_tree one).0 ≡ t → Converted k l v (entry_tree one).1
      → SlotStep s (subitem name k) (subitem other l) (entry_and t v es) es made (made ++ one ∷ [])
  of_slot t v es made one e is c = record {
    more = one ∷ [];
    appended = refl;
    few = omega arith;
    shape = λ ss h. (chosen_true (t == s) (Shape k v × EntriesShape (s + 1) ss es) (EntriesShape (s + 1) ss (entry_and t v es)) e h).1;
    on = λ ss ts y h. (is, choose_true (t == s) (Converted k l v (entry_tree one).1 × EntriesConverted (s + 1) ss ts es y) (EntriesConverted (s + 1) ss ts (entry_and t v es) (entry_and (entry_tree one).0 (entry_tree one).1 y)) e (c, h));
    back = back;
  }
    where
      back : (ss ts : SlotsTree) (x : EntriesTree) → EntriesConverted s (slot_and (subitem name k) ss) (slot_and (subitem other l) ts) (entry_and t v es) x → (y : EntriesTree) × EntriesConverted (s + 1) ss ts es y
      back ss ts no_entries h = absurd h
      back ss ts (entry_and u x xs) h = (xs, (chosen_true (t == s) (Converted k l v x × EntriesConverted (s + 1) ss ts es xs) (EntriesConverted (s + 1) ss ts (entry_and t v es) (entry_and u x xs)) e h.1).1)

  not_of_slot : (t : ℕ) (v : ValueTree) (es : EntriesTree) → (t == s) ≡ true → ((x : ValueTree) → Converted k l v x → ⊥) → NoSlotStep s (subitem name k) (subitem other l) (entry_and t v es)
  not_of_slot t v es e none ss ts no_entries h = h
  not_of_slot t v es e none ss ts (entry_and u x xs) h =
      none x (chosen_true (t == s) (Converted k l v x × EntriesConverted (s + 1) ss ts es xs) (EntriesConverted (s + 1) ss ts (entry_and t v es) (entry_and u x xs)) e h.1).0

  -- ---- the same of the code's lists

  pub sub_empty : (es made : List Entry) → length es ≡ 0 → SlotStep s (subitem name k) (subitem other l) (entries_tree es) (entries_tree es) made made
  sub_empty [] made e = none_left made
  sub_empty (x ∷ es) made e = absurd (cc)

  pub sub_later : (es made : List Entry) (one : Entry) (later : List Entry) → es ≡ one ∷ later → (one.slot ≡ s → ⊥) → SlotStep s (subitem name k) (subitem other l) (entries_tree es) (entries_tree es) made made
  sub_later es made one later e ne =
      let P : EntriesTree → Type 0 = λ x. SlotStep s (subitem name k) (subitem other l) x x made made in
      subst P (sym (entries_split one es later e)) (of_later one.slot (value_tree one.value) (entries_tree later) made (ne_eqb one.slot s ne))

  pub sub_first : (es made : List Entry) (one : Entry) (later : List Entry) (value : Value) (now : List Entry) → es ≡ one ∷ later → one.slot ≡ s → Converted k l (value_tree one.value) (value_tree value)
      → now ≡ made ++ record { slot = one.slot; value = value } ∷ [] → SlotStep s (subitem name k) (subitem other l) (entries_tree es) (entries_tree later) made now
  sub_first es made one later value now e is c pushed =
      let new : Entry = record { slot = one.slot; value = value } in
      let P : EntriesTree → Type 0 = λ x. SlotStep s (subitem name k) (subitem other l) x (entries_tree later) made now in
      let Q : List Entry → Type 0 = λ x. SlotStep s (subitem name k) (subitem other l) (entry_and one.slot (value_tree one.value) (entries_tree later)) (entries_tree later) made x in
      let R : ValueTree → Type 0 = λ x. Converted k l (value_tree one.value) x in
      subst P (sym (entries_split one es later e)) (subst Q (sym pushed)
      (of_slot one.slot (value_tree one.value) (entries_tree later) made new (eq-eqb one.slot s is) (ap (λ p. p.0) (entry_is new)) (subst R (sym (ap (λ p. p.1) (entry_is new))) c)))

  pub sub_none : (es : List Entry) (one : Entry) (later : List Entry) → es ≡ one ∷ later → one.slot ≡ s → ((x : ValueTree) → Converted k l (value_tree one.value) x → ⊥) → NoSlotStep s (subitem name k) (subitem other l) (entries_tree es)
  sub_none es one later e is none =
      let P : EntriesTree → Type 0 = λ x. NoSlotStep s (subitem name k) (subitem other l) x in
      subst P (sym (entries_split one es later e)) (not_of_slot one.slot (value_tree one.value) (entries_tree later) (eq-eqb one.slot s is) none)

  pub sub_ready : (es : List Entry) (one : Entry) (later : List Entry) → es ≡ one ∷ later → one.slot ≡ s → SlotShape s (subitem name k) (entries_tree es) → Shape k (value_tree one.value)
  sub_ready es one later e is h =
      let P : EntriesTree → Type 0 = λ x. SlotShape s (subitem name k) x in
      chosen_true (one.slot == s) (Shape k (value_tree one.value)) (Unit {0}) (eq-eqb one.slot s is) (subst P (entries_split one es later e) h)

-- ---- the code's slots

pub spare_is : (slot : Slot) → slot ≡ Spare → slot_tree slot ≡ spare_slot
spare_is slot e = ap slot_tree e ∙ ap slot_tree (sym rolls-Spare) ∙ fold-roll-Slot KindTree SlotTree kind_step slot_step Slot-F.Spare

pub sub_is : (slot : Slot) (name : List ℕ) (k : Kind) → slot ≡ Sub name k → slot_tree slot ≡ subitem name (kind_tree k)
sub_is slot name k e = ap slot_tree e ∙ ap slot_tree (sym (rolls-Sub name k)) ∙ fold-roll-Slot KindTree SlotTree kind_step slot_step (Slot-F.Sub name k)

pub step_as : (s : ℕ) (a b c d : SlotTree) (es left : EntriesTree) (made now : List Entry) → a ≡ c → b ≡ d → SlotStep s c d es left made now → SlotStep s a b es left made now
step_as s a b c d es left made now p q h =
    let P : SlotTree → Type 0 = λ x. SlotStep s x d es left made now in
    let Q : SlotTree → Type 0 = λ x. SlotStep s a x es left made now in subst Q (sym q) (subst P (sym p) h)

pub none_as : (s : ℕ) (a b c d : SlotTree) (es : EntriesTree) → a ≡ c → b ≡ d → NoSlotStep s c d es → NoSlotStep s a b es
none_as s a b c d es p q h =
    let P : SlotTree → Type 0 = λ x. NoSlotStep s x d es in
    let Q : SlotTree → Type 0 = λ x. NoSlotStep s a x es in subst Q (sym q) (subst P (sym p) h)

pub shape_as : (s : ℕ) (a c : SlotTree) (es : EntriesTree) → a ≡ c → SlotShape s a es → SlotShape s c es
shape_as s a c es p h = let P : SlotTree → Type 0 = λ x. SlotShape s x es in subst P p h

pub ruleset slot_steps = (spare_step, spare_or_not, not_spare, sub_empty, sub_later, sub_first, sub_none, sub_ready)

-- ---- slots one after another

pub record EntriesGo (ss ts : SlotsTree) (es : EntriesTree) (made : List Entry) (s : ℕ) (olds news : List Slot) (rest : List Entry) : Type 0 where
  old_scales : SlotsScaled (slots_tree olds)
  new_scales : SlotsScaled (slots_tree news)
  shape : EntriesShape s (slots_tree olds) (entries_tree rest)
  on : (y : EntriesTree) → EntriesConverted s (slots_tree olds) (slots_tree news) (entries_tree rest) y → EntriesConverted 1 ss ts es (entries_before made y)
  back : (x : EntriesTree) → EntriesConverted 1 ss ts es x → (y : EntriesTree) × EntriesConverted s (slots_tree olds) (slots_tree news) (entries_tree rest) y

pub entries_start : (ss ts : List Slot) (es : List Entry) → SlotsScaled (slots_tree ss) → SlotsScaled (slots_tree ts) → EntriesShape 1 (slots_tree ss) (entries_tree es) → EntriesGo (slots_tree ss) (slots_tree ts) (entries_tree es) [] 1 ss ts es
entries_start ss ts es a b c = record { old_scales = a; new_scales = b; shape = c; on = λ y h. h; back = λ x h. (x, h) }

first_shape : (s : ℕ) (m : SlotTree) (ss : SlotsTree) (es : EntriesTree) → EntriesShape s (slot_and m ss) es → SlotShape s m es
first_shape s spare_slot ss es h = tt
first_shape s (subitem name k) ss no_entries h = tt
first_shape s (subitem name k) ss (entry_and t v es) h = by (t == s) h
  where
    by : (b : Bool) → MatchBool b (Shape k v × EntriesShape (s + 1) ss es) (EntriesShape (s + 1) ss (entry_and t v es)) → MatchBool b (Shape k v) (Unit {0})
    by true h = h.0
    by false h = tt

module _ (ss ts : SlotsTree) (es : EntriesTree) (made : List Entry) (s : ℕ) (m n : Slot) (later others olds news : List Slot) (rest : List Entry)
    (g : EntriesGo ss ts es made s olds news rest) (ea : olds ≡ m ∷ later) (eb : news ≡ n ∷ others) where
  opened : EntriesGo ss ts es made s (m ∷ later) (n ∷ others) rest
  opened =
      let P : List Slot → Type 0 = λ x. EntriesGo ss ts es made s x news rest in
      let Q : List Slot → Type 0 = λ x. EntriesGo ss ts es made s (m ∷ later) x rest in subst Q eb (subst P ea g)

  pub slot_ready : SlotScaled (slot_tree m) × (SlotScaled (slot_tree n) × SlotShape s (slot_tree m) (entries_tree rest))
  slot_ready = (opened.old_scales.0, (opened.new_scales.0, first_shape s (slot_tree m) (slots_tree later) (entries_tree rest) opened.shape))

  pub slot_made : (left now : List Entry) → SlotStep s (slot_tree m) (slot_tree n) (entries_tree rest) (entries_tree left) made now → EntriesGo ss ts es now (s + 1) later others left
  slot_made left now step = record {
    old_scales = opened.old_scales.1;
    new_scales = opened.new_scales.1;
    shape = step.shape (slots_tree later) opened.shape;
    on = λ y h. subst (λ x. EntriesConverted 1 ss ts es x) (before_both made step.more y ∙ ap (λ x. entries_before x y) (sym step.appended)) (opened.on (entries_before step.more y) (step.on (slots_tree later) (slots_tree others) y h));
    back = λ x h. let q = opened.back x h in step.back (slots_tree later) (slots_tree others) q.0 q.1;
  }

  pub slot_none : NoSlotStep s (slot_tree m) (slot_tree n) (entries_tree rest) → (x : EntriesTree) → EntriesConverted 1 ss ts es x → ⊥
  slot_none none x h = let q = opened.back x h in none (slots_tree later) (slots_tree others) q.0 q.1

fewer : (s : ℕ) (m : SlotTree) (ss : SlotsTree) (es y : EntriesTree) → EntriesConverted s (slot_and m ss) no_slots es y → ⊥
fewer s spare_slot ss es y h = h
fewer s (subitem name k) ss es y h = h

more_slots : (s : ℕ) (n : SlotTree) (ts : SlotsTree) (es y : EntriesTree) → EntriesConverted s no_slots (slot_and n ts) es y → ⊥
more_slots s n ts es y h = h

pub entries_all : (ss ts : SlotsTree) (es : EntriesTree) (made : List Entry) (s : ℕ) (olds news : List Slot) (rest : List Entry) → EntriesGo ss ts es made s olds news rest → olds ≡ [] → length news ≡ 0 → EntriesConverted 1 ss ts es (entries_tree made)
entries_all ss ts es made s [] [] [] g e f = subst (λ x. EntriesConverted 1 ss ts es x) (before_none made) (g.on no_entries tt)
entries_all ss ts es made s [] [] (x ∷ rest) g e f = absurd g.shape
entries_all ss ts es made s [] (n ∷ news) rest g e f = absurd (cc)
entries_all ss ts es made s (m ∷ olds) news rest g e f = absurd (cc)

pub no_slot_left : (ss ts : SlotsTree) (es : EntriesTree) (made : List Entry) (s : ℕ) (m : Slot) (later olds news : List Slot) (rest : List Entry) → EntriesGo ss ts es made s olds news rest
    → olds ≡ m ∷ later → length news ≡ 0 → (x : EntriesTree) → EntriesConverted 1 ss ts es x → ⊥
no_slot_left ss ts es made s m later [] news rest g ea e x h = absurd (cc)
no_slot_left ss ts es made s m later (a ∷ olds) [] rest g ea e x h = let q = g.back x h in fewer s (slot_tree a) (slots_tree olds) (entries_tree rest) q.0 q.1
no_slot_left ss ts es made s m later (a ∷ olds) (b ∷ news) rest g ea e x h = absurd (cc)

pub slots_too_many : (ss ts : SlotsTree) (es : EntriesTree) (made : List Entry) (s : ℕ) (olds news : List Slot) (rest : List Entry) → EntriesGo ss ts es made s olds news rest
    → olds ≡ [] → (length news ≡ 0 → ⊥) → (x : EntriesTree) → EntriesConverted 1 ss ts es x → ⊥
slots_too_many ss ts es made s [] [] rest g ea ne x h = ne refl
slots_too_many ss ts es made s [] (b ∷ news) rest g ea ne x h = let q = g.back x h in more_slots s (slot_tree b) (slots_tree news) (entries_tree rest) q.0 q.1
slots_too_many ss ts es made s (a ∷ olds) news rest g ea ne x h = absurd (cc)

-- a slot makes one entry more at most
pub one_more : (s : ℕ) (old new : SlotTree) (es left : EntriesTree) (made now : List Entry) (i : ℕ) → length made ≤ i → SlotStep s old new es left made now → length now ≤ i + 1
one_more s old new es left made now i within step = omega (arith, within, ap length step.appended, length-append made step.more, step.few)
