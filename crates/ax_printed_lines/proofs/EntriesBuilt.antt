-- Entries that are built, slot by slot, and their marks.
use Rattle.std.proofs.Common.{◌≡◌, ℕ, zero, suc, ◌+◌, ◌-◌, ◌<◌, ◌≤◌, Bool, true, false, cond, IsTrue, List, [], ◌∷◌, ◌++◌, length, take, drop, set, get_or, replicate, refl, sym, ◌∙◌, ap, subst, arith, append_assoc, append-nil, take-add, length-drop}
use Rattle.std.specs.Prelude.{◌==◌, MatchBool}
use Rattle.std.proofs.lemmas.Bool.{eq-eqb, eqb-true, ne_eqb}
use Rattle.std.proofs.lemmas.List.{drop_more, take_more_set, drop-set-lt, length-set, length-replicate}
use Rattle.ax_printed_lines.specs.declared.laid.LaidBits.{LaidBits}
use Rattle.ax_text_form.proofs.Onto.{kind_more}
use Rattle.ax_fspec.proofs.FieldLaws.{least_field_of, none_further}
use Rattle.ax_fspec.specs.Fields.{least_field}
use Rattle.ax_fspec.specs.Marks.{no_marks}
use Rattle.ax_fspec.proofs.Sets.{none_of_no_marks}
use Rattle.ax_format.specs.Canonical.{canon, marks_of, entries_canon}
use Rattle.ax_format.specs.InBounds.{SlotsInBounds}
use Rattle.ax_format.specs.Presence.{octets_needed, none_marked, least_presence}
use Rattle.ax_format.specs.Shape.{Shape, EntriesShape}
use Rattle.ax_format.specs.Tree.{SlotTree, spare_slot, subitem, SlotsTree, no_slots, slot_and, slot_count, ValueTree, EntriesTree, no_entries, entry_and}
use Rattle.ax_text_form.specs.Slots.{SlotShape, slot_onto}
use Rattle.ax_text_form.specs.ValueText.{closing, kind_onto, entries_onto}
use Rattle.ax_printed_lines.specs.Printed.{Place, Goes, IsBuilt, AreSlots, BuildsSlot, HasMarks, slot_canon}
use Rattle.ax_printed_lines.proofs.Building.{Partly, partly_first, partly_more, partly_as, partly_done, built_bare, built_as}
use Rattle.ax_printed_lines.proofs.Going.{less_left}

-- ---- entries of later slots

above_case : (b : Bool) (s t : ℕ) (S T : Type 0) → (t == s) ≡ b → MatchBool b S T → (T → s + 1 ≤ t) → s ≤ t
above_case true s t S T e g next = omega (arith, eqb-true t s e)
above_case false s t S T e g next = omega (arith, next g)

first_above : (s : ℕ) (ss : SlotsTree) (t : ℕ) (v : ValueTree) (es : EntriesTree) → EntriesShape s ss (entry_and t v es) → s ≤ t
first_above s no_slots t v es h = absurd h
first_above s (slot_and spare_slot ss) t v es h = let more : s + 1 ≤ t = first_above (s + 1) ss t v es h in omega (arith, more)
first_above s (slot_and (subitem name k) ss) t v es h = above_case (t == s) s t _ _ refl h (λ g. first_above (s + 1) ss t v es g)

not_slot : (s : ℕ) (ss : SlotsTree) (t : ℕ) (v : ValueTree) (es : EntriesTree) → EntriesShape (s + 1) ss (entry_and t v es) → (t == s) ≡ false
not_slot s ss t v es h = ne_eqb t s (λ e. absurd (omega (arith, first_above (s + 1) ss t v es h, e)))

-- the entries are none of the first slot
pub record PassesSlot (s : ℕ) (slot : SlotTree) (ss : SlotsTree) (es : EntriesTree) : Type 0 where
  pub shape : EntriesShape s (slot_and slot ss) es
  pub texts : entries_onto s (slot_and slot ss) es (closing ∷ []) ≡ entries_onto (s + 1) ss es (closing ∷ [])
  pub bits : entries_canon s (slot_and slot ss) es ≡ entries_canon (s + 1) ss es
  pub marks : marks_of s (slot_and slot ss) es ≡ 0 ∷ marks_of (s + 1) ss es

passes : (s : ℕ) (slot : SlotTree) (ss : SlotsTree) (es : EntriesTree) → EntriesShape (s + 1) ss es → PassesSlot s slot ss es
passes s spare_slot ss es h = record { shape = h; texts = refl; bits = refl; marks = refl }
passes s (subitem name k) ss no_entries h = record { shape = h; texts = refl; bits = refl; marks = refl }
passes s (subitem name k) ss (entry_and t v es) h =
    let other = not_slot s ss t v es h in record {
      shape = subst (λ b. MatchBool b (Shape k v × EntriesShape (s + 1) ss es) (EntriesShape (s + 1) ss (entry_and t v es))) (sym other) h;
      texts = ap (λ b. cond b (name ∷ kind_onto k v (entries_onto (s + 1) ss es (closing ∷ []))) (entries_onto (s + 1) ss (entry_and t v es) (closing ∷ []))) other;
      bits = ap (λ b. cond b (canon k v ++ entries_canon (s + 1) ss es) (entries_canon (s + 1) ss (entry_and t v es))) other;
      marks = ap (λ b. cond b (1 ∷ marks_of (s + 1) ss es) (0 ∷ marks_of (s + 1) ss (entry_and t v es))) other;
    }

-- ---- an entry of the first slot

pub record TakesSlot (s : ℕ) (slot : SlotTree) (ss : SlotsTree) (v : ValueTree) (es : EntriesTree) : Type 0 where
  pub shape : EntriesShape s (slot_and slot ss) (entry_and s v es)
  pub texts : entries_onto s (slot_and slot ss) (entry_and s v es) (closing ∷ []) ≡ slot_onto slot v [] ++ entries_onto (s + 1) ss es (closing ∷ [])
  pub bits : entries_canon s (slot_and slot ss) (entry_and s v es) ≡ slot_canon slot v ++ entries_canon (s + 1) ss es
  pub marks : marks_of s (slot_and slot ss) (entry_and s v es) ≡ 1 ∷ marks_of (s + 1) ss es

taken : (s : ℕ) (slot : SlotTree) (ss : SlotsTree) (v : ValueTree) (es : EntriesTree) → SlotShape slot v → EntriesShape (s + 1) ss es → TakesSlot s slot ss v es
taken s spare_slot ss v es h k = absurd h
taken s (subitem name kind) ss v es h k =
    let same : (s == s) ≡ true = eq-eqb s s refl in record {
      shape = subst (λ b. MatchBool b (Shape kind v × EntriesShape (s + 1) ss es) (EntriesShape (s + 1) ss (entry_and s v es))) (sym same) (h, k);
      texts = ap (λ b. cond b (name ∷ kind_onto kind v (entries_onto (s + 1) ss es (closing ∷ []))) (entries_onto (s + 1) ss (entry_and s v es) (closing ∷ []))) same ∙ ap (λ t. name ∷ t) (sym (kind_more kind v [] (entries_onto (s + 1) ss es (closing ∷ []))));
      bits = ap (λ b. cond b (canon kind v ++ entries_canon (s + 1) ss es) (entries_canon (s + 1) ss (entry_and s v es))) same;
      marks = ap (λ b. cond b (1 ∷ marks_of (s + 1) ss es) (0 ∷ marks_of (s + 1) ss (entry_and s v es))) same;
    }

-- ---- what is left of the slots

-- entries of all the slots whose marks are these
abbrev WithMarks : SlotsTree → ℕ → List ℕ → EntriesTree → Type 0
WithMarks ss s marks es = EntriesShape s ss es × (marks_of s ss es ≡ marks)

pub record EntriesLeft (all : SlotsTree) (marks : List ℕ) (i : ℕ) (ss : SlotsTree) (old now : Place) (before after : LaidBits) : Type 0 where
  pub built : (whole more : List ℕ) → whole ≡ take i marks ++ more
      → Partly (WithMarks all 1 whole) (λ es. entries_onto 1 all es (closing ∷ [])) (entries_canon 1 all) (WithMarks ss (i + 1) more) (λ es. entries_onto (i + 1) ss es (closing ∷ [])) (entries_canon (i + 1) ss) old now before after
  pub size : length marks ≡ 126
  pub following : IsTrue (none_marked (drop i marks))
  pub bounds : SlotsInBounds ss
  pub count : i + slot_count ss ≡ slot_count all
  pub few : slot_count all ≤ 126
  pub some : 0 < slot_count all

pub entries_first : (ss : SlotsTree) (marks : List ℕ) (old : Place) (out : LaidBits) → AreSlots ss → marks ≡ no_marks → EntriesLeft ss marks 0 ss old old out out
unfolding no_marks
entries_first ss marks old out h e = record {
  built = λ whole more is. (
      subst (λ l. Partly (WithMarks ss 1 l) (λ es. entries_onto 1 ss es (closing ∷ [])) (entries_canon 1 ss) (WithMarks ss 1 more) (λ es. entries_onto 1 ss es (closing ∷ [])) (entries_canon 1 ss) old old out out) (sym is)
      (partly_first (WithMarks ss 1 more) (λ es. entries_onto 1 ss es (closing ∷ [])) (entries_canon 1 ss) old out)
      );
  size = ap length e ∙ length-replicate {A = ℕ} 126 0;
  following = subst (λ m. IsTrue (none_marked m)) (sym e) none_of_no_marks;
  bounds = h.2;
  count = omega arith;
  few = h.1;
  some = h.0;
}

zeros_taken : (n : ℕ) (ms : List ℕ) → IsTrue (none_marked ms) → n ≤ length ms → take n ms ≡ replicate n 0
zeros_taken zero ms h le = refl
zeros_taken (suc n) [] h le = absurd (omega arith)
zeros_taken (suc n) (zero ∷ ms) h le = ap (λ x. 0 ∷ x) (zeros_taken n ms h (omega arith))
zeros_taken (suc n) (suc m ∷ ms) h le = cc

bounds_and : (slot : SlotTree) (ss : SlotsTree) → SlotsInBounds (slot_and slot ss) → SlotsInBounds (slot_and slot no_slots) × SlotsInBounds ss
bounds_and spare_slot ss h = (tt, h)
bounds_and (subitem name k) ss h = ((h.0, tt), h.1)

module _ (all : SlotsTree) (i : ℕ) (slot : SlotTree) (ss here : SlotsTree) (is : here ≡ slot_and slot ss) where
  pub slot_bounds : (marks : List ℕ) (old now : Place) (before after : LaidBits) → EntriesLeft all marks i here old now before after → SlotsInBounds (slot_and slot no_slots)
  slot_bounds marks old now before after l = (bounds_and slot ss (subst SlotsInBounds is l.bounds)).0

  pub slot_few : (marks : List ℕ) (old now : Place) (before after : LaidBits) → EntriesLeft all marks i here old now before after → i + 1 ≤ 126
  slot_few marks old now before after l = let n : slot_count here ≡ suc (slot_count ss) = ap slot_count is in omega (arith, l.count, l.few, n)

  pub entry_passed : (marks : List ℕ) (old now : Place) (before after : LaidBits) → EntriesLeft all marks i here old now before after → EntriesLeft all marks (i + 1) ss old now before after
  entry_passed marks old now before after h =
      let l : EntriesLeft all marks i (slot_and slot ss) old now before after = subst (λ z. EntriesLeft all marks i z old now before after) is h in
      let n : slot_count here ≡ suc (slot_count ss) = ap slot_count is in
      let zero_next : take (i + 1) marks ≡ take i marks ++ 0 ∷ [] = take-add i 1 marks ∙ ap (λ z. take i marks ++ z) (zeros_taken 1 (drop i marks) l.following (omega (arith, l.size, length-drop i marks, l.count, l.few))) in
      record {
        built = λ whole more e. (
            partly_as (WithMarks all 1 whole) (λ es. entries_onto 1 all es (closing ∷ [])) (entries_canon 1 all) (WithMarks (slot_and slot ss) (i + 1) (0 ∷ more)) (λ es. entries_onto (i + 1) (slot_and slot ss) es (closing ∷ [])) (entries_canon (i + 1) (slot_and slot ss))
            (WithMarks ss (i + 1 + 1) more) (λ es. entries_onto (i + 1 + 1) ss es (closing ∷ [])) (entries_canon (i + 1 + 1) ss) old now before after
            (l.built whole (0 ∷ more) (e ∙ ap (λ z. z ++ more) zero_next ∙ append_assoc (take i marks) (0 ∷ []) more))
            (λ es k. (let p = passes (i + 1) slot ss es k.0 in (es, (p.shape, p.marks ∙ ap (λ z. 0 ∷ z) k.1), p.texts, p.bits)))
            );
        size = l.size;
        following = none_further i (i + 1) marks (omega arith) l.following;
        bounds = (bounds_and slot ss l.bounds).1;
        count = omega (arith, l.count);
        few = l.few;
        some = l.some;
      }

  pub entry_taken : (marks new : List ℕ) (old now next : Place) (before mid after : LaidBits) → EntriesLeft all marks i here old now before mid → new ≡ set marks (i + 1 - 1) 1 → IsBuilt (SlotShape slot) (λ v. slot_onto slot v []) (slot_canon slot) now next mid after → EntriesLeft all new (i + 1) ss old next before after
  entry_taken marks new old now next before mid after h f b =
      let l : EntriesLeft all marks i (slot_and slot ss) old now before mid = subst (λ z. EntriesLeft all marks i z old now before mid) is h in
      let g : new ≡ set marks i 1 = f ∙ ap (λ k. set marks k 1) (let z : i + 1 - 1 ≡ i = omega arith in z) in
      let t : take (i + 1) new ≡ take i marks ++ 1 ∷ [] = ap (take (i + 1)) g ∙ take_more_set marks i 1 (omega (arith, l.size, l.count, l.few)) in
      let past : drop (i + 1) new ≡ drop (i + 1) marks = ap (drop (i + 1)) g ∙ drop-set-lt (i + 1) marks i 1 (omega arith) in
      record {
        built = λ whole more e. (
            partly_more (WithMarks all 1 whole) (λ es. entries_onto 1 all es (closing ∷ [])) (entries_canon 1 all) (WithMarks (slot_and slot ss) (i + 1) (1 ∷ more)) (λ es. entries_onto (i + 1) (slot_and slot ss) es (closing ∷ [])) (entries_canon (i + 1) (slot_and slot ss))
            (SlotShape slot) (λ v. slot_onto slot v []) (slot_canon slot) (WithMarks ss (i + 1 + 1) more) (λ es. entries_onto (i + 1 + 1) ss es (closing ∷ [])) (entries_canon (i + 1 + 1) ss) old now next before mid after
            (l.built whole (1 ∷ more) (e ∙ ap (λ z. z ++ more) t ∙ append_assoc (take i marks) (1 ∷ []) more)) b
            (λ v es k j. (let p = taken (i + 1) slot ss v es k j.0 in (entry_and (i + 1) v es, (p.shape, p.marks ∙ ap (λ z. 1 ∷ z) j.1), p.texts, p.bits)))
            );
        size = ap length g ∙ length-set marks i 1 ∙ l.size;
        following = subst (λ m. IsTrue (none_marked m)) (sym past) (none_further i (i + 1) marks (omega arith) l.following);
        bounds = (bounds_and slot ss l.bounds).1;
        count = omega (arith, l.count);
        few = l.few;
        some = l.some;
      }

pub entries_done : (all : SlotsTree) (marks : List ℕ) (i : ℕ) (here : SlotsTree) (old now new : Place) (before after : LaidBits) → here ≡ no_slots → EntriesLeft all marks i here old now before after → Goes now new (closing ∷ [])
    → IsBuilt (HasMarks all marks) (λ es. entries_onto 1 all es (closing ∷ [])) (entries_canon 1 all) old new before after
entries_done all marks i here old now new before after is h g =
    let l : EntriesLeft all marks i no_slots old now before after = subst (λ z. EntriesLeft all marks i z old now before after) is h in
    let whole = take i marks in
    let count : slot_count all ≡ i = omega (arith, l.count) in
    let least : least_field marks ≡ least_presence (octets_needed (slot_count all)) whole =
    least_field_of (slot_count all) marks (omega (arith, l.some)) l.few (none_further i (slot_count all) marks (omega (arith, count)) l.following) ∙ ap (λ n. least_presence (octets_needed (slot_count all)) (take n marks)) count in
    built_as (WithMarks all 1 whole) (λ es. entries_onto 1 all es (closing ∷ [])) (entries_canon 1 all) (HasMarks all marks) (λ es. entries_onto 1 all es (closing ∷ [])) (entries_canon 1 all) old new before after
    (partly_done (WithMarks all 1 whole) (λ es. entries_onto 1 all es (closing ∷ [])) (entries_canon 1 all) (WithMarks no_slots (i + 1) []) (λ es. entries_onto (i + 1) no_slots es (closing ∷ [])) (entries_canon (i + 1) no_slots) old now new before after after
    (l.built whole [] (sym (append-nil whole)))
    (built_bare (WithMarks no_slots (i + 1) []) (λ es. entries_onto (i + 1) no_slots es (closing ∷ [])) (entries_canon (i + 1) no_slots) no_entries now new after (tt, refl) g refl))
    (λ es k. (es, (k.0, least ∙ ap (least_presence (octets_needed (slot_count all))) (sym k.1)), refl, refl))

-- slots up to a later one are passed
module _ {X : Type 0} (all : SlotsTree) (one : X → SlotTree) (tree : List X → SlotsTree) (first : (x : X) (xs : List X) → tree (x ∷ xs) ≡ slot_and (one x) (tree xs)) (list : List X) (d : X) (marks : List ℕ) (old now : Place) (before after : LaidBits) where
  pub slot_there : (i : ℕ) → i < length list → tree (drop i list) ≡ slot_and (one (get_or list i d)) (tree (drop (i + 1) list))
  slot_there i lt = ap tree (drop_more list i d lt) ∙ first (get_or list i d) (drop (i + 1) list)

  passed_over : (n i : ℕ) → i + n ≤ length list → EntriesLeft all marks i (tree (drop i list)) old now before after → EntriesLeft all marks (i + n) (tree (drop (i + n) list)) old now before after
  passed_over zero i le h = subst (λ k. EntriesLeft all marks k (tree (drop k list)) old now before after) (let e : i ≡ i + 0 = omega arith in e) h
  passed_over (suc n) i le h =
      let next : EntriesLeft all marks (i + 1) (tree (drop (i + 1) list)) old now before after = entry_passed all i (one (get_or list i d)) (tree (drop (i + 1) list)) (tree (drop i list)) (slot_there i (omega (arith, le))) marks old now before after h in
      subst (λ k. EntriesLeft all marks k (tree (drop k list)) old now before after) (let e : i + 1 + n ≡ i + suc n = omega arith in e) (passed_over n (i + 1) (omega (arith, le)) next)

  pub passed_to : (i j : ℕ) → i ≤ j → j ≤ length list → EntriesLeft all marks i (tree (drop i list)) old now before after → EntriesLeft all marks j (tree (drop j list)) old now before after
  passed_to i j le within h =
      let e : i + (j - i) ≡ j = omega (arith, le) in
      subst (λ k. EntriesLeft all marks k (tree (drop k list)) old now before after) e (passed_over (j - i) i (omega (arith, e, within)) h)

-- the later slots are all passed, where the brace comes
all_passed : (all : SlotsTree) (ss : SlotsTree) (i : ℕ) (marks : List ℕ) (old now : Place) (before after : LaidBits) → EntriesLeft all marks i ss old now before after → (j : ℕ) × EntriesLeft all marks j no_slots old now before after
all_passed all no_slots i marks old now before after h = (i, h)
all_passed all (slot_and slot ss) i marks old now before after h = all_passed all ss (i + 1) marks old now before after (entry_passed all i slot ss (slot_and slot ss) refl marks old now before after h)

pub entries_ended : (all : SlotsTree) (marks : List ℕ) (i : ℕ) (here : SlotsTree) (old now new : Place) (before after : LaidBits) → EntriesLeft all marks i here old now before after → Goes now new (closing ∷ [])
    → IsBuilt (HasMarks all marks) (λ es. entries_onto 1 all es (closing ∷ [])) (entries_canon 1 all) old new before after
entries_ended all marks i here old now new before after h g =
    let l = all_passed all here i marks old now before after h in entries_done all marks l.0 no_slots old now new before after refl l.1 g

pub entries_less : (all : SlotsTree) (marks : List ℕ) (i : ℕ) (here : SlotsTree) (old now : Place) (before after : LaidBits) → EntriesLeft all marks i here old now before after → length now.left ≤ length old.left
entries_less all marks i here old now before after l = let p = l.built (take i marks) [] (sym (append-nil (take i marks))) in less_left old now p.front p.goes

-- what a call for the slot gives, by whether its name came
pub entry_passed_by : (slot : SlotTree) (came : Bool) (now next : Place) (mid after : LaidBits) → came ≡ false → BuildsSlot slot came now next mid after → (next ≡ now) × (after ≡ mid)
entry_passed_by slot came now next mid after e h = subst (λ b. BuildsSlot slot b now next mid after) e h

pub entry_taken_by : (slot : SlotTree) (came : Bool) (now next : Place) (mid after : LaidBits) → came ≡ true → BuildsSlot slot came now next mid after → IsBuilt (SlotShape slot) (λ v. slot_onto slot v []) (slot_canon slot) now next mid after
entry_taken_by slot came now next mid after e h = subst (λ b. BuildsSlot slot b now next mid after) e h
