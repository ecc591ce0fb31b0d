-- The entries of marked slots, one after the other.
use Rattle.std.proofs.Common.{◌≡◌, ℕ, zero, suc, ◌+◌, ◌-◌, ◌*◌, ◌<◌, ◌≤◌, List, [], ◌∷◌, ◌++◌, length, drop, map, get_or, refl, sym, ◌∙◌, ap, arith, subst, length-append, add-one, drop-cons, Result, Ok, Err, IfOk, IfErr}
use Rattle.std.proofs.lemmas.List.{drop_all, length-map}
use Rattle.ax_bits.specs.Bits.{bits, AreBits}
use Rattle.ax_fspec.specs.Fields.{MarksSlots}
use Rattle.ax_fspec.specs.Marks.{IsMarked}
use Rattle.ax_fspec.specs.declared.mask.SlotMask.{SlotMask}
use Rattle.ax_format.specs.Reader.{got, after, both, read, entries_read, mark_read}
use Rattle.ax_format.specs.Plain.{entry_tree, entries_tree, slot_tree}
use Rattle.ax_format.specs.declared.kind.Slot.{Slot}
use Rattle.ax_format.specs.Presence.{first_mark, later_marks}
use Rattle.ax_format.specs.Tree.{EntriesTree, SlotTree, SlotsTree, compound, marked, spare_slot, subitem, slots_of, slot_and, no_entries, entry_and}
use Rattle.ax_format.specs.declared.value.Entry.{Entry}
use Rattle.ax_fspec.proofs.Continuing.{begins, goes_on, gets_after, front_is}
use Rattle.ax_values.proofs.Continuing.{failed_after}
use Rattle.ax_values.proofs.Onto.{entries_onto, entries_onto_none, entries_onto_more}
use Rattle.ax_fspec.specs.Reading.{Gets, FailsAt, Continues, IsMaskOf, kind_read, entries_at}
use Rattle.ax_values.specs.SlotReading.{HasFailed, Adds, IsSlotRead, HasSlotFailed}
use Rattle.ax_values.specs.declared.error.DecodeError.{DecodeError}
use Rattle.ax_fspec.proofs.Marking.{mark_at, later_at, later_bits, first_below, field_read, marks_bits, marks_end, slot_in_bounds}

-- the entries of the slots before place i are read, up to octet here
pub record EntriesSoFar (slots : List SlotTree) (marks body : List ℕ) (i at here : ℕ) (made : List Entry) : Type 0 where
  pub within : here ≤ length body
  pub few : length made ≤ i
  pub are_bits : AreBits (drop i marks)
  pub read : Continues (entries_at (slots_of slots) marks body at) at here (entries_onto (map entry_tree made)) (entries_read (i + 1) (slots_of (drop i slots)) (drop i marks) (bits (drop here body)))

pub entries_begin : (slots : List SlotTree) (marks body : List ℕ) (at : ℕ) → AreBits marks → at ≤ length body → EntriesSoFar slots marks body 0 at at []
unfolding entries_at
entries_begin slots marks body at bit le = record { within = le; few = omega arith; are_bits = bit; read = begins (entries_read 1 (slots_of slots) marks (bits (drop at body))) at }

pub slots_at : (slots : List SlotTree) (i : ℕ) (s : SlotTree) → i < length slots → s ≡ get_or slots i s → slots_of (drop i slots) ≡ slot_and s (slots_of (drop (i + 1) slots))
slots_at slots i s lt e = ap slots_of (drop-cons slots i s lt) ∙ (λ k. slot_and (sym e k) (slots_of (drop (sym (add-one i) k) slots)))

-- what is read at a slot
at_slot : (slots : List SlotTree) (marks body : List ℕ) (i at here : ℕ) (made : List Entry) (s : SlotTree) (bit : ℕ) → EntriesSoFar slots marks body i at here made → i < length slots → s ≡ get_or slots i s
    → Continues (entries_at (slots_of slots) marks body at) at here (entries_onto (map entry_tree made)) (entries_read (i + 1) (slot_and s (slots_of (drop (i + 1) slots))) (drop i marks) (bits (drop here body)))
at_slot slots marks body i at here made s bit h lt e =
    subst (λ ss. Continues (entries_at (slots_of slots) marks body at) at here (entries_onto (map entry_tree made)) (entries_read (i + 1) ss (drop i marks) (bits (drop here body)))) (slots_at slots i s lt e) h.read

-- a slot that isn't marked
pub entries_skip : (slots : List SlotTree) (marks body : List ℕ) (i number at here : ℕ) (made : List Entry) (s : SlotTree) → EntriesSoFar slots marks body i at here made → i < length slots → s ≡ get_or slots i s → number ≡ i + 1
    → (IsMarked marks number → ⊥) → EntriesSoFar slots marks body (i + 1) at here made
entries_skip slots marks body i number at here made s h lt e n clear =
    let ss = slots_of (drop (i + 1) slots) in
    let b = bits (drop here body) in
    let zero_mark : first_mark (drop i marks) ≡ 0 = unmarked (first_mark (drop i marks)) (first_below (drop i marks) h.are_bits) (λ one. clear (omega arith, ap (λ k. get_or marks k 0) (let z : number - 1 ≡ i = omega arith in z) ∙ sym (mark_at marks i) ∙ one)) in
    let step : entries_read (i + 1) (slot_and s ss) (drop i marks) b ≡ entries_read (i + 1 + 1) ss (later_marks (drop i marks)) b = skip s (i + 1) ss (drop i marks) b zero_mark in record {
      within = h.within;
      few = omega (arith, h.few);
      are_bits = subst AreBits (later_at marks i) (later_bits (drop i marks) h.are_bits);
      read = subst (λ r. Continues (entries_at (slots_of slots) marks body at) at here (entries_onto (map entry_tree made)) r) (step ∙ ap (λ ms. entries_read (i + 1 + 1) ss ms b) (later_at marks i))
          (at_slot slots marks body i at here made s 0 h lt e);
    }
  where
    unmarked : (m : ℕ) → m < 2 → (m ≡ 1 → ⊥) → m ≡ 0
    unmarked zero lt clear = refl
    unmarked (suc zero) lt clear = absurd (clear refl)
    unmarked (suc (suc m)) lt clear = absurd (omega arith)

    skip : (s : SlotTree) (n : ℕ) (ss : SlotsTree) (ms b : List ℕ) → first_mark ms ≡ 0 → entries_read n (slot_and s ss) ms b ≡ entries_read (n + 1) ss (later_marks ms) b
    skip spare_slot n ss ms b z = refl
    skip (subitem name k) n ss ms b z = ap (λ m. mark_read m n (read k) (entries_read (n + 1) ss (later_marks ms)) b) z

-- a marked slot, whose entry was read
pub entries_more : (slots : List SlotTree) (marks body : List ℕ) (i number at here end : ℕ) (made new : List Entry) (s : SlotTree) → EntriesSoFar slots marks body i at here made → i < length slots → s ≡ get_or slots i s → number ≡ i + 1
    → IsMarked marks number → IsSlotRead s number body here end made new → here ≤ length body → EntriesSoFar slots marks body (i + 1) at end new
unfolding kind_read
entries_more slots marks body i number at here end made new spare_slot h lt e n one g le =
    let ss = slots_of (drop (i + 1) slots) in
    let same : end ≡ here = g.adds.0 in
    let old : new ≡ made = g.adds.1 in
    let r : EntriesSoFar slots marks body (i + 1) at here made = record {
      within = h.within;
      few = omega (arith, h.few);
      are_bits = subst AreBits (later_at marks i) (later_bits (drop i marks) h.are_bits);
      read = subst (λ ms. Continues (entries_at (slots_of slots) marks body at) at here (entries_onto (map entry_tree made)) (entries_read (i + 1 + 1) ss ms (bits (drop here body)))) (later_at marks i)
          (at_slot slots marks body i at here made spare_slot 0 h lt e);
    } in subst (λ end. EntriesSoFar slots marks body (i + 1) at end new) (sym same) (subst (λ new. EntriesSoFar slots marks body (i + 1) at here new) (sym old) r)
entries_more slots marks body i number at here end made new (subitem name k) h lt e n one g le =
    let ss = slots_of (drop (i + 1) slots) in
    let add : Adds k number body here end made new = g.adds in
    let b = bits (drop here body) in
    let is_one : first_mark (drop i marks) ≡ 1 = mark_at marks i ∙ ap (λ k. get_or marks k 0) (let z : i ≡ number - 1 = omega arith in z) ∙ one.1 in
    let go = entries_read (i + 1 + 1) ss (later_marks (drop i marks)) in
    let step : entries_read (i + 1) (slot_and (subitem name k) ss) (drop i marks) b ≡ after (8 * (end - here)) (λ es. entry_and (i + 1) add.value es) (go (bits (drop end body))) =
    ap (λ m. mark_read m (i + 1) (read k) go b) is_one ∙ ap (λ r. both (λ v es. entry_and (i + 1) v es) r go) add.read.got in
    let next : go (bits (drop end body)) ≡ entries_read (i + 1 + 1) ss (drop (i + 1) marks) (bits (drop end body)) = ap (λ ms. entries_read (i + 1 + 1) ss ms (bits (drop end body))) (later_at marks i) in
    let trees : map entry_tree new ≡ map entry_tree made ++ (i + 1, add.value) ∷ [] = add.entries ∙ ap (λ k. map entry_tree made ++ (k, add.value) ∷ []) n in record {
      within = add.read.within;
      few = omega (arith, h.few, ap length trees, length-append (map entry_tree made) ((i + 1, add.value) ∷ []), length-map made entry_tree, length-map new entry_tree);
      are_bits = subst AreBits (later_at marks i) (later_bits (drop i marks) h.are_bits);
      read = front_is (entries_at (slots_of slots) marks body at) (entries_read (i + 1 + 1) ss (drop (i + 1) marks) (bits (drop end body))) at end
          (λ es. entries_onto (map entry_tree made) (entry_and (i + 1) add.value es)) (entries_onto (map entry_tree new))
          (λ es. sym (entries_onto_more (map entry_tree made) (i + 1) add.value es) ∙ ap (λ t. entries_onto t es) (sym trees))
          (goes_on (entries_at (slots_of slots) marks body at) (entries_read (i + 1) (slot_and (subitem name k) ss) (drop i marks) b) (entries_read (i + 1 + 1) ss (drop (i + 1) marks) (bits (drop end body))) at here end
          (entries_onto (map entry_tree made)) (λ es. entry_and (i + 1) add.value es) (at_slot slots marks body i at here made (subitem name k) 1 h lt e)
          (record { forwards = add.read.forwards; same = step ∙ ap (after (8 * (end - here)) (λ es. entry_and (i + 1) add.value es)) next }));
    }

pub entries_failed : (slots : List SlotTree) (marks body : List ℕ) (i number at here : ℕ) (made : List Entry) (s : SlotTree) (e : DecodeError) → EntriesSoFar slots marks body i at here made → i < length slots → s ≡ get_or slots i s → number ≡ i + 1
    → IsMarked marks number → HasSlotFailed s body here e → HasFailed (entries_at (slots_of slots) marks body at) at e
unfolding kind_read
entries_failed slots marks body i number at here made spare_slot e h lt is n one g = absurd g.failed
entries_failed slots marks body i number at here made (subitem name k) e h lt is n one g =
    let ss = slots_of (drop (i + 1) slots) in
    let b = bits (drop here body) in
    let is_one : first_mark (drop i marks) ≡ 1 = mark_at marks i ∙ ap (λ k. get_or marks k 0) (let z : i ≡ number - 1 = omega arith in z) ∙ one.1 in
    let go = entries_read (i + 1 + 1) ss (later_marks (drop i marks)) in
    let inner : HasFailed (kind_read k body here) here e = g.failed in
    failed_after (entries_at (slots_of slots) marks body at) (entries_read (i + 1) (slot_and (subitem name k) ss) (drop i marks) b) at here (entries_onto (map entry_tree made)) e
    (at_slot slots marks body i at here made (subitem name k) 1 h lt is)
    (record {
      met = λ fault same. (let t : FailsAt (read k b) here fault = inner.met fault same in record {
        place = t.place;
        failed = ap (λ m. mark_read m (i + 1) (read k) go b) is_one ∙ ap (λ r. both (λ v es. entry_and (i + 1) v es) r go) t.failed;
        bit = t.bit;
      });
    })

pub entries_all : (slots : List SlotTree) (marks body : List ℕ) (i at here : ℕ) (made : List Entry) → EntriesSoFar slots marks body i at here made → length slots ≤ i → Gets (entries_at (slots_of slots) marks body at) body at here (entries_tree made)
entries_all slots marks body i at here made h past =
    let r = entries_read (i + 1) (slots_of (drop i slots)) (drop i marks) (bits (drop here body)) in
    let none : r ≡ got no_entries 0 (bits (drop here body)) = ap (λ ss. entries_read (i + 1) (slots_of ss) (drop i marks) (bits (drop here body))) (drop_all i slots past) in
    subst (λ es. Gets (entries_at (slots_of slots) marks body at) body at here es) (entries_onto_none (map entry_tree made))
    (gets_after (entries_at (slots_of slots) marks body at) r body at here here (entries_onto (map entry_tree made)) no_entries h.read
    (record { forwards = omega arith; within = h.within; got = none ∙ ap (λ m. got no_entries m (bits (drop here body))) (let e : 0 ≡ 8 * (here - here) = omega arith in e) }))

pub entries_few : (all : List Slot) (marks body : List ℕ) (i at here : ℕ) (made : List Entry) → EntriesSoFar (map slot_tree all) marks body i at here made → i < length all → length all ≤ 126 → length made < 126
entries_few all marks body i at here made h lt few = omega (arith, h.few)

pub entries_within : (all : List Slot) (marks body : List ℕ) (i at here : ℕ) (made : List Entry) → EntriesSoFar (map slot_tree all) marks body i at here made → here ≤ length body
entries_within all marks body i at here made h = h.within

pub ruleset at_slots = (slot_in_bounds, entries_few, entries_within)

-- ---- a compound: its field, and its entries

pub compound_gets : (slots : List SlotTree) (mask : SlotMask) (body marks : List ℕ) (at here end : ℕ) (es : EntriesTree) → IsMaskOf slots mask → MarksSlots mask body at here marks → Gets (entries_at (slots_of slots) marks body here) body here end es
    → Gets (kind_read (compound (slots_of slots)) body at) body at end (marked es)
compound_gets slots mask body marks at here end es m h g =
    gets_after (kind_read (compound (slots_of slots)) body at) (entries_at (slots_of slots) marks body here) body at here end (λ es. marked es) es (field_read slots mask body marks at here m h) g

pub compound_failed : (slots : List SlotTree) (mask : SlotMask) (body marks : List ℕ) (at here : ℕ) (e : DecodeError) → IsMaskOf slots mask → MarksSlots mask body at here marks → HasFailed (entries_at (slots_of slots) marks body here) here e
    → HasFailed (kind_read (compound (slots_of slots)) body at) at e
compound_failed slots mask body marks at here e m h g =
    failed_after (kind_read (compound (slots_of slots)) body at) (entries_at (slots_of slots) marks body here) at here (λ es. marked es) e (field_read slots mask body marks at here m h) g

-- the same, of a call's result
pub ok_gets : (slots : List SlotTree) (mask : SlotMask) (body marks : List ℕ) (at here : ℕ) (r : Result (List Entry × ℕ) DecodeError) → IsMaskOf slots mask → MarksSlots mask body at here marks
    → IfOk r (λ r. Gets (entries_at (slots_of slots) marks body here) body here r.1 (entries_tree r.0)) → IfOk r (λ r. Gets (kind_read (compound (slots_of slots)) body at) body at r.1 (marked (entries_tree r.0)))
ok_gets slots mask body marks at here (Ok r) m h g = compound_gets slots mask body marks at here r.1 (entries_tree r.0) m h g
ok_gets slots mask body marks at here (Err e) m h g = g

pub err_failed : (slots : List SlotTree) (mask : SlotMask) (body marks : List ℕ) (at here : ℕ) (r : Result (List Entry × ℕ) DecodeError) → IsMaskOf slots mask → MarksSlots mask body at here marks
    → IfErr r (λ e. HasFailed (entries_at (slots_of slots) marks body here) here e) → IfErr r (λ e. HasFailed (kind_read (compound (slots_of slots)) body at) at e)
err_failed slots mask body marks at here (Ok r) m h g = g
err_failed slots mask body marks at here (Err e) m h g = compound_failed slots mask body marks at here e m h g

pub ruleset fields = (marks_bits, marks_end)
