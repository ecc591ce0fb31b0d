-- The marked slots of a record, read from its presence field.
use Rattle.std.proofs.Common.{◌≡◌, ℕ, zero, suc, ◌+◌, ◌-◌, ◌<◌, ◌≤◌, ◌==◌, ◌&&◌, if◌then◌else◌, nat_lt, Bool, true, false, List, [], ◌∷◌, length, replicate, get_or, Some, None, refl, sym, ◌∙◌, ap, arith, subst}
use Rattle.std.proofs.lemmas.Bool.{lt-ltb, ltb-false}
use Rattle.std.proofs.lemmas.List.{get_or-replicate}
use Rattle.ax_bits.specs.Bits.{AreBits, bits}
use Rattle.ax_fspec.specs.Fields.{MarksSlots, FailsToMark}
use Rattle.ax_format.specs.At.{slot_value}
use Rattle.ax_format.specs.declared.fault.BodyFault.{BodyFault}
use Rattle.ax_format.proofs.Bounds.{count_of_slots}
use Rattle.ax_format.specs.Presence.{first_mark, later_marks, octets_needed}
use Rattle.ax_format.specs.Reader.{Read, got, failed, after, both, read, mark_read, marked_read, presence_read, entries_read}
use Rattle.ax_format.specs.Tree.{KindTree, ValueTree, EntriesTree, entry_and, SlotsTree, no_slots, slot_and, spare_slot, subitem, slots_of, slot_count, defined_slots, marked}
use Rattle.ax_fspec.proofs.Marking.{marks_bits}
use Rattle.ax_fspec.specs.Reading.{entries_at}
use Rattle.ax_codec.specs.Meaning.{meanings, linked_slots}
use Rattle.ax_codec.specs.Table.{record_kind_at}
use Rattle.ax_codec.specs.declared.codec.Codec.{Codec}
use Rattle.ax_walk.proofs.Found.{not_same, field_never, entries_are}
use Rattle.ax_walk.specs.Shown.{record_entries}
use Rattle.ax_walk.specs.Values.{entries_found, entries_in, value_in, value_read}
use Rattle.ax_walk.specs.declared.record.RecordView.{RecordView}
use Rattle.ax_expressions.proofs.SlotSets.{marked_slot}
use Rattle.ax_expressions.specs.Plans.{is_slot, MarkEach}

-- ---- entries of slots that aren't marked

first_is : (ms : List ℕ) → get_or ms 0 0 ≡ first_mark ms
first_is [] = refl
first_is (m ∷ ms) = refl

later : (n s : ℕ) (ms : List ℕ) → (n ≤ s → get_or ms (s - n) 0 ≡ 0) → n + 1 ≤ s → get_or (later_marks ms) (s - (n + 1)) 0 ≡ 0
later n s [] h le = refl
later n s (m ∷ ms) h le = let e : s - n ≡ suc (s - (n + 1)) = omega (arith, le) in sym (ap (λ k. get_or (m ∷ ms) k 0) e) ∙ h (omega (arith, le))

apart : (n s m : ℕ) (ms : List ℕ) → first_mark ms ≡ suc m → (n ≤ s → get_or ms (s - n) 0 ≡ 0) → n ≡ s → ⊥
apart n s m ms e h is =
    let first : get_or ms (s - n) 0 ≡ suc m = ap (λ k. get_or ms k 0) (let z : s - n ≡ 0 = omega (arith, is) in z) ∙ first_is ms ∙ e in
    let none = h (omega (arith, is)) in omega (arith, first, none)

of_rest : (n s w : ℕ) (v : ValueTree) (r : Read EntriesTree) → (n ≡ s → ⊥) → slot_value s (entries_found r) ≡ None → slot_value s (entries_found (after w (λ es. entry_and n v es) r)) ≡ None
of_rest n s w v (failed p c) ne h = refl
of_rest n s w v (got es m y) ne h = ap (λ b. if b then Some v else slot_value s es) (not_same n s ne) ∙ h

of_value : (n s : ℕ) (go : List ℕ → Read EntriesTree) (r : Read ValueTree) → (n ≡ s → ⊥) → ((y : List ℕ) → slot_value s (entries_found (go y)) ≡ None) → slot_value s (entries_found (both (λ v es. entry_and n v es) r go)) ≡ None
of_value n s go (failed p c) ne h = refl
of_value n s go (got v w y) ne h = of_rest n s w v (go y) ne (h y)

of_mark : (n s m : ℕ) (k : KindTree) (go : List ℕ → Read EntriesTree) (ms b : List ℕ) → first_mark ms ≡ m → (n ≤ s → get_or ms (s - n) 0 ≡ 0) → ((y : List ℕ) → slot_value s (entries_found (go y)) ≡ None) → slot_value s (entries_found (mark_read m n (read k) go b)) ≡ None
of_mark n s zero k go ms b e h rest = rest b
of_mark n s (suc m) k go ms b e h rest = of_value n s go (read k b) (apart n s m ms e h) rest

not_read : (n s : ℕ) (ss : SlotsTree) (ms b : List ℕ) → (n ≤ s → get_or ms (s - n) 0 ≡ 0) → slot_value s (entries_found (entries_read n ss ms b)) ≡ None
not_read n s no_slots ms b h = refl
not_read n s (slot_and spare_slot ss) ms b h = not_read (n + 1) s ss (later_marks ms) b (later n s ms h)
not_read n s (slot_and (subitem name k) ss) ms b h =
    of_mark n s (first_mark ms) k (entries_read (n + 1) ss (later_marks ms)) ms b refl h (λ y. not_read (n + 1) s ss (later_marks ms) y (later n s ms h))

not_there : (s : ℕ) (ss : SlotsTree) (marks body : List ℕ) (at : ℕ) → (1 ≤ s → get_or marks (s - 1) 0 ≡ 0) → slot_value s (entries_found (entries_at ss marks body at)) ≡ None
unfolding entries_at
not_there s ss marks body at h = not_read 1 s ss marks _ h

-- ---- slots past the last

past_mark : (n s m : ℕ) (k : KindTree) (go : List ℕ → Read EntriesTree) (b : List ℕ) → (n ≡ s → ⊥) → ((y : List ℕ) → slot_value s (entries_found (go y)) ≡ None) → slot_value s (entries_found (mark_read m n (read k) go b)) ≡ None
past_mark n s zero k go b ne rest = rest b
past_mark n s (suc m) k go b ne rest = of_value n s go (read k b) ne rest

past_last : (n s : ℕ) (ss : SlotsTree) (ms b : List ℕ) → ((i : ℕ) → i < slot_count ss → n + i ≡ s → ⊥) → slot_value s (entries_found (entries_read n ss ms b)) ≡ None
past_last n s no_slots ms b h = refl
past_last n s (slot_and spare_slot ss) ms b h = past_last (n + 1) s ss (later_marks ms) b (λ i lt e. h (suc i) (omega (arith, lt)) (omega (arith, e)))
past_last n s (slot_and (subitem name k) ss) ms b h =
    past_mark n s (first_mark ms) k (entries_read (n + 1) ss (later_marks ms)) b (λ e. h 0 (omega arith) (omega (arith, e)))
    (λ y. past_last (n + 1) s ss (later_marks ms) y (λ i lt e. h (suc i) (omega (arith, lt)) (omega (arith, e))))

of_all : (s n : ℕ) (r : Read EntriesTree) → slot_value s (entries_found r) ≡ None → slot_value s (entries_in (value_read (after n (λ es. marked es) r))) ≡ None
of_all s n (got es m y) h = h
of_all s n (failed p c) h = refl

of_marks : (s : ℕ) (r : Read (List ℕ)) (go : List ℕ → List ℕ → Read EntriesTree) → ((ms y : List ℕ) → slot_value s (entries_found (go ms y)) ≡ None) → slot_value s (entries_in (value_read (marked_read r go))) ≡ None
of_marks s (got ms n y) go h = of_all s n (go ms y) (h ms y)
of_marks s (failed p c) go h = refl

no_others : (view : RecordView) (s : ℕ) → (1 ≤ s → s ≤ 126 → ⊥) → slot_value s (record_entries view) ≡ None
unfolding value_in record_kind_at
no_others view s h =
    let codec = view.codec.now in
    let slots = linked_slots (meanings codec.nodes) codec.slots in
    let ss = slots_of slots in
    let few : slot_count ss ≤ 126 = omega (arith, count_of_slots slots, codec.records.mask.count, codec.mask.few) in
    of_marks s (presence_read (octets_needed (slot_count ss)) (defined_slots ss) (bits view.body.now)) (entries_read 1 ss)
    (λ ms y. past_last 1 s ss ms y (λ i lt e. h (omega (arith, e)) (omega (arith, e, lt, few))))

-- the set of all slots
abbrev pub all_slots : List ℕ
all_slots = replicate 126 1

in_all : (s : ℕ) → 1 ≤ s → s ≤ 126 → is_slot all_slots s ≡ true
in_all s some few = marked_slot all_slots s (omega (arith, few)) (omega (arith, some), get_or-replicate 126 (s - 1) 1 0 (omega (arith, some, few)))

pub all_mark : (view : RecordView) → MarkEach all_slots (record_entries view)
all_mark view s e = no_others view s (λ some few. (let t = in_all s some few in cc))

-- ---- slots that aren't in a set

bit_below : (b : List ℕ) (i : ℕ) → AreBits b → get_or b i 0 < 2
bit_below [] i h = omega arith
bit_below (x ∷ b) zero h = h.0
bit_below (x ∷ b) (suc i) h = bit_below b i h.1

zero_of : (x : ℕ) → x < 2 → (x == 1) ≡ false → x ≡ 0
zero_of zero l e = refl
zero_of (suc zero) l e = absurd cc
zero_of (suc (suc x)) l e = absurd (omega (arith, l))

past : (xs : List ℕ) (i : ℕ) → length xs ≤ i → get_or xs i 0 ≡ 0
past [] i l = refl
past (x ∷ xs) zero l = absurd (omega (arith, l))
past (x ∷ xs) (suc i) l = past xs i (omega (arith, l))

unmarked : (marks : List ℕ) (s : ℕ) → AreBits marks → length marks ≡ 126 → is_slot marks s ≡ false → 1 ≤ s → get_or marks (s - 1) 0 ≡ 0
unmarked marks s bit size e some = by (nat_lt s 127) refl
  where
    by : (few : Bool) → nat_lt s 127 ≡ few → get_or marks (s - 1) 0 ≡ 0
    by true few =
        zero_of (get_or marks (s - 1) 0) (bit_below marks (s - 1) bit)
        (sym (ap (λ b. b && (nat_lt s 127 && (get_or marks (s - 1) 0 == 1))) (lt-ltb 0 s some) ∙ ap (λ b. b && (get_or marks (s - 1) 0 == 1)) few) ∙ e)
    by false large = past marks (s - 1) (let l = ltb-false s 127 large in omega (arith, size, l))

-- ---- the slots of a record

own_marks : (view : RecordView) (here : ℕ) (marks : List ℕ) → MarksSlots view.codec.now.mask view.body.now 0 here marks → MarkEach marks (record_entries view)
own_marks view here marks h s e =
    let codec = view.codec.now in
    sym (ap (slot_value s) (entries_are codec.nodes codec.slots codec.mask view.body.now codec.records.mask view.record_octets marks here h))
    ∙ not_there s (slots_of (linked_slots (meanings codec.nodes) codec.slots)) marks view.body.now here (unmarked marks s (marks_bits codec.mask view.body.now marks 0 here h) h.size e)

own_never : (view : RecordView) (fault : BodyFault) → FailsToMark view.codec.now.mask view.body.now 0 fault → ⊥
own_never view fault h = let codec = view.codec.now in field_never codec.nodes codec.slots codec.mask view.body.now codec.records.mask view.record_octets fault h

module _ (view : RecordView) (codec : Codec) (body : List ℕ) (b : body ≡ view.body.now) (same : view.codec.now ≡ codec) where
  pub marks_of : (here : ℕ) (marks : List ℕ) → MarksSlots codec.mask body 0 here marks → MarkEach marks (record_entries view)
  marks_of here marks h = own_marks view here marks (subst (λ c. MarksSlots c.mask view.body.now 0 here marks) (sym same) (subst (λ x. MarksSlots codec.mask x 0 here marks) b h))

  pub never_fails : (fault : BodyFault) → FailsToMark codec.mask body 0 fault → ⊥
  never_fails fault h = own_never view fault (subst (λ c. FailsToMark c.mask view.body.now 0 fault) (sym same) (subst (λ x. FailsToMark codec.mask x 0 fault) b h))
