-- Slots, their masks, and the entries of the marked ones.
use Rattle.std.proofs.Common.{◌≡◌, ℕ, zero, suc, ◌+◌, ◌-◌, ◌*◌, ◌<◌, ◌≤◌, true, false, List, [], ◌∷◌, ◌++◌, length, take, drop, map, get_or, set, IsTrue, refl, sym, ◌∙◌, ap, arith, subst, add-one, take-append-drop}
use Rattle.std.proofs.lemmas.List.{take_more, take_more_set, take_all, drop-set-lt, length-set, length-replicate, length-map}
use Rattle.ax_bits.proofs.Words.{append-AreBits}
use Rattle.ax_bits.specs.Bits.{bits, AreBits}
use Rattle.ax_fspec.specs.Fields.{MarksSlots, FailsToMark}
use Rattle.ax_fspec.specs.Marks.{no_marks, are_marked}
use Rattle.ax_fspec.specs.declared.mask.SlotMask.{SlotMask}
use Rattle.ax_format.proofs.Bounds.{count_of_slots}
use Rattle.ax_format.proofs.Failed.{presence_failed}
use Rattle.ax_format.proofs.Meets.{presence_bits}
use Rattle.ax_format.specs.Reader.{Read, got, failed, after, both, read, entries_read, mark_read, marked_read, presence_read}
use Rattle.ax_format.proofs.Spelled.{presence_spelled}
use Rattle.ax_format.specs.InBounds.{SlotsInBounds}
use Rattle.ax_format.specs.Failing.{IsPresence, PresenceFails}
use Rattle.ax_format.specs.Plain.{slot_tree, slots_tree}
use Rattle.ax_format.specs.declared.kind.Slot.{Slot}
use Rattle.ax_format.specs.Presence.{octets_needed, none_marked, first_mark, later_marks}
use Rattle.ax_format.specs.Tree.{ValueTree, SlotTree, SlotsTree, compound, marked, spare_slot, subitem, slots_of, slot_and, no_slots, slot_count, defined_slots, entry_and}
use Rattle.ax_format.specs.declared.fault.BodyFault.{BodyFault}
use Rattle.ax_fspec.proofs.AtOctets.{octets_parts, length-octets}
use Rattle.ax_fspec.specs.Reading.{FailsAt, Continues, IsMaskOf, kind_read, is_subitem, entries_at, SlotInBounds}
use Rattle.ax_format.proofs.Unmarked.{none_first, none_later}

-- ---- marks

none_bits : (ms : List ℕ) → IsTrue (none_marked ms) → AreBits ms
none_bits [] h = tt
none_bits (zero ∷ ms) h = (omega arith, none_bits ms h)
none_bits (suc m ∷ ms) h = cc

pub mark_at : (ms : List ℕ) (i : ℕ) → first_mark (drop i ms) ≡ get_or ms i 0
mark_at [] zero = refl
mark_at [] (suc i) = refl
mark_at (m ∷ ms) zero = refl
mark_at (m ∷ ms) (suc i) = mark_at ms i

pub later_at : (ms : List ℕ) (i : ℕ) → later_marks (drop i ms) ≡ drop (i + 1) ms
later_at ms i = later ms i ∙ ap (λ n. drop n ms) (sym (add-one i))
  where
    later : (ms : List ℕ) (i : ℕ) → later_marks (drop i ms) ≡ drop (suc i) ms
    later [] zero = refl
    later [] (suc i) = refl
    later (m ∷ ms) zero = refl
    later (m ∷ ms) (suc i) = later ms i

pub later_bits : (ms : List ℕ) → AreBits ms → AreBits (later_marks ms)
later_bits [] h = tt
later_bits (m ∷ ms) h = h.1

pub first_below : (ms : List ℕ) → AreBits ms → first_mark ms < 2
first_below [] h = omega arith
first_below (m ∷ ms) h = h.0

-- ---- the mask of slots

are_marked-append : (a b : List ℕ) → are_marked (a ++ b) ≡ are_marked a ++ are_marked b
are_marked-append [] b = refl
are_marked-append (zero ∷ a) b = ap (λ x. false ∷ x) (are_marked-append a b)
are_marked-append (suc m ∷ a) b = ap (λ x. true ∷ x) (are_marked-append a b)

defined-append : (a : List SlotTree) (s : SlotTree) → defined_slots (slots_of (a ++ s ∷ [])) ≡ defined_slots (slots_of a) ++ is_subitem s ∷ []
defined-append [] spare_slot = refl
defined-append [] (subitem name k) = refl
defined-append (spare_slot ∷ a) s = ap (λ x. false ∷ x) (defined-append a s)
defined-append (subitem name k ∷ a) s = ap (λ x. true ∷ x) (defined-append a s)

-- the defined slots among the first i are marked, and no other
pub record MaskSoFar (slots : List SlotTree) (i : ℕ) (marks : List ℕ) : Type 0 where
  pub size : length marks ≡ 126
  pub defined : are_marked (take i marks) ≡ defined_slots (slots_of (take i slots))
  pub rest : IsTrue (none_marked (drop i marks))

pub mask_none : (slots : List SlotTree) → MaskSoFar slots 0 no_marks
unfolding no_marks
mask_none slots = record { size = length-replicate {A = ℕ} 126 0; defined = refl; rest = refl }

take_slots : (slots : List SlotTree) (i : ℕ) (s : SlotTree) → i < length slots → s ≡ get_or slots i s → take (i + 1) slots ≡ take i slots ++ s ∷ []
take_slots slots i s lt e = take_more slots i s lt ∙ ap (λ t. take i slots ++ t ∷ []) (sym e)

pub mask_more : (slots : List SlotTree) (i number : ℕ) (s : SlotTree) (marks new : List ℕ) → MaskSoFar slots i marks → i < length slots → length slots ≤ 126 → s ≡ get_or slots i s → number ≡ i + 1 → IsTrue (is_subitem s)
    → new ≡ set marks (number - 1) 1 → MaskSoFar slots (i + 1) new
mask_more slots i number s marks new h lt few e n sub f =
    let g : new ≡ set marks i 1 = f ∙ ap (λ k. set marks k 1) (let z : number - 1 ≡ i = omega arith in z) in
    let t : take (i + 1) new ≡ take i marks ++ 1 ∷ [] = ap (take (i + 1)) g ∙ take_more_set marks i 1 (omega (arith, h.size)) in
    let next : drop (i + 1) new ≡ later_marks (drop i marks) = ap (drop (i + 1)) g ∙ drop-set-lt (i + 1) marks i 1 (omega arith) ∙ sym (later_at marks i) in record {
      size = ap length g ∙ length-set marks i 1 ∙ h.size;
      defined = ap are_marked t ∙ are_marked-append (take i marks) (1 ∷ []) ∙ (λ k. h.defined k ++ sym (truth s sub) k ∷ []) ∙ sym (defined-append (take i slots) s) ∙ ap (λ x. defined_slots (slots_of x)) (sym (take_slots slots i s lt e));
      rest = ap none_marked next ∙ none_later (drop i marks) h.rest;
    }
  where
    truth : (s : SlotTree) → IsTrue (is_subitem s) → is_subitem s ≡ true
    truth s h = h

pub mask_same : (slots : List SlotTree) (i : ℕ) (s : SlotTree) (marks : List ℕ) → MaskSoFar slots i marks → i < length slots → length slots ≤ 126 → s ≡ get_or slots i s → is_subitem s ≡ false → MaskSoFar slots (i + 1) marks
mask_same slots i s marks h lt few e spare =
    let z : get_or marks i 0 ≡ 0 = sym (mark_at marks i) ∙ none_first (drop i marks) h.rest in
    let t : take (i + 1) marks ≡ take i marks ++ 0 ∷ [] = take_more marks i 0 (omega (arith, h.size)) ∙ ap (λ m. take i marks ++ m ∷ []) z in record {
      size = h.size;
      defined = ap are_marked t ∙ are_marked-append (take i marks) (0 ∷ []) ∙ (λ k. h.defined k ++ sym spare k ∷ []) ∙ sym (defined-append (take i slots) s) ∙ ap (λ x. defined_slots (slots_of x)) (sym (take_slots slots i s lt e));
      rest = ap none_marked (sym (later_at marks i)) ∙ none_later (drop i marks) h.rest;
    }

-- the marks of all slots are the mask
pub mask_all : (slots : List SlotTree) (i : ℕ) (marks : List ℕ) → MaskSoFar slots i marks → length slots ≡ i → are_marked (take (length slots) marks) ≡ defined_slots (slots_of slots)
mask_all slots i marks h e = ap (λ n. are_marked (take n marks)) e ∙ h.defined ∙ ap (λ x. defined_slots (slots_of x)) (take_all i slots (omega (arith, e)))

pub mask_rest : (slots : List SlotTree) (i : ℕ) (marks : List ℕ) → MaskSoFar slots i marks → length slots ≡ i → IsTrue (none_marked (drop (length slots) marks))
mask_rest slots i marks h e = ap (λ n. none_marked (drop n marks)) e ∙ h.rest

-- ---- the entries of marked slots

-- marks past the last set one don't count
unmarked_rest : (s : ℕ) (ss : SlotsTree) (ms zs b : List ℕ) → IsTrue (none_marked zs) → entries_read s ss (ms ++ zs) b ≡ entries_read s ss ms b
unmarked_rest s no_slots ms zs b h = refl
unmarked_rest s (slot_and spare_slot ss) [] zs b h = unmarked_rest (s + 1) ss [] (later_marks zs) b (none_later zs h)
unmarked_rest s (slot_and spare_slot ss) (m ∷ ms) zs b h = unmarked_rest (s + 1) ss ms zs b h
unmarked_rest s (slot_and (subitem name k) ss) [] zs b h =
    ap (λ m. mark_read m s (read k) (entries_read (s + 1) ss (later_marks zs)) b) (none_first zs h) ∙ unmarked_rest (s + 1) ss [] (later_marks zs) b (none_later zs h)
unmarked_rest s (slot_and (subitem name k) ss) (zero ∷ ms) zs b h = unmarked_rest (s + 1) ss ms zs b h
unmarked_rest s (slot_and (subitem name k) ss) (suc m ∷ ms) zs b h = same (λ y. unmarked_rest (s + 1) ss ms zs y h) (read k b)
  where
    same : ((y : List ℕ) → entries_read (s + 1) ss (ms ++ zs) y ≡ entries_read (s + 1) ss ms y) → (r : Read ValueTree) → both (λ v es. entry_and s v es) r (entries_read (s + 1) ss (ms ++ zs)) ≡ both (λ v es. entry_and s v es) r (entries_read (s + 1) ss ms)
    same ih (got v n y) = ap (after n (λ es. entry_and s v es)) (ih y)
    same ih (failed p c) = refl

-- a set that a field marks, as bits
pub marks_bits : (mask : SlotMask) (body marks : List ℕ) (at end : ℕ) → MarksSlots mask body at end marks → AreBits marks
marks_bits mask body marks at end h =
    let f = h.field in
    subst AreBits (take-append-drop (7 * f.octets) marks)
    (append-AreBits (take (7 * f.octets) marks) (drop (7 * f.octets) marks) (presence_bits (octets_needed mask.count) (take (7 * f.octets) marks) (bits (take (end - at) (drop at body))) f.field.field) (none_bits (drop (7 * f.octets) marks) f.no_other))

-- after the presence field
pub field_read : (slots : List SlotTree) (mask : SlotMask) (body marks : List ℕ) (at end : ℕ) → IsMaskOf slots mask → MarksSlots mask body at end marks
    → Continues (kind_read (compound (slots_of slots)) body at) at end (λ es. marked es) (entries_at (slots_of slots) marks body end)
unfolding kind_read entries_at
field_read slots mask body marks at end m h =
    let f = h.field in
    let ss = slots_of slots in
    let k = octets_needed (slot_count ss) in
    let ds = defined_slots ss in
    let ms = take (7 * f.octets) marks in
    let zs = drop (7 * f.octets) marks in
    let b = bits (take (end - at) (drop at body)) in
    let y = bits (drop end body) in
    let joined : ms ++ zs ≡ marks = take-append-drop (7 * f.octets) marks in
    let count : mask.count ≡ slot_count ss = m.count ∙ sym (count_of_slots slots) in
    let p : IsPresence k ds ms b = subst (λ n. IsPresence (octets_needed n) ds ms b) count (subst (λ ds. IsPresence (octets_needed mask.count) ds ms b) m.defined f.field) in
    let parts : bits (drop at body) ≡ b ++ y = octets_parts body at end (omega (arith, h.begins)) in
    let long : length b ≡ 8 * (end - at) = length-octets body at end (omega (arith, h.begins)) h.within in
    let whole : entries_read 1 ss ms y ≡ entries_read 1 ss marks y = sym (unmarked_rest 1 ss ms zs y f.no_other) ∙ ap (λ marks. entries_read 1 ss marks y) joined in record {
      forwards = omega (arith, h.begins);
      same = ap (λ r. marked_read r (entries_read 1 ss)) (ap (presence_read k ds) parts ∙ presence_spelled k ds ms b y p.field p.clear) ∙ (λ i. after (long i) (λ es. marked es) (whole i));
    }

pub field_failed : (slots : List SlotTree) (mask : SlotMask) (body : List ℕ) (at : ℕ) (fault : BodyFault) → IsMaskOf slots mask → FailsToMark mask body at fault → FailsAt (kind_read (compound (slots_of slots)) body at) at fault
unfolding kind_read
field_failed slots mask body at fault m h =
    let ss = slots_of slots in
    let ds = defined_slots ss in
    let b = bits (drop at body) in
    let count : mask.count ≡ slot_count ss = m.count ∙ sym (count_of_slots slots) in
    let fails : PresenceFails (octets_needed (slot_count ss)) ds b h.place fault.cause =
    subst (λ n. PresenceFails (octets_needed n) ds b h.place fault.cause) count (subst (λ ds. PresenceFails (octets_needed mask.count) ds b h.place fault.cause) m.defined h.fails.fails) in record {
      place = h.place;
      failed = ap (λ r. marked_read r (entries_read 1 ss)) (presence_failed (octets_needed (slot_count ss)) ds b h.place fault.cause fails);
      bit = h.bit;
    }

-- ---- slots of the code

pub map_at : {X : Type 0} {A : Type 0} (f : X → A) (xs : List X) (i : ℕ) (x : X) → x ≡ get_or xs i x → f x ≡ get_or (map f xs) i (f x)
map_at f [] i x e = refl
map_at f (y ∷ xs) zero x e = ap f e
map_at f (y ∷ xs) (suc i) x e = map_at f xs i x e

and_bounds : (s : SlotTree) (ss : SlotsTree) → SlotsInBounds (slot_and s ss) → SlotInBounds s × SlotsInBounds ss
and_bounds spare_slot ss h = (tt, h)
and_bounds (subitem name k) ss h = h

pub slot_bounds : (slots : List SlotTree) (i : ℕ) (s : SlotTree) → SlotsInBounds (slots_of slots) → i < length slots → s ≡ get_or slots i s → SlotInBounds s
slot_bounds [] i s h lt e = absurd (omega arith)
slot_bounds (t ∷ slots) zero s h lt e = subst SlotInBounds (sym e) (and_bounds t (slots_of slots) h).0
slot_bounds (t ∷ slots) (suc i) s h lt e = slot_bounds slots i s (and_bounds t (slots_of slots) h).1 (omega arith) e

pub slot_in_bounds : (all : List Slot) (i : ℕ) (s : Slot) → SlotsInBounds (slots_tree all) → i < length all → s ≡ get_or all i s → SlotInBounds (slot_tree s)
slot_in_bounds all i s h lt e = slot_bounds (map slot_tree all) i (slot_tree s) h (omega (arith, length-map all slot_tree)) (map_at slot_tree all i s e)

pub marks_end : (mask : SlotMask) (body marks : List ℕ) (at end : ℕ) → MarksSlots mask body at end marks → end ≤ length body
marks_end mask body marks at end h = h.within
