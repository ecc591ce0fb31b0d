-- The masks of slots, and presence fields over some first ones.
use Rattle.std.proofs.Common.{◌≡◌, ℕ, zero, suc, ◌+◌, ◌*◌, ◌-◌, ◌<◌, ◌≤◌, Bool, true, false, List, [], ◌∷◌, ◌++◌, length, take, drop, get_or, set, refl, sym, ◌∙◌, ap, arith, subst, add-one, inl, inr, take-append-drop}
use Rattle.ax_bits.specs.Bits.{bits}
use Rattle.ax_fspec.specs.Fields.{MarksSlots, FailsToMark, mask_slots}
use Rattle.ax_fspec.specs.Marks.{no_marks}
use Rattle.ax_fspec.specs.declared.mask.SlotMask.{SlotMask}
use Rattle.ax_format.specs.Presence.{octets_needed, Presence, later_slots, NoneUndefined}
use Rattle.ax_format.specs.Tree.{SlotTree, spare_slot, subitem, slots_of, defined_slots}
use Rattle.ax_format.specs.declared.fault.BodyFault.{BodyFault}
use Rattle.ax_fspec.proofs.Marking.{MaskSoFar, mask_none, mask_more, mask_same, mask_all, mask_rest}
use Rattle.ax_fspec.specs.Reading.{IsMaskOf}
use Rattle.ax_held_kinds.specs.Fields.{MarksOf, FailsToMarkOf}

-- ---- a mask of slots

record SomeMarks (slots : List SlotTree) (i : ℕ) : Type 0 where
  marks : List ℕ
  so_far : MaskSoFar slots i marks

next_marks : (slots : List SlotTree) (i : ℕ) (s : SlotTree) → i < length slots → length slots ≤ 126 → s ≡ get_or slots i s → SomeMarks slots i → SomeMarks slots (i + 1)
next_marks slots i spare_slot lt few e m = record { marks = m.marks; so_far = mask_same slots i spare_slot m.marks m.so_far lt few e refl }
next_marks slots i (subitem name k) lt few e m = record { marks = set m.marks (i + 1 - 1) 1; so_far = mask_more slots i (i + 1) (subitem name k) m.marks (set m.marks (i + 1 - 1) 1) m.so_far lt few e refl refl refl }

got_twice : (slots : List SlotTree) (i : ℕ) (d : SlotTree) → get_or slots i d ≡ get_or slots i (get_or slots i d)
got_twice [] i d = refl
got_twice (s ∷ slots) zero d = refl
got_twice (s ∷ slots) (suc i) d = got_twice slots i d

some_marks : (slots : List SlotTree) (i : ℕ) → i ≤ length slots → length slots ≤ 126 → SomeMarks slots i
some_marks slots zero le few = record { marks = no_marks; so_far = mask_none slots }
some_marks slots (suc i) le few = subst (SomeMarks slots) (add-one i) (next_marks slots i (get_or slots i spare_slot) (omega arith) few (got_twice slots i spare_slot) (some_marks slots i (omega arith) few))

record SomeMask (slots : List SlotTree) : Type 0 where
  mask : SlotMask
  is : IsMaskOf slots mask

some_mask : (slots : List SlotTree) → 1 ≤ length slots → length slots ≤ 126 → SomeMask slots
some_mask slots some few =
    let m = some_marks slots (length slots) (omega arith) few in record {
      mask = record { count = length slots; defined = m.marks; some = some; few = few; within = mask_rest slots (length slots) m.marks m.so_far refl };
      is = record { count = refl; defined = mask_all slots (length slots) m.marks m.so_far refl };
    }

-- ---- a field over some first slots

-- a presence field may have more octets, and more slots be defined
longer : (k l : ℕ) (marks b : List ℕ) → k ≤ l → Presence k marks b → Presence l marks b
longer zero l marks b le h = absurd h
longer (suc k) zero marks b le h = absurd (omega arith)
longer (suc k) (suc l) marks b le h = (h.0, h.1, h.2, elim h.3 [ inl e ↦ inl e | inr r ↦ inr (r.0, r.1, r.2, r.3, longer k l r.0 r.1 (omega arith) r.4) ])

none_defined : (ms : List ℕ) (ds : List Bool) → NoneUndefined [] ms → NoneUndefined ds ms
none_defined [] ds h = tt
none_defined (m ∷ ms) ds h = (λ one. absurd (h.0 one), none_defined ms (later_slots ds) h.1)

more_defined : (ds es : List Bool) (ms : List ℕ) → NoneUndefined ds ms → NoneUndefined (ds ++ es) ms
more_defined [] es ms h = none_defined ms es h
more_defined (d ∷ ds) es [] h = tt
more_defined (true ∷ ds) es (m ∷ ms) h = (h.0, more_defined ds es ms h.1)
more_defined (false ∷ ds) es (m ∷ ms) h = (h.0, more_defined ds es ms h.1)

defined-append : (a b : List SlotTree) → defined_slots (slots_of (a ++ b)) ≡ defined_slots (slots_of a) ++ defined_slots (slots_of b)
defined-append [] b = refl
defined-append (spare_slot ∷ a) b = ap (λ x. false ∷ x) (defined-append a b)
defined-append (subitem name k ∷ a) b = ap (λ x. true ∷ x) (defined-append a b)

fewer_octets : (m n : ℕ) → m ≤ n → octets_needed m ≤ octets_needed n
fewer_octets m n le = omega arith

pub front_marks : (slots : List SlotTree) (front : ℕ) (mask : SlotMask) (body marks : List ℕ) (at end : ℕ) → 1 ≤ length slots → length slots ≤ 126 → IsMaskOf (take front slots) mask → MarksSlots mask body at end marks → MarksOf slots body at end marks
front_marks slots front mask body marks at end some few m h =
    let whole = some_mask slots some few in
    let f = h.field in
    let split : take front slots ++ drop front slots ≡ slots = take-append-drop front slots in
    let le : mask.count ≤ whole.mask.count = omega (arith, m.count, whole.is.count, length-take-least front slots) in
    let ds : mask_slots mask ++ defined_slots (slots_of (drop front slots)) ≡ mask_slots whole.mask =
    ap (λ ds. ds ++ defined_slots (slots_of (drop front slots))) m.defined ∙ sym (defined-append (take front slots) (drop front slots)) ∙ ap (λ slots. defined_slots (slots_of slots)) split ∙ sym whole.is.defined in
    let ms = take (7 * f.octets) marks in
    let b = bits (take (end - at) (drop at body)) in record {
      mask = whole.mask;
      is = whole.is;
      marks = record {
        begins = h.begins;
        within = h.within;
        field = record {
          octets = f.octets;
          field = record {
            field = longer (octets_needed mask.count) (octets_needed whole.mask.count) ms b (fewer_octets mask.count whole.mask.count le) f.field.field;
            clear = subst (λ ds. NoneUndefined ds ms) ds (more_defined (mask_slots mask) (defined_slots (slots_of (drop front slots))) ms f.field.clear);
          };
          no_other = f.no_other;
        };
        size = h.size;
      };
    }
  where
    length-take-least : (n : ℕ) (slots : List SlotTree) → length (take n slots) ≤ length slots
    length-take-least zero slots = omega arith
    length-take-least (suc n) [] = omega arith
    length-take-least (suc n) (s ∷ slots) = omega (arith, length-take-least n slots)

pub all_fail : (slots : List SlotTree) (mask : SlotMask) (body : List ℕ) (at : ℕ) (fault : BodyFault) → IsMaskOf slots mask → FailsToMark mask body at fault → FailsToMarkOf slots body at fault
all_fail slots mask body at fault m h = record { mask = mask; is = m; fails = h }

pub all_marks : (slots : List SlotTree) (mask : SlotMask) (body marks : List ℕ) (at end : ℕ) → IsMaskOf slots mask → MarksSlots mask body at end marks → MarksOf slots body at end marks
all_marks slots mask body marks at end m h = record { mask = mask; is = m; marks = h }

pub ruleset fields = (front_marks, all_fail, all_marks)
