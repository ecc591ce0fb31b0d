-- The slots of a compound, one by one.
use Rattle.std.proofs.Common.{◌≡◌, ℕ, suc, ◌+◌, ◌≤◌, ◌==◌, Bool, List, [], ◌∷◌, ◌++◌, length, map, drop, Option, refl, ◌∙◌, ap, subst, arith}
use Rattle.std.proofs.lemmas.List.{drop_all, length-map}
use Rattle.std.specs.Option.{option_map}
use Rattle.ax_bits.specs.Bits.{AreBits}
use Rattle.ax_format.proofs.Bounds.{count_of_slots}
use Rattle.ax_format.specs.InBounds.{InBounds, SlotsInBounds}
use Rattle.ax_format.specs.Lengths.{kind_of_slot}
use Rattle.ax_format.specs.Plain.{slot_tree, slots_tree}
use Rattle.ax_format.specs.Tree.{SlotTree, spare_slot, subitem, SlotsTree, no_slots, slot_and, slots_of, defined_slots, slot_count, compound}
use Rattle.ax_format.specs.declared.kind.Slot.{Slot}
use Rattle.ax_vectors.proofs.Left.{Left, left_whole, left_step, left_none, adds_both}
use Rattle.ax_vectors.specs.Made.{marks_made, field_made, value_where, values_made, marked_made, slots_made, kind_made, makers}
use Rattle.ax_vectors.specs.Making.{Maker, Adds}

-- ---- marks

-- the marks made of these slots, and those that are left
pub record MarksLeft (all rest : List Bool) (made : List ℕ) (first state : ℕ) : Type 0 where
  pub left : Left (marks_made all) (marks_made rest) [] made first state
  pub each : AreBits made
  pub count : length made + length rest ≡ length all

pub marks_begun : (all : List Bool) (first : ℕ) → MarksLeft all all [] first first
marks_begun all first = record { left = left_whole (marks_made all) [] first; each = tt; count = omega arith }

pub marks_over : (all : List Bool) (made : List ℕ) (first state : ℕ) → MarksLeft all [] made first state → Adds (marks_made all) [] made first state
marks_over all made first state h = left_none (marks_made all) [] made first state h.left

-- ---- of a list of slots, which are these trees

-- the slots of a list
abbrev pub slots_in : {S : Type 0} → (S → SlotTree) → List S → SlotsTree
slots_in tree all = slots_of (map tree all)

defined_count : {S : Type 0} (tree : S → SlotTree) (slots : List S) → length (defined_slots (slots_in tree slots)) ≡ length slots
defined_count tree slots = count_at (map tree slots) ∙ length-map slots tree where
  count_at : (ss : List SlotTree) → length (defined_slots (slots_of ss)) ≡ length ss
  count_at [] = refl
  count_at (spare_slot ∷ ss) = ap suc (count_at ss)
  count_at (subitem name k ∷ ss) = ap suc (count_at ss)

-- the marks of the first i slots were made
pub record SlotMarks {S : Type 0} (tree : S → SlotTree) (all : List S) (i : ℕ) (made : List ℕ) (first state : ℕ) : Type 0 where
  pub marks : MarksLeft (defined_slots (slots_in tree all)) (defined_slots (slots_in tree (drop i all))) made first state

pub slot_marks_begun : {S : Type 0} (tree : S → SlotTree) (all : List S) (first : ℕ) → SlotMarks tree all 0 [] first first
slot_marks_begun tree all first = record { marks = marks_begun (defined_slots (slots_in tree all)) first }

pub slot_marks_over : {S : Type 0} (tree : S → SlotTree) (all : List S) (i : ℕ) (made : List ℕ) (first state : ℕ) → SlotMarks tree all i made first state → length all ≤ i → Adds (marks_made (defined_slots (slots_in tree all))) [] made first state
slot_marks_over tree all i made first state h past =
    marks_over (defined_slots (slots_in tree all)) made first state (subst (λ ss. MarksLeft (defined_slots (slots_in tree all)) (defined_slots (slots_in tree ss)) made first state) (drop_all i all past) h.marks)

pub slot_marks_count : {S : Type 0} (tree : S → SlotTree) (all : List S) (i : ℕ) (made : List ℕ) (first state : ℕ) → SlotMarks tree all i made first state → length all ≤ i → length made ≡ length all
slot_marks_count tree all i made first state h past =
    omega (arith, h.marks.count, defined_count tree all, ap (λ ss. length (defined_slots (slots_in tree ss))) (drop_all i all past))

pub slot_marks_bits : {S : Type 0} (tree : S → SlotTree) (all : List S) (i : ℕ) (made : List ℕ) (first state : ℕ) → SlotMarks tree all i made first state → AreBits made
slot_marks_bits tree all i made first state h = h.marks.each

pub ruleset slot_marks = (slot_marks_begun, slot_marks_over, slot_marks_count, slot_marks_bits)

-- ---- values

-- the makers of slots, by the kinds of the slots
first_maker : (around : ℕ) (slot : SlotTree) (ss : SlotsTree) → makers around (slot_and slot ss) ≡ option_map (kind_made around) (kind_of_slot slot) ∷ makers around ss
first_maker around spare_slot ss = refl
first_maker around (subitem name k) ss = refl

-- without marks there are no values
no_values : (slots : List (Option Maker)) (state : ℕ) → values_made slots [] state ≡ ([], state)
no_values [] state = refl
no_values (slot ∷ slots) state = no_values slots state

values_over : (whole : Maker) (slots : List (Option Maker)) (old now : List ℕ) (first state : ℕ) → Left whole (values_made slots []) old now first state → Adds whole old now first state
values_over whole slots old now first state h = left_none whole old now first state (record {
  list = h.list ∙ ap (λ p. now ++ p.0) (no_values slots state);
  left = h.left ∙ ap (λ p. p.1) (no_values slots state);
})

-- what is left of the values of slots, of which these and their marks are left
pub record ValuesLeft {S : Type 0} (tree : S → SlotTree) (around : ℕ) (whole : Maker) (slots : List S) (marks old now : List ℕ) (first state : ℕ) : Type 0 where
  pub bounds : SlotsInBounds (slots_in tree slots)
  pub left : Left whole (values_made (makers around (slots_in tree slots)) marks) old now first state

pub slots_begun : {S : Type 0} (tree : S → SlotTree) (around : ℕ) (slots : List S) (marks old : List ℕ) (first : ℕ) → SlotsInBounds (slots_in tree slots)
    → ValuesLeft tree around (values_made (makers around (slots_in tree slots)) marks) slots marks old old first first
slots_begun tree around slots marks old first b = record { bounds = b; left = left_whole (values_made (makers around (slots_in tree slots)) marks) old first }

first_bounds : (slot : SlotTree) (ss : SlotsTree) → SlotsInBounds (slot_and slot ss) → SlotsInBounds (slot_and slot no_slots) × SlotsInBounds ss
first_bounds spare_slot ss h = (tt, h)
first_bounds (subitem name k) ss h = ((h.0, tt), h.1)

pub slots_bounds : {S : Type 0} (tree : S → SlotTree) (around : ℕ) (whole : Maker) (s : S) (slots : List S) (marks old now : List ℕ) (first state : ℕ) → ValuesLeft tree around whole (s ∷ slots) marks old now first state
    → SlotsInBounds (slot_and (tree s) no_slots)
slots_bounds tree around whole s slots marks old now first state h = (first_bounds (tree s) (slots_in tree slots) h.bounds).0

pub slots_next : {S : Type 0} (tree : S → SlotTree) (around : ℕ) (whole : Maker) (s : S) (left slots : List S) (m : ℕ) (right marks old now new : List ℕ) (first state after : ℕ) → ValuesLeft tree around whole left right old now first state
    → left ≡ s ∷ slots → right ≡ m ∷ marks → Adds (value_where (m == 1) (option_map (kind_made around) (kind_of_slot (tree s)))) now new state after → ValuesLeft tree around whole slots marks old new first after
slots_next tree around whole s left slots m right marks old now new first state after h e f a =
    let here : ValuesLeft tree around whole (s ∷ slots) (m ∷ marks) old now first state =
    subst (λ ms. ValuesLeft tree around whole (s ∷ slots) ms old now first state) f (subst (λ ss. ValuesLeft tree around whole ss right old now first state) e h) in
    let one : Maker = value_where (m == 1) (option_map (kind_made around) (kind_of_slot (tree s))) in
    record {
      bounds = (first_bounds (tree s) (slots_in tree slots) here.bounds).1;
      left = left_step whole one (values_made (makers around (slots_in tree slots)) marks) old now new first state after
          (subst (λ ss. Left whole (values_made ss (m ∷ marks)) old now first state) (first_maker around (tree s) (slots_in tree slots)) here.left) a;
    }

pub slots_ended : {S : Type 0} (tree : S → SlotTree) (around : ℕ) (whole : Maker) (slots : List S) (marks old now : List ℕ) (first state : ℕ) → ValuesLeft tree around whole slots marks old now first state → length slots ≡ 0
    → Adds whole old now first state
slots_ended tree around whole [] marks old now first state h e = left_none whole old now first state h.left
slots_ended tree around whole (s ∷ slots) marks old now first state h e = absurd (omega arith)

pub marks_ended : {S : Type 0} (tree : S → SlotTree) (around : ℕ) (whole : Maker) (slots : List S) (marks old now : List ℕ) (first state : ℕ) → ValuesLeft tree around whole slots marks old now first state → length marks ≡ 0
    → Adds whole old now first state
marks_ended tree around whole slots [] old now first state h e = values_over whole (makers around (slots_in tree slots)) old now first state h.left
marks_ended tree around whole slots (m ∷ marks) old now first state h e = absurd (omega arith)

pub ruleset slot_values = (slots_begun, slots_bounds, slots_next, slots_ended, marks_ended)

-- ---- a whole compound

pub slots_adds : (defined : List Bool) (slots : List (Option Maker)) (marks old mid new : List ℕ) (first drawn state after : ℕ) → Adds (marks_made defined) [] marks first drawn → Adds (field_made marks) old mid drawn state
    → Adds (values_made slots marks) mid new state after → Adds (slots_made defined slots) old new first after
slots_adds defined slots marks old mid new first drawn state after m f v =
    let both_made = adds_both (field_made marks) (values_made slots marks) old mid new drawn state after f v in
    record {
      list = both_made.list ∙ (λ k. old ++ (marked_made slots (m.list k) (m.left k)).0);
      left = both_made.left ∙ (λ k. (marked_made slots (m.list k) (m.left k)).1);
    }

pub compound_adds : (around : ℕ) (all : List Slot) (marks old mid new : List ℕ) (first drawn state after : ℕ) → Adds (marks_made (defined_slots (slots_tree all))) [] marks first drawn → Adds (field_made marks) old mid drawn state
    → Adds (values_made (makers around (slots_tree all)) marks) mid new state after → Adds (kind_made around (compound (slots_tree all))) old new first after
compound_adds around all marks old mid new first drawn state after m f v = slots_adds (defined_slots (slots_tree all)) (makers around (slots_tree all)) marks old mid new first drawn state after m f v

pub compound_few : (all : List Slot) (n : ℕ) → InBounds (compound (slots_tree all)) → n ≡ length all → (1 ≤ n) × (n ≤ 126)
compound_few all n b e =
    let count : slot_count (slots_tree all) ≡ length all = count_of_slots (map slot_tree all) ∙ length-map all slot_tree in
    (omega (arith, b.0), omega (arith, b.1))

pub compound_bounds : (all : List Slot) → InBounds (compound (slots_tree all)) → SlotsInBounds (slots_tree all)
compound_bounds all b = b.2

pub ruleset compounds = (compound_adds, compound_few, compound_bounds)
