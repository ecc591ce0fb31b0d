-- Marked slots, one after the other.
use Rattle.std.proofs.Common.{◌≡◌, ℕ, zero, suc, ◌+◌, ◌-◌, ◌*◌, ◌<◌, ◌≤◌, List, [], ◌∷◌, length, drop, get_or, set, codes, refl, sym, ◌∙◌, ap, arith, subst, add-one}
use Rattle.ax_bits.specs.Bits.{bits, AreBits}
use Rattle.ax_fspec.proofs.Walks.{no_next_slot}
use Rattle.ax_fspec.specs.Fields.{MarksSlots}
use Rattle.ax_fspec.specs.Marks.{slots_from}
use Rattle.ax_fspec.specs.Marks as Marks
use Rattle.ax_fspec.specs.declared.mask.SlotMask.{SlotMask}
use Rattle.ax_held_kinds.proofs.MarkedSlots.{first_is, first_from, ascend, no_entries_left, marks_clear, entries_shape}
use Rattle.ax_format.specs.InBounds.{InBounds, SlotsInBounds}
use Rattle.ax_format.specs.Paths as Paths
use Rattle.ax_held_kinds.specs.Held.{held_slot, held_slots}
use Rattle.ax_format.specs.Presence.{NoneUndefined}
use Rattle.ax_format.specs.Reader.{got, both, read, entries_read}
use Rattle.ax_format.specs.Tree.{KindTree, EntriesTree, no_entries, entry_and, SlotsTree, no_slots, slot_and, SlotTree, spare_slot, subitem, slots_of, defined_slots, compound, marked}
use Rattle.ax_format.specs.declared.fault.BodyFault.{BodyFault}
use Rattle.ax_held_kinds.specs.declared.kinds.HeldSlot.{HeldSlot}
use Rattle.ax_fspec.proofs.Marking.{field_read, marks_bits}
use Rattle.ax_fspec.specs.Reading.{Gets, FailsAt, IsMaskOf, SlotInBounds, kind_read, entries_at}
use Rattle.ax_text_form.proofs.EntryWays.{by_slots, entries_same, numbered}
use Rattle.ax_text_form.proofs.ListedKinds.{lines_made}
use Rattle.ax_text_form.specs.Printing.{as_lines, Puts}
use Rattle.ax_text_form.specs.ShowText.{count_line, entries_lines, entry_count}
use Rattle.ax_text_form.specs.Slots.{slot_after, slot_numbered, slot_lines}
use Rattle.ax_text_form.specs.ValueText.{Texts}
use Rattle.ax_values.specs.SlotReading.{HasFailed, HasSlotFailed, SlotFails}
use Rattle.ax_values.specs.declared.error.DecodeError.{DecodeError}
use Rattle.ax_listing.specs.Shown.{Shows, ShowsCounted, SlotShows, IsSlotShown}
use Rattle.ax_listing.proofs.Leading.{Leads, Ending, leads_next, counted_first}

-- ---- slots by their numbers

following_is : (slots : List SlotTree) (i : ℕ) → slot_after i (slots_of slots) ≡ get_or slots i spare_slot
following_is [] zero = refl
following_is [] (suc i) = refl
following_is (s ∷ slots) zero = refl
following_is (s ∷ slots) (suc i) = following_is slots i

after_bounds : (ss : SlotsTree) (i : ℕ) → SlotsInBounds ss → SlotInBounds (slot_after i ss)
after_bounds no_slots i h = tt
after_bounds (slot_and spare_slot ss) zero h = tt
after_bounds (slot_and (subitem name k) ss) zero h = h.0
after_bounds (slot_and spare_slot ss) (suc i) h = after_bounds ss i h
after_bounds (slot_and (subitem name k) ss) (suc i) h = after_bounds ss i h.1

pub numbered_bounds : (ss : SlotsTree) (t : ℕ) → SlotsInBounds ss → SlotInBounds (slot_numbered ss t)
numbered_bounds ss zero h = tt
numbered_bounds ss (suc i) h = after_bounds ss i h

numbered_is : (slots : List SlotTree) (t gap : ℕ) → t ≡ 1 + gap → slot_numbered (slots_of slots) t ≡ get_or slots gap spare_slot
numbered_is slots t gap e = ap (slot_numbered (slots_of slots)) (let f : t ≡ suc gap = omega (arith, e) in f) ∙ following_is slots gap

-- the slot that the code finds at a place
at_place : (all : List HeldSlot) (i : ℕ) (s : HeldSlot) → i < length all → s ≡ get_or all i s → slot_after i (held_slots all) ≡ held_slot s
at_place [] i s lt e = absurd (omega arith)
at_place (r ∷ all) zero s lt e = ap held_slot (sym e)
at_place (r ∷ all) (suc i) s lt e = at_place all i s (omega arith) e

pub at_number : (all : List HeldSlot) (t : ℕ) (s : HeldSlot) → 0 < t → t - 1 < length all → s ≡ get_or all (t - 1) s → slot_numbered (held_slots all) t ≡ held_slot s
at_number all zero s some lt e = absurd (omega arith)
at_number all (suc i) s some lt e =
    let same : suc i - 1 ≡ i = omega arith in at_place all i s (omega (arith, lt)) (e ∙ ap (λ k. get_or all k s) same)

-- ---- the marked slots that are left

pub record MarksShown (Done : Ending) (Failed : BodyFault → Type 0) (slots : List SlotTree) (path left body : List ℕ) (here : ℕ) (now : List ℕ) (i : ℕ) : Type 0 where
  pub within : here ≤ length body
  pub few : (t : ℕ) (rest : List ℕ) → Marks.slots_of left ≡ t ∷ rest → i < t
  pub clear : NoneUndefined (defined_slots (slots_of slots)) left
  pub are_bits : AreBits left
  pub leads : Leads Done Failed (by_slots (slot_lines path) (slot_numbered (slots_of slots))) entry_count (entries_at (slots_of slots) left body here) body here now i

-- what is known of the next slot
pub record NextSlot (slots : List SlotTree) (left now : List ℕ) (t : ℕ) : Type 0 where
  pub within : t - 1 < length slots
  pub name : List ℕ
  pub kind : KindTree
  pub found : slot_numbered (slots_of slots) t ≡ subitem name kind
  pub reads : (b : List ℕ) → entries_read 1 (slots_of slots) left b ≡ both (λ v es. entry_and t v es) (read kind b) (entries_read 1 (slots_of slots) now)
  pub clear : NoneUndefined (defined_slots (slots_of slots)) now
  pub are_bits : AreBits now

pub next_slot : (slots : List SlotTree) (left now rest : List ℕ) (t : ℕ) → NoneUndefined (defined_slots (slots_of slots)) left → AreBits left → Marks.slots_of left ≡ t ∷ rest → now ≡ set left (t - 1) 0 → NextSlot slots left now t
next_slot slots left now rest t clear bit e is =
    let f = first_is 1 slots left t rest e clear bit in
    let place : t - 1 ≡ f.gap = omega (arith, f.number) in
    let left_is : set left f.gap 0 ≡ now = ap (λ i. set left i 0) (sym place) ∙ sym is in record {
      within = omega (arith, f.within, place);
      name = f.name;
      kind = f.kind;
      found = numbered_is slots t f.gap f.number ∙ f.found;
      reads = λ b. f.reads b ∙ ap (λ ms. both (λ v es. entry_and t v es) (read f.kind b) (entries_read 1 (slots_of slots) ms)) left_is;
      clear = subst (NoneUndefined (defined_slots (slots_of slots))) left_is f.clear;
      are_bits = subst AreBits left_is f.are_bits;
    }

module _ (Done : Ending) (Failed : BodyFault → Type 0) (slots : List SlotTree) (path left next body : List ℕ) (t here : ℕ) (now : List ℕ) (i : ℕ) (h : MarksShown Done Failed slots path left body here now i) (n : NextSlot slots left next t) where
  pub marks_next : (end : ℕ) (new : List ℕ) → Marks.slots_of left ≡ t ∷ Marks.slots_of next → IsSlotShown (slot_numbered (slots_of slots) t) path body here end now new → MarksShown Done Failed slots path next body end new (i + 1)
  unfolding kind_read entries_at
  marks_next end new e s =
      let ss = slots_of slots in
      let w : Shows n.kind (Paths.at path n.name) body here end now new = subst (λ slot. SlotShows slot path body here end now new) n.found s.shows in
      let put : Puts as_lines (slot_lines path (slot_numbered ss t) w.value) now new = subst (λ slot. Puts as_lines (slot_lines path slot w.value) now new) (sym n.found) w.put in record {
        within = w.read.within;
        few = λ u rest f. (let lt = h.few t (Marks.slots_of next) e in let up = ascend 1 left t u rest (e ∙ ap (λ x. t ∷ x) f) in omega (arith, lt, up));
        clear = n.clear;
        are_bits = n.are_bits;
        leads = leads_next Done Failed (by_slots (slot_lines path) (slot_numbered ss)) (by_slots (slot_lines path) (slot_numbered ss)) (slot_lines path (slot_numbered ss t) w.value) entry_count entry_count
            (entries_at ss left body here) (entries_at ss next body end) body here end now new i (λ es. entry_and t w.value es) h.leads w.read.within
            (record { forwards = w.read.forwards; same = n.reads (bits (drop here body)) ∙ ap (λ r. both (λ v es. entry_and t v es) r (entries_read 1 ss next)) w.read.got })
            put (λ es u. refl) (λ es. add-one (entry_count es));
      }

  pub marks_failed : (e : DecodeError) → HasSlotFailed (slot_numbered (slots_of slots) t) body here e → (fault : BodyFault) → e ≡ DecodeError.Fault fault → Failed fault
  unfolding kind_read entries_at
  marks_failed e l fault is =
      let f : HasFailed (kind_read n.kind body here) here e = subst (λ slot. SlotFails slot body here e) n.found l.failed in
      let met = f.met fault is in
      h.leads.fails fault (record { place = met.place; failed = n.reads (bits (drop here body)) ∙ ap (λ r. both (λ v es. entry_and t v es) r (entries_read 1 (slots_of slots) next)) met.failed; bit = met.bit })

pub marks_last : (Done : Ending) (Failed : BodyFault → Type 0) (slots : List SlotTree) (path left body : List ℕ) (here : ℕ) (now : List ℕ) (i : ℕ) → MarksShown Done Failed slots path left body here now i → Marks.slots_of left ≡ [] → Done here now i
unfolding entries_at
marks_last Done Failed slots path left body here now i h e =
    let none = no_next_slot 1 left e in
    h.leads.ends here no_entries now i
    (record { forwards = omega arith; within = h.within; got = no_entries_left 1 (slots_of slots) left (bits (drop here body)) none ∙ ap (λ m. got no_entries m (bits (drop here body))) (let e : 0 ≡ 8 * (here - here) = omega arith in e) })
    (record { put = λ t. refl }) (omega arith)

-- ---- after the presence field

-- the lines of all entries, slot by slot
pub entries_lines_are : (ss : SlotsTree) (path body : List ℕ) (at end : ℕ) (es : EntriesTree) (t : Texts) → InBounds (compound ss) → Gets (kind_read (compound ss) body at) body at end (marked es)
    → entries_lines path 1 ss es t ≡ by_slots (slot_lines path) (slot_numbered ss) es t
entries_lines_are ss path body at end es t bounds g = entries_same (entries_lines path) (slot_lines path) (lines_made path) (slot_numbered ss) 1 ss es t (numbered ss) (entries_shape ss body at end es bounds g)

abbrev pub compound_done : List SlotTree → List ℕ → List ℕ → ℕ → List ℕ → Ending
compound_done slots path body at old end new n = ShowsCounted (compound (slots_of slots)) path (codes "subitems") body at end old new n

pub few_at_first : (marks : List ℕ) (t : ℕ) (rest : List ℕ) → Marks.slots_of marks ≡ t ∷ rest → 0 < t
few_at_first marks t rest e = omega (arith, first_from 1 marks t rest e)

pub compound_first : (slots : List SlotTree) (mask : SlotMask) (path body marks : List ℕ) (at here : ℕ) (out : List ℕ) → InBounds (compound (slots_of slots)) → IsMaskOf slots mask → MarksSlots mask body at here marks
    → MarksShown (compound_done slots path body at out) (FailsAt (kind_read (compound (slots_of slots)) body at) at) slots path marks body here out 0
compound_first slots mask path body marks at here out bounds m h = record {
  within = h.within;
  few = few_at_first marks;
  clear = marks_clear slots mask body marks at here m h;
  are_bits = marks_bits mask body marks at here h;
  leads = counted_first (compound (slots_of slots)) path (codes "subitems") body at here out (by_slots (slot_lines path) (slot_numbered (slots_of slots))) entry_count (entries_at (slots_of slots) marks body here) (λ es. marked es) h.within (field_read slots mask body marks at here m h)
      (λ es end g t. ap (λ u. count_line path (codes "subitems") (entry_count es) ∷ u) (entries_lines_are (slots_of slots) path body at end es t bounds g));
}
