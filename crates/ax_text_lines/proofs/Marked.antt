-- The entries of marked slots, printed one after the other.
use Rattle.std.proofs.Common.{◌≡◌, ℕ, zero, suc, ◌+◌, ◌-◌, ◌*◌, ◌<◌, ◌≤◌, List, [], ◌∷◌, ◌++◌, length, drop, get_or, set, refl, sym, ◌∙◌, ap, arith, subst}
use Rattle.ax_bits.specs.Bits.{bits, AreBits}
use Rattle.ax_fspec.proofs.Walks.{no_next_slot}
use Rattle.ax_fspec.specs.Fields.{MarksSlots}
use Rattle.ax_fspec.specs.Marks as Marks
use Rattle.ax_fspec.specs.declared.mask.SlotMask.{SlotMask}
use Rattle.ax_held_kinds.proofs.MarkedSlots.{first_is, no_entries_left, entries_shape}
use Rattle.ax_format.specs.InBounds.{InBounds}
use Rattle.ax_format.specs.Presence.{NoneUndefined}
use Rattle.ax_format.specs.Reader.{got, both, read, entries_read}
use Rattle.ax_format.specs.Tree.{KindTree, EntriesTree, SlotTree, SlotsTree, compound, marked, spare_slot, subitem, slots_of, defined_slots, no_entries, entry_and}
use Rattle.ax_fspec.specs.Reading.{Gets, IsMaskOf, kind_read, entries_at}
use Rattle.ax_text_form.proofs.EntryWays.{by_slots, entries_same, numbered, texts_made}
use Rattle.ax_text_form.proofs.Printed.{both_put, braces_put}
use Rattle.ax_text_form.specs.Printing.{after_spaces, Puts}
use Rattle.ax_text_form.specs.Slots.{slot_after, slot_numbered, slot_onto}
use Rattle.ax_text_form.specs.ValueText.{Texts, opening, closing, one_onto, kind_onto, entries_onto}
use Rattle.ax_text_lines.proofs.Leading.{Leads, leads_none, leads_by, leads_on}
use Rattle.ax_text_lines.specs.Prints.{slots_onto, Prints, SlotPrints, IsSlotPrinted}
use Rattle.ax_values.proofs.Marking.{compound_gets}
use Rattle.ax_values.specs.SlotReading.{HasFailed, HasSlotFailed, SlotFails}
use Rattle.ax_values.specs.declared.error.DecodeError.{DecodeError}

-- ---- slots by their numbers

following_is : (slots : List SlotTree) (i : ℕ) → slot_after i (slots_of slots) ≡ get_or slots i spare_slot
following_is [] zero = refl
following_is [] (suc i) = refl
following_is (s ∷ slots) zero = refl
following_is (s ∷ slots) (suc i) = following_is slots i

numbered_is : (slots : List SlotTree) (t gap : ℕ) → t ≡ 1 + gap → slot_numbered (slots_of slots) t ≡ get_or slots gap spare_slot
numbered_is slots t gap e = ap (slot_numbered (slots_of slots)) (let f : t ≡ suc gap = omega (arith, e) in f) ∙ following_is slots gap

-- a slot that is found at the place of the number
pub at_number : (slots : List SlotTree) (t : ℕ) (s : SlotTree) → 0 < t → t - 1 < length slots → s ≡ get_or slots (t - 1) s → slot_numbered (slots_of slots) t ≡ s
at_number slots t s some lt e = numbered_is slots t (t - 1) (omega (arith, some)) ∙ within slots (t - 1) s lt e
  where
    within : (slots : List SlotTree) (i : ℕ) (s : SlotTree) → i < length slots → s ≡ get_or slots i s → get_or slots i spare_slot ≡ s
    within [] i s lt e = absurd (omega arith)
    within (r ∷ slots) zero s lt e = sym e
    within (r ∷ slots) (suc i) s lt e = within slots i s (omega arith) e

-- ---- the marked slots that are left

-- the entries of the slots that were taken out of these marks are printed, up to octet here
pub record MarksLead (slots : List SlotTree) (marks left body : List ℕ) (at here : ℕ) (old now : List ℕ) : Type 0 where
  pub within : here ≤ length body
  pub clear : NoneUndefined (defined_slots (slots_of slots)) left
  pub are_bits : AreBits left
  pub leads : Leads (slots_onto (slots_of slots)) (entries_at (slots_of slots) left body here) (slots_onto (slots_of slots)) (entries_at (slots_of slots) marks body at) body at here old now

pub marks_begin : (slots : List SlotTree) (marks body : List ℕ) (at : ℕ) (out : List ℕ) → NoneUndefined (defined_slots (slots_of slots)) marks → AreBits marks → at ≤ length body → MarksLead slots marks marks body at at out out
marks_begin slots marks body at out clear bit le = record { within = le; clear = clear; are_bits = bit; leads = leads_none (slots_onto (slots_of slots)) (entries_at (slots_of slots) marks body at) body at out }

-- what is known of the next slot
pub record NextSlot (slots : List SlotTree) (left now : List ℕ) (t : ℕ) : Type 0 where
  pub within : t - 1 < length slots
  pub name : List ℕ
  pub kind : KindTree
  pub found : slot_numbered (slots_of slots) t ≡ subitem name kind
  pub reads : (b : List ℕ) → entries_read 1 (slots_of slots) left b ≡ both (λ v es. entry_and t v es) (read kind b) (entries_read 1 (slots_of slots) now)
  pub clear : NoneUndefined (defined_slots (slots_of slots)) now
  pub are_bits : AreBits now

pub next_slot : (slots : List SlotTree) (left now rest : List ℕ) (t : ℕ) → NoneUndefined (defined_slots (slots_of slots)) left → AreBits left → Marks.slots_of left ≡ t ∷ rest → now ≡ set left (t - 1) 0 → NextSlot slots left now t
next_slot slots left now rest t clear bit e is =
    let f = first_is 1 slots left t rest e clear bit in
    let place : t - 1 ≡ f.gap = omega (arith, f.number) in
    let left_is : set left f.gap 0 ≡ now = ap (λ i. set left i 0) (sym place) ∙ sym is in record {
      within = omega (arith, f.within, place);
      name = f.name;
      kind = f.kind;
      found = numbered_is slots t f.gap f.number ∙ f.found;
      reads = λ b. f.reads b ∙ ap (λ ms. both (λ v es. entry_and t v es) (read f.kind b) (entries_read 1 (slots_of slots) ms)) left_is;
      clear = subst (NoneUndefined (defined_slots (slots_of slots))) left_is f.clear;
      are_bits = subst AreBits left_is f.are_bits;
    }

module _ (slots : List SlotTree) (marks left next body : List ℕ) (t at here : ℕ) (old now : List ℕ) (h : MarksLead slots marks left body at here old now) (n : NextSlot slots left next t) where
  pub marks_next : (end : ℕ) (new : List ℕ) → IsSlotPrinted (slot_numbered (slots_of slots) t) body here end now new → MarksLead slots marks next body at end old new
  unfolding kind_read entries_at
  marks_next end new p =
      let ss = slots_of slots in
      let w : Prints (slot_onto (subitem n.name n.kind)) (kind_read n.kind body here) body here end now new = subst (λ slot. SlotPrints slot body here end now new) n.found p.prints in
      let put : Puts after_spaces (slot_onto (slot_numbered ss t) w.value) now new = subst (λ slot. Puts after_spaces (slot_onto slot w.value) now new) (sym n.found) w.put in record {
        within = w.read.within;
        clear = n.clear;
        are_bits = n.are_bits;
        leads = leads_on h.leads
            (leads_by (slots_onto (slots_of slots)) (entries_at ss next body end) (slots_onto (slots_of slots)) (entries_at ss left body here) body here end now new (λ es. entry_and t w.value es) (slot_onto (slot_numbered ss t) w.value)
            (record { forwards = w.read.forwards; same = n.reads (bits (drop here body)) ∙ ap (λ r. both (λ v es. entry_and t v es) r (entries_read 1 ss next)) w.read.got }) (λ es rest. refl) put);
      }

  pub marks_failed : (e : DecodeError) → HasSlotFailed (slot_numbered (slots_of slots) t) body here e → HasFailed (entries_at (slots_of slots) marks body at) at e
  unfolding kind_read entries_at
  marks_failed e l =
      let f : HasFailed (kind_read n.kind body here) here e = subst (λ slot. SlotFails slot body here e) n.found l.failed in
      h.leads.fails e
      (record {
        met = λ fault is.
            let met = f.met fault is in
            record { place = met.place; failed = n.reads (bits (drop here body)) ∙ ap (λ r. both (λ v es. entry_and t v es) r (entries_read 1 (slots_of slots) next)) met.failed; bit = met.bit };
      })

pub marks_last : (slots : List SlotTree) (marks left body : List ℕ) (at here : ℕ) (old now : List ℕ) → MarksLead slots marks left body at here old now → Marks.slots_of left ≡ [] → Prints (slots_onto (slots_of slots)) (entries_at (slots_of slots) marks body at) body at here old now
unfolding entries_at
marks_last slots marks left body at here old now h e =
    let none = no_next_slot 1 left e in
    h.leads.prints here now (record {
      value = no_entries;
      read = record { forwards = omega arith; within = h.within; got = no_entries_left 1 (slots_of slots) left (bits (drop here body)) none ∙ ap (λ m. got no_entries m (bits (drop here body))) (let e : 0 ≡ 8 * (here - here) = omega arith in e) };
      put = record { put = λ rest. refl };
    })

slot_by_slot : (ss : SlotsTree) (es : EntriesTree) (rest : Texts) → by_slots slot_onto (slot_numbered ss) es rest ≡ slots_onto ss es rest
slot_by_slot ss no_entries rest = refl
slot_by_slot ss (entry_and t v es) rest = ap (slot_onto (slot_numbered ss t) v) (slot_by_slot ss es rest)

-- the texts of all entries, slot by slot
pub entries_onto_are : (slots : List SlotTree) (body : List ℕ) (at end : ℕ) (es : EntriesTree) (rest : Texts) → InBounds (compound (slots_of slots)) → Gets (kind_read (compound (slots_of slots)) body at) body at end (marked es) → entries_onto 1 (slots_of slots) es rest ≡ slots_onto (slots_of slots) es rest
entries_onto_are slots body at end es rest bounds g =
    let ss = slots_of slots in entries_same entries_onto slot_onto texts_made (slot_numbered ss) 1 ss es rest (numbered ss) (entries_shape ss body at end es bounds g) ∙ slot_by_slot ss es rest

-- ---- a slot, and a compound

pub slot_printed : (name : List ℕ) (k : KindTree) (body : List ℕ) (at end : ℕ) (old mid new : List ℕ) → Puts after_spaces (one_onto name) old mid → Prints (kind_onto k) (kind_read k body at) body at end mid new → IsSlotPrinted (subitem name k) body at end old new
slot_printed name k body at end old mid new p q = record { prints = record { value = q.value; read = q.read; put = both_put (one_onto name) (kind_onto k q.value) old mid new p q.put } }

pub named_printed : (name : List ℕ) (k : KindTree) (body : List ℕ) (at end : ℕ) (old new : List ℕ) → Prints (slot_onto (subitem name k)) (kind_read k body at) body at end old new → IsSlotPrinted (subitem name k) body at end old new
named_printed name k body at end old new p = record { prints = p }

pub ruleset slots = (slot_printed, named_printed)

pub compound_printed : (slots : List SlotTree) (mask : SlotMask) (body marks : List ℕ) (at here end : ℕ) (old a c new : List ℕ) → InBounds (compound (slots_of slots)) → IsMaskOf slots mask → MarksSlots mask body at here marks → Puts after_spaces (one_onto opening) old a
    → Prints (slots_onto (slots_of slots)) (entries_at (slots_of slots) marks body here) body here end a c → Puts after_spaces (one_onto closing) c new → Prints (kind_onto (compound (slots_of slots))) (kind_read (compound (slots_of slots)) body at) body at end old new
compound_printed slots mask body marks at here end old a c new bounds m h o p l =
    let read = compound_gets slots mask body marks at here end p.value m h p.read in record {
      value = marked p.value;
      read = read;
      put = braces_put (entries_onto 1 (slots_of slots) p.value) old a c new o
          (record { put = λ rest. p.put.put rest ∙ ap (λ t. a ++ after_spaces t) (sym (entries_onto_are slots body at end p.value rest bounds read)) }) l;
    }
