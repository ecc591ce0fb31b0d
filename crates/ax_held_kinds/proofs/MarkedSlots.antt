-- The marked slots of a presence field, the first one after the other.
use Rattle.std.proofs.Common.{◌≡◌, ℕ, zero, suc, ◌+◌, ◌*◌, ◌<◌, ◌≤◌, IsTrue, List, [], ◌∷◌, length, take, drop, get_or, set, refl, sym, ◌∙◌, ap, arith, subst, take-append-drop}
use Rattle.ax_bits.specs.Bits.{AreBits}
use Rattle.ax_fspec.specs.Fields.{MarksSlots}
use Rattle.ax_fspec.specs.Marks.{slots_from}
use Rattle.ax_fspec.specs.declared.mask.SlotMask.{SlotMask}
use Rattle.ax_format.proofs.CanonSpells.{spells_shape}
use Rattle.ax_format.proofs.Meets.{none_marked_left, NoneUndefined-append}
use Rattle.ax_format.proofs.Spelled.{unmarked}
use Rattle.ax_format.specs.InBounds.{InBounds}
use Rattle.ax_format.specs.Presence.{none_marked, NoneUndefined, slots_past}
use Rattle.ax_format.specs.Reader.{got, both, read, entries_read}
use Rattle.ax_format.specs.Shape.{EntriesShape}
use Rattle.ax_format.specs.Tree.{KindTree, EntriesTree, no_entries, entry_and, SlotsTree, no_slots, slot_and, SlotTree, spare_slot, subitem, slots_of, defined_slots, compound, marked}
use Rattle.ax_fspec.proofs.Exact.{spelled_at}
use Rattle.ax_fspec.specs.Reading.{Gets, IsMaskOf, kind_read}

-- ---- the first marked slot

-- slot t is the first one marked, where the first of these slots has the number s; `name` and `kind` are its
pub record FirstIs (s : ℕ) (slots : List SlotTree) (ms : List ℕ) (t : ℕ) : Type 0 where
  pub gap : ℕ
  pub number : t ≡ s + gap
  pub within : gap < length slots
  pub name : List ℕ
  pub kind : KindTree
  pub found : get_or slots gap spare_slot ≡ subitem name kind
  pub reads : (b : List ℕ) → entries_read s (slots_of slots) ms b ≡ both (λ v es. entry_and t v es) (read kind b) (entries_read s (slots_of slots) (set ms gap 0))
  pub clear : NoneUndefined (defined_slots (slots_of slots)) (set ms gap 0)
  pub are_bits : AreBits (set ms gap 0)

none_first : (s : ℕ) (ms : List ℕ) → IsTrue (none_marked ms) → slots_from s ms ≡ []
none_first s [] h = refl
none_first s (zero ∷ ms) h = none_first (s + 1) ms h
none_first s (suc m ∷ ms) h = cc

further_spare : (s : ℕ) (slots : List SlotTree) (ms : List ℕ) (t : ℕ) → FirstIs (s + 1) slots ms t → FirstIs s (spare_slot ∷ slots) (0 ∷ ms) t
further_spare s slots ms t h = record {
  gap = suc h.gap;
  number = omega (arith, h.number);
  within = omega (arith, h.within);
  name = h.name;
  kind = h.kind;
  found = h.found;
  reads = h.reads;
  clear = (λ one. absurd (omega arith), h.clear);
  are_bits = (omega arith, h.are_bits);
}

further_sub : (s : ℕ) (name : List ℕ) (k : KindTree) (slots : List SlotTree) (ms : List ℕ) (t : ℕ) → FirstIs (s + 1) slots ms t → FirstIs s (subitem name k ∷ slots) (0 ∷ ms) t
further_sub s name k slots ms t h = record {
  gap = suc h.gap;
  number = omega (arith, h.number);
  within = omega (arith, h.within);
  name = h.name;
  kind = h.kind;
  found = h.found;
  reads = h.reads;
  clear = (λ one. tt, h.clear);
  are_bits = (omega arith, h.are_bits);
}

one_of : (m : ℕ) → suc m < 2 → suc m ≡ 1
one_of m lt = omega arith

pub first_is : (s : ℕ) (slots : List SlotTree) (ms : List ℕ) (t : ℕ) (rest : List ℕ) → slots_from s ms ≡ t ∷ rest → NoneUndefined (defined_slots (slots_of slots)) ms → AreBits ms → FirstIs s slots ms t
first_is s slots [] t rest e clear bit = cc
first_is s [] (m ∷ ms) t rest e clear bit = absurd (let none : slots_from s (m ∷ ms) ≡ [] = none_first s (m ∷ ms) (none_marked_left (m ∷ ms) clear bit) in let no : ◌≡◌ {A = List ℕ} [] (t ∷ rest) = sym none ∙ e in cc)
first_is s (spare_slot ∷ slots) (zero ∷ ms) t rest e clear bit = further_spare s slots ms t (first_is (s + 1) slots ms t rest e clear.1 bit.1)
first_is s (subitem name k ∷ slots) (zero ∷ ms) t rest e clear bit = further_sub s name k slots ms t (first_is (s + 1) slots ms t rest e clear.1 bit.1)
first_is s (spare_slot ∷ slots) (suc m ∷ ms) t rest e clear bit = absurd (clear.0 (one_of m bit.0))
first_is s (subitem name k ∷ slots) (suc m ∷ ms) t rest e clear bit =
    let same : s ≡ t = cc in record {
      gap = 0;
      number = omega arith;
      within = omega arith;
      name = name;
      kind = k;
      found = refl;
      reads = λ b. ap (λ n. both (λ v es. entry_and n v es) (read k b) (entries_read (s + 1) (slots_of slots) ms)) same;
      clear = (λ one. tt, clear.1);
      are_bits = (omega arith, bit.1);
    }

-- ---- marked slots ascend

pub first_from : (s : ℕ) (ms : List ℕ) (t : ℕ) (rest : List ℕ) → slots_from s ms ≡ t ∷ rest → s ≤ t
first_from s [] t rest e = cc
first_from s (zero ∷ ms) t rest e = omega (arith, first_from (s + 1) ms t rest e)
first_from s (suc m ∷ ms) t rest e = let same : s ≡ t = cc in omega arith

pub ascend : (s : ℕ) (ms : List ℕ) (t u : ℕ) (rest : List ℕ) → slots_from s ms ≡ t ∷ u ∷ rest → t < u
ascend s [] t u rest e = cc
ascend s (zero ∷ ms) t u rest e = ascend (s + 1) ms t u rest e
ascend s (suc m ∷ ms) t u rest e =
    let same : s ≡ t = cc in
    let later : slots_from (s + 1) ms ≡ u ∷ rest = cc in omega (arith, first_from (s + 1) ms u rest later)

-- ---- when none is left

pub no_entries_left : (s : ℕ) (ss : SlotsTree) (ms b : List ℕ) → IsTrue (none_marked ms) → entries_read s ss ms b ≡ got no_entries 0 b
no_entries_left s no_slots ms b h = refl
no_entries_left s (slot_and spare_slot ss) [] b h = no_entries_left (s + 1) ss [] b h
no_entries_left s (slot_and spare_slot ss) (zero ∷ ms) b h = no_entries_left (s + 1) ss ms b h
no_entries_left s (slot_and (subitem name k) ss) [] b h = no_entries_left (s + 1) ss [] b h
no_entries_left s (slot_and (subitem name k) ss) (zero ∷ ms) b h = no_entries_left (s + 1) ss ms b h
no_entries_left s ss (suc m ∷ ms) b h = cc

-- ---- after the presence field

pub marks_clear : (slots : List SlotTree) (mask : SlotMask) (body marks : List ℕ) (at here : ℕ) → IsMaskOf slots mask → MarksSlots mask body at here marks → NoneUndefined (defined_slots (slots_of slots)) marks
marks_clear slots mask body marks at here m h =
    let f = h.field in
    let front = take (7 * f.octets) marks in
    let rest = drop (7 * f.octets) marks in
    let ds = defined_slots (slots_of slots) in
    let clear : NoneUndefined ds front = subst (λ ds. NoneUndefined ds front) m.defined f.field.clear in
    subst (NoneUndefined ds) (take-append-drop (7 * f.octets) marks) (NoneUndefined-append ds front rest clear (unmarked rest (slots_past front ds) f.no_other))

-- what the entries that are read have
pub entries_shape : (ss : SlotsTree) (body : List ℕ) (at end : ℕ) (es : EntriesTree) → InBounds (compound ss) → Gets (kind_read (compound ss) body at) body at end (marked es) → EntriesShape 1 ss es
entries_shape ss body at end es bounds g = spells_shape (compound ss) (marked es) _ (spelled_at (compound ss) body at end (marked es) bounds g).spelling.spells
