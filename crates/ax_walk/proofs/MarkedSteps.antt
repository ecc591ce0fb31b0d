-- Marked slots, one after the other.
use Rattle.std.proofs.Common.{◌≡◌, ℕ, zero, suc, ◌+◌, ◌-◌, ◌*◌, ◌<◌, ◌≤◌, max, Bool, IsTrue, List, [], ◌∷◌, ◌++◌, length, drop, get_or, set, map, refl, sym, ◌∙◌, ap, arith, subst, append_assoc}
use Rattle.std.proofs.Math.Nat.{le-max_left, le-max_right, max-le}
use Rattle.std.proofs.lemmas.List.{length-map}
use Rattle.ax_bits.specs.Bits.{bits, AreBits}
use Rattle.ax_fspec.proofs.Walks.{no_next_slot}
use Rattle.ax_fspec.specs.Marks.{slots_from}
use Rattle.ax_fspec.specs.Marks as Marks
use Rattle.ax_format.proofs.Meets.{none_marked_left}
use Rattle.ax_format.specs.Reader.{got, both, read, entries_read}
use Rattle.ax_format.specs.Canonical.{canon}
use Rattle.ax_format.specs.InBounds.{InBounds, SlotsInBounds}
use Rattle.ax_format.specs.Presence.{none_marked, NoneUndefined}
use Rattle.ax_format.specs.Tree.{KindTree, ValueTree, EntriesTree, no_entries, entry_and, SlotsTree, no_slots, slot_and, SlotTree, spare_slot, subitem, slots_of, defined_slots}
use Rattle.ax_format.specs.declared.fault.BodyFault.{BodyFault}
use Rattle.ax_codec.specs.Meaning.{Meaning, meanings, nothing, kind_of, linked, linked_slot, linked_slots}
use Rattle.ax_codec.specs.Table.{SlotLinksWithin, kind_at}
use Rattle.ax_codec.specs.declared.node.Node.{Node}
use Rattle.ax_fspec.specs.Reading.{FailsAt, kind_read, entries_at}
use Rattle.ax_walk.proofs.Leading.{leads_none, leads_on, leads_by}
use Rattle.ax_walk.specs.Walking.{Walks, Leads, along}

-- ---- the greatest link

abbrev pub greatest : List ℕ → ℕ
greatest [] = 0
greatest (link ∷ links) = max link (greatest links)

pub greatest_within : (n : ℕ) (links : List ℕ) → SlotLinksWithin n links → greatest links ≤ n
greatest_within n [] h = omega arith
greatest_within n (link ∷ links) h = max-le h.0 (greatest_within n links h.1)

pub greatest_at : (links : List ℕ) (i d : ℕ) → i < length links → get_or links i d ≤ greatest links
greatest_at [] i d lt = absurd (omega arith)
greatest_at (link ∷ links) zero d lt = le-max_left link (greatest links)
greatest_at (link ∷ links) (suc i) d lt = omega (arith, le-max_right link (greatest links), greatest_at links i d (omega arith))

pub within_at : (n : ℕ) (links : List ℕ) (i d : ℕ) → SlotLinksWithin n links → i < length links → get_or links i d ≤ n
within_at n links i d h lt = omega (arith, greatest_at links i d lt, greatest_within n links h)

-- ---- the first marked slot

-- slot t is the first one marked, where the first of these slots has the number s; `name` and `kind` are its
record FirstIs (s : ℕ) (slots : List SlotTree) (ms : List ℕ) (t : ℕ) : Type 0 where
  gap : ℕ
  number : t ≡ s + gap
  within : gap < length slots
  name : List ℕ
  kind : KindTree
  found : get_or slots gap spare_slot ≡ subitem name kind
  reads : (b : List ℕ) → entries_read s (slots_of slots) ms b ≡ both (λ v es. entry_and t v es) (read kind b) (entries_read s (slots_of slots) (set ms gap 0))
  spells : (v : ValueTree) (es : EntriesTree) → along (slots_of slots) ms (entry_and t v es) ≡ canon kind v ++ along (slots_of slots) (set ms gap 0) es
  clear : NoneUndefined (defined_slots (slots_of slots)) (set ms gap 0)
  are_bits : AreBits (set ms gap 0)

none_first : (s : ℕ) (ms : List ℕ) → IsTrue (none_marked ms) → slots_from s ms ≡ []
none_first s [] h = refl
none_first s (zero ∷ ms) h = none_first (s + 1) ms h
none_first s (suc m ∷ ms) h = cc

further_spare : (s : ℕ) (slots : List SlotTree) (ms : List ℕ) (t : ℕ) → FirstIs (s + 1) slots ms t → FirstIs s (spare_slot ∷ slots) (0 ∷ ms) t
further_spare s slots ms t h = record {
  gap = suc h.gap;
  number = omega (arith, h.number);
  within = omega (arith, h.within);
  name = h.name;
  kind = h.kind;
  found = h.found;
  reads = h.reads;
  spells = h.spells;
  clear = (λ one. absurd (omega arith), h.clear);
  are_bits = (omega arith, h.are_bits);
}

further_sub : (s : ℕ) (name : List ℕ) (k : KindTree) (slots : List SlotTree) (ms : List ℕ) (t : ℕ) → FirstIs (s + 1) slots ms t → FirstIs s (subitem name k ∷ slots) (0 ∷ ms) t
further_sub s name k slots ms t h = record {
  gap = suc h.gap;
  number = omega (arith, h.number);
  within = omega (arith, h.within);
  name = h.name;
  kind = h.kind;
  found = h.found;
  reads = h.reads;
  spells = h.spells;
  clear = (λ one. tt, h.clear);
  are_bits = (omega arith, h.are_bits);
}

one_of : (m : ℕ) → suc m < 2 → suc m ≡ 1
one_of m lt = omega arith

first_is : (s : ℕ) (slots : List SlotTree) (ms : List ℕ) (t : ℕ) (rest : List ℕ) → slots_from s ms ≡ t ∷ rest → NoneUndefined (defined_slots (slots_of slots)) ms → AreBits ms → FirstIs s slots ms t
first_is s slots [] t rest e clear bit = cc
first_is s [] (m ∷ ms) t rest e clear bit = absurd (let none : slots_from s (m ∷ ms) ≡ [] = none_first s (m ∷ ms) (none_marked_left (m ∷ ms) clear bit) in let no : ◌≡◌ {A = List ℕ} [] (t ∷ rest) = sym none ∙ e in cc)
first_is s (spare_slot ∷ slots) (zero ∷ ms) t rest e clear bit = further_spare s slots ms t (first_is (s + 1) slots ms t rest e clear.1 bit.1)
first_is s (subitem name k ∷ slots) (zero ∷ ms) t rest e clear bit = further_sub s name k slots ms t (first_is (s + 1) slots ms t rest e clear.1 bit.1)
first_is s (spare_slot ∷ slots) (suc m ∷ ms) t rest e clear bit = absurd (clear.0 (one_of m bit.0))
first_is s (subitem name k ∷ slots) (suc m ∷ ms) t rest e clear bit =
    let same : s ≡ t = cc in record {
      gap = 0;
      number = omega arith;
      within = omega arith;
      name = name;
      kind = k;
      found = refl;
      reads = λ b. ap (λ n. both (λ v es. entry_and n v es) (read k b) (entries_read (s + 1) (slots_of slots) ms)) same;
      spells = λ v es. refl;
      clear = (λ one. tt, clear.1);
      are_bits = (omega arith, bit.1);
    }

-- ---- by links

get_map : {A : Type 0} (f : ℕ → A) (links : List ℕ) (i : ℕ) (d : A) → i < length links → get_or (map f links) i d ≡ f (get_or links i 0)
get_map f [] i d lt = absurd (omega arith)
get_map f (link ∷ links) zero d lt = refl
get_map f (link ∷ links) (suc i) d lt = get_map f links i d (omega arith)

link_of : (ms : List Meaning) (link : ℕ) (name : List ℕ) (k : KindTree) → linked_slot ms link ≡ subitem name k → (0 < link) × (k ≡ kind_of (linked ms link))
link_of ms zero name k e = absurd (let no : spare_slot ≡ subitem name k = e in cc)
link_of ms (suc i) name k e = (omega arith, let same : kind_of (get_or ms i nothing) ≡ k = cc in sym same)

kind_bounds : (slots : List SlotTree) (i : ℕ) (name : List ℕ) (k : KindTree) → SlotsInBounds (slots_of slots) → get_or slots i spare_slot ≡ subitem name k → InBounds k
kind_bounds [] i name k h e = absurd (let no : spare_slot ≡ subitem name k = e in cc)
kind_bounds (spare_slot ∷ slots) zero name k h e = absurd (let no : spare_slot ≡ subitem name k = e in cc)
kind_bounds (subitem n j ∷ slots) zero name k h e = subst InBounds (let same : j ≡ k = cc in same) h.0
kind_bounds (spare_slot ∷ slots) (suc i) name k h e = kind_bounds slots i name k h e
kind_bounds (subitem n j ∷ slots) (suc i) name k h e = kind_bounds slots i name k h.1 e

-- slot t is the first one marked in `left`, and `now` is the set without it
pub record NextMarked (nodes : List Node) (links left now : List ℕ) (t : ℕ) : Type 0 where
  pub within : t - 1 < length links
  pub some : 0 < get_or links (t - 1) 0
  pub bounds : InBounds (kind_at nodes (get_or links (t - 1) 0))
  pub reads : (b : List ℕ) → entries_read 1 (slots_of (linked_slots (meanings nodes) links)) left b ≡ both (λ v es. entry_and t v es) (read (kind_at nodes (get_or links (t - 1) 0)) b) (entries_read 1 (slots_of (linked_slots (meanings nodes) links)) now)
  pub spells : (v : ValueTree) (es : EntriesTree) → along (slots_of (linked_slots (meanings nodes) links)) left (entry_and t v es) ≡ canon (kind_at nodes (get_or links (t - 1) 0)) v ++ along (slots_of (linked_slots (meanings nodes) links)) now es
  pub clear : NoneUndefined (defined_slots (slots_of (linked_slots (meanings nodes) links))) now
  pub are_bits : AreBits now

pub next_marked : (nodes : List Node) (links left now rest : List ℕ) (t : ℕ) → SlotsInBounds (slots_of (linked_slots (meanings nodes) links)) → NoneUndefined (defined_slots (slots_of (linked_slots (meanings nodes) links))) left → AreBits left
    → Marks.slots_of left ≡ t ∷ rest → now ≡ set left (t - 1) 0 → NextMarked nodes links left now t
unfolding kind_at
next_marked nodes links left now rest t bounds clear bit e is =
    let ms = meanings nodes in
    let slots = linked_slots ms links in
    let f = first_is 1 slots left t rest e clear bit in
    let place : t - 1 ≡ f.gap = omega (arith, f.number) in
    let few : f.gap < length links = omega (arith, f.within, length-map links (linked_slot ms)) in
    let found : linked_slot ms (get_or links f.gap 0) ≡ subitem f.name f.kind = sym (get_map (linked_slot ms) links f.gap spare_slot few) ∙ f.found in
    let l = link_of ms (get_or links f.gap 0) f.name f.kind found in
    let link : get_or links (t - 1) 0 ≡ get_or links f.gap 0 = ap (λ i. get_or links i 0) place in
    let kind : f.kind ≡ kind_of (linked ms (get_or links (t - 1) 0)) = l.1 ∙ ap (λ n. kind_of (linked ms n)) (sym link) in
    let left_is : set left f.gap 0 ≡ now = ap (λ i. set left i 0) (sym place) ∙ sym is in record {
      within = omega arith;
      some = omega (arith, l.0, link);
      bounds = subst InBounds kind (kind_bounds slots f.gap f.name f.kind bounds f.found);
      reads = λ b. f.reads b ∙ (λ i. both (λ v es. entry_and t v es) (read (kind i) b) (entries_read 1 (slots_of slots) (left_is i)));
      spells = λ v es. f.spells v es ∙ (λ i. canon (kind i) v ++ along (slots_of slots) (left_is i) es);
      clear = subst (NoneUndefined (defined_slots (slots_of slots))) left_is f.clear;
      are_bits = subst AreBits left_is f.are_bits;
    }

-- ---- the walk

pub record MarksLead (slots : List SlotTree) (marks left body : List ℕ) (at here : ℕ) (least : Bool) : Type 0 where
  pub within : here ≤ length body
  pub clear : NoneUndefined (defined_slots (slots_of slots)) left
  pub are_bits : AreBits left
  pub leads : Leads (along (slots_of slots) left) (entries_at (slots_of slots) left body here) (along (slots_of slots) marks) (entries_at (slots_of slots) marks body at) body at here least

pub marks_first : (slots : List SlotTree) (marks body : List ℕ) (at : ℕ) (least : Bool) → NoneUndefined (defined_slots (slots_of slots)) marks → AreBits marks → at ≤ length body → MarksLead slots marks marks body at at least
marks_first slots marks body at least clear bit le = record { within = le; clear = clear; are_bits = bit; leads = leads_none (along (slots_of slots) marks) (entries_at (slots_of slots) marks body at) body at least le }

module _ (nodes : List Node) (links marks left now body : List ℕ) (t at here : ℕ) (before : Bool) (h : MarksLead (linked_slots (meanings nodes) links) marks left body at here before) (n : NextMarked nodes links left now t) where
  pub marks_next : (end : ℕ) (least : Bool) → (IsTrue least → IsTrue before) → Walks (canon (kind_at nodes (get_or links (t - 1) 0))) (kind_read (kind_at nodes (get_or links (t - 1) 0)) body here) body here end least
      → MarksLead (linked_slots (meanings nodes) links) marks now body at end least
  unfolding kind_read entries_at
  marks_next end least falls w =
      let ss = slots_of (linked_slots (meanings nodes) links) in
      let k = kind_at nodes (get_or links (t - 1) 0) in record {
        within = w.read.within;
        clear = n.clear;
        are_bits = n.are_bits;
        leads = leads_on (along ss now) (entries_at ss now body end) (along ss left) (entries_at ss left body here) (along ss marks) (entries_at ss marks body at) body at here end before least falls h.leads
            (leads_by (along ss now) (entries_at ss now body end) (along ss left) (entries_at ss left body here) body here end (λ es. entry_and t w.value es) least w.read.within
            (record { forwards = w.read.forwards; same = n.reads (bits (drop here body)) ∙ ap (λ r. both (λ v es. entry_and t v es) r (entries_read 1 ss now)) w.read.got })
            (λ es last f g c. ap (λ x. x ++ bits (drop last body)) (n.spells w.value es) ∙ append_assoc (canon k w.value) (along ss now es) (bits (drop last body)) ∙ ap (λ z. canon k w.value ++ z) c ∙ w.canonical f));
      }

  pub marks_failed : (fault : BodyFault) → FailsAt (kind_read (kind_at nodes (get_or links (t - 1) 0)) body here) here fault → FailsAt (entries_at (slots_of (linked_slots (meanings nodes) links)) marks body at) at fault
  unfolding kind_read entries_at
  marks_failed fault l =
      let ss = slots_of (linked_slots (meanings nodes) links) in
      h.leads.fails fault (record { place = l.place; failed = n.reads (bits (drop here body)) ∙ ap (λ r. both (λ v es. entry_and t v es) r (entries_read 1 ss now)) l.failed; bit = l.bit })

pub no_entries_left : (s : ℕ) (ss : SlotsTree) (ms b : List ℕ) → IsTrue (none_marked ms) → entries_read s ss ms b ≡ got no_entries 0 b
no_entries_left s no_slots ms b h = refl
no_entries_left s (slot_and spare_slot ss) [] b h = no_entries_left (s + 1) ss [] b h
no_entries_left s (slot_and spare_slot ss) (zero ∷ ms) b h = no_entries_left (s + 1) ss ms b h
no_entries_left s (slot_and (subitem name k) ss) [] b h = no_entries_left (s + 1) ss [] b h
no_entries_left s (slot_and (subitem name k) ss) (zero ∷ ms) b h = no_entries_left (s + 1) ss ms b h
no_entries_left s ss (suc m ∷ ms) b h = cc

pub along_none : (ss : SlotsTree) (ms : List ℕ) → IsTrue (none_marked ms) → along ss ms no_entries ≡ []
along_none no_slots ms h = refl
along_none (slot_and spare_slot ss) [] h = along_none ss [] h
along_none (slot_and spare_slot ss) (zero ∷ ms) h = along_none ss ms h
along_none (slot_and (subitem name k) ss) [] h = along_none ss [] h
along_none (slot_and (subitem name k) ss) (zero ∷ ms) h = along_none ss ms h
along_none ss (suc m ∷ ms) h = cc

pub marks_last : (slots : List SlotTree) (marks left body : List ℕ) (at here : ℕ) (least : Bool) → MarksLead slots marks left body at here least → Marks.slots_of left ≡ [] → Walks (along (slots_of slots) marks) (entries_at (slots_of slots) marks body at) body at here least
unfolding entries_at
marks_last slots marks left body at here least h e =
    let none = no_next_slot 1 left e in
    h.leads.gets here least (λ t. t) (record {
      value = no_entries;
      read = record { forwards = omega arith; within = h.within; got = no_entries_left 1 (slots_of slots) left (bits (drop here body)) none ∙ ap (λ m. got no_entries m (bits (drop here body))) (let e : 0 ≡ 8 * (here - here) = omega arith in e) };
      canonical = λ f. ap (λ x. x ++ bits (drop here body)) (along_none (slots_of slots) left none);
    })
