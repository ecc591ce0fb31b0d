-- Windows of marked slots, one after the other.
use Rattle.std.proofs.Common.{◌≡◌, ℕ, zero, suc, ◌-◌, ◌*◌, ◌<◌, ◌≤◌, ◌⊎◌, inl, inr, ⊎_elim, if◌then◌else◌, Bool, Option, Some, None, IfSome, IfNone, List, [], ◌∷◌, length, take, drop, get_or, set, refl, sym, ◌∙◌, ap, arith, subst, length-drop}
use Rattle.std.proofs.lemmas.Bool.{cases_eq}
use Rattle.std.proofs.lemmas.List.{length-take-le, append_cancel_right, get_or-set_same, get_or-set_other, length-set, get_or_default}
use Rattle.ax_bits.proofs.Words.{length-bits}
use Rattle.ax_bits.specs.Bits.{bits, AreBits}
use Rattle.ax_fspec.proofs.Walks.{next_slot, no_next_slot}
use Rattle.ax_fspec.specs.Fields.{MarksSlots}
use Rattle.ax_fspec.specs.Marks.{IsMarked}
use Rattle.ax_fspec.specs.Marks as Marks
use Rattle.ax_fspec.specs.declared.mask.SlotMask.{SlotMask}
use Rattle.ax_format.proofs.Least as Least
use Rattle.ax_format.proofs.Places.{none_marked_at}
use Rattle.ax_format.specs.At.{slot_value}
use Rattle.ax_format.specs.Canonical.{canon}
use Rattle.ax_format.specs.Reader.{got, both, entries_read}
use Rattle.ax_format.specs.Tree.{marked, EntriesTree, no_entries, entry_and, slots_of, compound}
use Rattle.ax_format.specs.declared.fault.BodyFault.{BodyFault}
use Rattle.ax_fspec.proofs.AtOctets.{octets_parts}
use Rattle.ax_fspec.proofs.Continuing.{gets_after}
use Rattle.ax_fspec.proofs.Marking.{field_read}
use Rattle.ax_fspec.specs.Reading.{Gets, FailsAt, Continues, IsMaskOf, kind_read, entries_at}
use Rattle.ax_codec.specs.Meaning.{meanings, linked_slots}
use Rattle.ax_codec.specs.Table.{kind_at, record_kind_at}
use Rattle.ax_codec.specs.declared.node.Node.{Node}
use Rattle.ax_codec.specs.declared.node.Node.TheVariants as Of
use Rattle.ax_walk.proofs.Found.{alone, not_same, here_is, read_all}
use Rattle.ax_walk.proofs.MarkedSteps.{NextMarked, no_entries_left}
use Rattle.ax_walk.specs.Placing.{HoldsValue, ArePlaced, PlacesEntries, PlacesKind, no_window, window_value}
use Rattle.ax_walk.specs.Values.{IsAll, IsOne}
use Rattle.ax_walk.specs.Walking.{Walks}
use Rattle.ax_walk.specs.declared.places.Places.{Places}
use Rattle.ax_walk.specs.declared.places.Window.{Window}

-- ---- sets

bit_at : (ms : List ℕ) (i : ℕ) → AreBits ms → get_or ms i 0 < 2
bit_at [] i h = omega arith
bit_at (m ∷ ms) zero h = h.0
bit_at (m ∷ ms) (suc i) h = bit_at ms i h.1

-- the first slot of a set is in it
pub first_in : (left rest : List ℕ) (t : ℕ) → AreBits left → Marks.slots_of left ≡ t ∷ rest → IsMarked left t
first_in left rest t bit e =
    let n = next_slot 1 left t rest e in
    let place : t - 1 ≡ n.gap = omega (arith, n.slot) in
    let is : get_or left (t - 1) 0 ≡ get_or left n.gap 0 = ap (λ i. get_or left i 0) place in
    (omega (arith, n.slot), omega (arith, is, n.marked, bit_at left n.gap bit))

cleared : (ms : List ℕ) (i : ℕ) → get_or (set ms i 0) i 0 ≡ 0
cleared [] i = refl
cleared (m ∷ ms) zero = refl
cleared (m ∷ ms) (suc i) = cleared ms i

module _ (left now : List ℕ) (t : ℕ) (first : IsMarked left t) (is : now ≡ set left (t - 1) 0) where
  not_first : (s : ℕ) → IsMarked now s → s ≡ t → ⊥
  not_first s m e =
      let zero_there : get_or now (s - 1) 0 ≡ 0 = (λ i. get_or (is i) (e i - 1) 0) ∙ cleared left (t - 1) in omega (arith, zero_there, m.1)

  apart : (s : ℕ) → 0 < s → (s ≡ t → ⊥) → s - 1 ≡ t - 1 → ⊥
  apart s some d e = d (omega (arith, first.0))

  same_mark : (s : ℕ) → 0 < s → (s ≡ t → ⊥) → get_or now (s - 1) 0 ≡ get_or left (s - 1) 0
  same_mark s some d = ap (λ ms. get_or ms (s - 1) 0) is ∙ get_or-set_other left (t - 1) (s - 1) 0 0 (apart s some d)

  was_marked : (s : ℕ) → IsMarked now s → IsMarked left s
  was_marked s m = (m.0, sym (same_mark s m.0 (not_first s m)) ∙ m.1)

  still_marked : (s : ℕ) → IsMarked left s → (s ≡ t → ⊥) → IsMarked now s
  still_marked s m d = (m.0, same_mark s m.0 d ∙ m.1)

-- ---- windows

-- the values that were read stand in their windows, and the others in what is left
pub record PlacedSoFar (nodes : List Node) (links marks left body : List ℕ) (at here : ℕ) (windows : List Window) : Type 0 where
  pub size : length windows ≡ 127
  pub front : EntriesTree → EntriesTree
  pub gets : (end : ℕ) (es : EntriesTree) → Gets (entries_at (slots_of (linked_slots (meanings nodes) links)) left body here) body here end es → Gets (entries_at (slots_of (linked_slots (meanings nodes) links)) marks body at) body at end (front es)
  pub subset : (s : ℕ) → IsMarked left s → IsMarked marks s
  pub waits : (s : ℕ) → (IsMarked marks s → ⊥) ⊎ IsMarked left s → (es : EntriesTree) → slot_value s (front es) ≡ slot_value s es
  pub there : (s : ℕ) → IsMarked marks s → (IsMarked left s → ⊥) → HoldsValue nodes links body s (get_or windows s no_window)
  pub values : (s : ℕ) → IsMarked marks s → (IsMarked left s → ⊥) → (es : EntriesTree) → slot_value s (front es) ≡ Some (window_value nodes links body s (get_or windows s no_window))

pub placed_first : (nodes : List Node) (links marks body : List ℕ) (at : ℕ) (windows : List Window) → length windows ≡ 127 → PlacedSoFar nodes links marks marks body at at windows
placed_first nodes links marks body at windows size = record {
  size = size;
  front = λ es. es;
  gets = λ end es h. h;
  subset = λ s m. m;
  waits = λ s c es. refl;
  there = λ s m n. absurd (n m);
  values = λ s m n es. absurd (n m);
}

module _ (nodes : List Node) (links marks left now body rest : List ℕ) (t at here : ℕ) (windows : List Window) (p : PlacedSoFar nodes links marks left body at here windows) (n : NextMarked nodes links left now t)
    (bit : AreBits left) (is_first : Marks.slots_of left ≡ t ∷ rest) (is : now ≡ set left (t - 1) 0) (small : t ≤ 126) (few : length body ≤ 65532) (end : ℕ) (least : Bool)
    (w : Walks (canon (kind_at nodes (get_or links (t - 1) 0))) (kind_read (kind_at nodes (get_or links (t - 1) 0)) body here) body here end least) where
  first : IsMarked left t
  first = first_in left rest t bit is_first

  continues : Continues (entries_at (slots_of (linked_slots (meanings nodes) links)) left body here) here end (λ es. entry_and t w.value es) (entries_at (slots_of (linked_slots (meanings nodes) links)) now body end)
  unfolding kind_read entries_at
  continues = record { forwards = w.read.forwards; same = n.reads (bits (drop here body)) ∙ ap (λ r. both (λ v es. entry_and t v es) r (entries_read 1 (slots_of (linked_slots (meanings nodes) links)) now)) w.read.got }

  value_is : window_value nodes links body t (record { start = here; end = end; least = least }) ≡ w.value
  value_is = (alone (kind_at nodes (get_or links (t - 1) 0)) body here end w.value n.bounds w.read).value

  holds : HoldsValue nodes links body t (record { start = here; end = end; least = least })
  holds =
      let k = kind_at nodes (get_or links (t - 1) 0) in
      let a = alone k body here end w.value n.bounds w.read in record {
        small = omega arith;
        known = n.within;
        link = n.some;
        bounds = n.bounds;
        forwards = w.read.forwards;
        within = w.read.within;
        one = record { all = a.all; few = omega (arith, w.read.forwards, w.read.within, few, length-drop here body, length-take-le (end - here) (drop here body) (omega (arith, length-drop here body, w.read.within))) };
        least = λ said. ap (canon k) a.value ∙ append_cancel_right (canon k w.value) (bits (take (end - here) (drop here body))) (bits (drop end body)) (w.canonical said ∙ octets_parts body here end w.read.forwards);
      }

  here_value : (es : EntriesTree) → slot_value t (entry_and t w.value es) ≡ Some w.value
  here_value es = here_is t t w.value es (Least.here t t refl)

  not_here : (s : ℕ) → (s ≡ t → ⊥) → (es : EntriesTree) → slot_value s (entry_and t w.value es) ≡ slot_value s es
  not_here s d es = ap (λ b. if b then Some w.value else slot_value s es) (not_same t s (λ e. d (sym e)))

  same_window : (s : ℕ) → (s ≡ t → ⊥) → get_or (set windows t (record { start = here; end = end; least = least })) s no_window ≡ get_or windows s no_window
  same_window s d = get_or-set_other windows t s (record { start = here; end = end; least = least }) no_window d

  own_window : get_or (set windows t (record { start = here; end = end; least = least })) t no_window ≡ record { start = here; end = end; least = least }
  own_window = get_or-set_same windows t (record { start = here; end = end; least = least }) no_window (omega (arith, p.size))

  other : (s : ℕ) → (IsMarked marks s → ⊥) ⊎ IsMarked now s → s ≡ t → ⊥
  other s (inl none) e = none (subst (IsMarked marks) (sym e) (p.subset t first))
  other s (inr m) e = not_first left now t first is s m e

  before : (s : ℕ) → (IsMarked marks s → ⊥) ⊎ IsMarked now s → (IsMarked marks s → ⊥) ⊎ IsMarked left s
  before s (inl none) = inl none
  before s (inr m) = inr (was_marked left now t first is s m)

  pub placed_next : PlacedSoFar nodes links marks now body at end (set windows t (record { start = here; end = end; least = least }))
  placed_next =
      let ws = set windows t (record { start = here; end = end; least = least }) in record {
        size = length-set windows t (record { start = here; end = end; least = least }) ∙ p.size;
        front = λ es. p.front (entry_and t w.value es);
        gets = λ last es h. p.gets last (entry_and t w.value es) (gets_after (entries_at (slots_of (linked_slots (meanings nodes) links)) left body here) (entries_at (slots_of (linked_slots (meanings nodes) links)) now body end) body here end last (λ es. entry_and t w.value es) es continues h);
        subset = λ s m. p.subset s (was_marked left now t first is s m);
        waits = λ s c es. p.waits s (before s c) (entry_and t w.value es) ∙ not_here s (other s c) es;
        there = λ s m none.
            ⊎_elim (λ e. subst (λ x. HoldsValue nodes links body x (get_or ws x no_window)) (sym e) (subst (HoldsValue nodes links body t) (sym own_window) holds))
            (λ d. subst (HoldsValue nodes links body s) (sym (same_window s d)) (p.there s m (λ l. none (still_marked left now t first is s l d)))) (cases_eq s t);
        values = λ s m none es.
            ⊎_elim (λ e. subst (λ x. slot_value x (p.front (entry_and t w.value es)) ≡ Some (window_value nodes links body x (get_or ws x no_window))) (sym e)
            (p.waits t (inr first) (entry_and t w.value es) ∙ here_value es ∙ ap (λ v. Some v) (sym value_is) ∙ ap (λ x. Some (window_value nodes links body t x)) (sym own_window)))
            (λ d. p.values s m (λ l. none (still_marked left now t first is s l d)) (entry_and t w.value es) ∙ ap (λ x. Some (window_value nodes links body s x)) (sym (same_window s d))) (cases_eq s t);
      }

pub placed_last : (nodes : List Node) (links marks left body : List ℕ) (at here : ℕ) (windows : List Window) → here ≤ length body → PlacedSoFar nodes links marks left body at here windows → Marks.slots_of left ≡ [] → PlacesEntries nodes links marks body at windows here
unfolding entries_at
placed_last nodes links marks left body at here windows within p e =
    let none = no_next_slot 1 left e in
    let un : (s : ℕ) → IsMarked left s → ⊥ = λ s m. (let z = none_marked_at left (s - 1) none in let one = m.1 in omega arith) in
    let ss = slots_of (linked_slots (meanings nodes) links) in record {
      entries = p.front no_entries;
      read = p.gets here no_entries (record { forwards = omega arith; within = within; got = no_entries_left 1 ss left (bits (drop here body)) none ∙ ap (λ m. got no_entries m (bits (drop here body))) (let e : 0 ≡ 8 * (here - here) = omega arith in e) });
      placed = record { there = λ s m. p.there s m (un s); values = λ s m. p.values s m (un s) no_entries; others = λ s n. p.waits s (inl n) no_entries };
    }

-- ---- with the presence field in front

pub placed_kind : (nodes : List Node) (links body marks : List ℕ) (mask : SlotMask) (at here : ℕ) (windows : List Window) (places : Places) (r : Option ℕ) → IsMaskOf (linked_slots (meanings nodes) links) mask → MarksSlots mask body at here marks
    → places ≡ record { marked = marks; windows = windows } → IfSome r (PlacesEntries nodes links marks body here windows) → IfSome r (PlacesKind nodes links body at places)
unfolding record_kind_at
placed_kind nodes links body marks mask at here windows places None m h e p = tt
placed_kind nodes links body marks mask at here windows places (Some end) m h e p = record {
  entries = p.entries;
  read = gets_after (kind_read (compound (slots_of (linked_slots (meanings nodes) links))) body at) (entries_at (slots_of (linked_slots (meanings nodes) links)) marks body here) body at here end (λ es. marked es) p.entries (field_read (linked_slots (meanings nodes) links) mask body marks at here m h) p.read;
  placed = subst (λ (x : Places). ArePlaced nodes links x.marked body p.entries x.windows) (sym e) p.placed;
}

-- ---- a compound's subitems, in its own octets

pub placed_subitems : (nodes : List Node) (links body : List ℕ) (places : Places) (fault : BodyFault) (r : Option ℕ) → IsOne (record_kind_at nodes links) body → IfSome r (PlacesKind nodes links body 0 places)
    → IfNone r (FailsAt (kind_read (record_kind_at nodes links) body 0) 0 fault) → PlacesKind nodes links body 0 places (length body)
unfolding kind_read
placed_subitems nodes links body places fault None one p f = absurd (read_all (record_kind_at nodes links) body 0 fault f one.all)
placed_subitems nodes links body places fault (Some end) one p f =
    let none : bits (drop end body) ≡ [] = subst IsAll p.read.got one.all in
    subst (PlacesKind nodes links body 0 places) (omega (arith, ap length none, length-bits (drop end body), length-drop end body, p.read.within)) p

same_slots : (one : Node) (mask found : SlotMask) (links slots : List ℕ) → one ≡ Of.Compound mask links → one ≡ Of.Compound found slots → slots ≡ links
same_slots one mask found links slots e f = let g : Of.Compound mask links ≡ Of.Compound found slots = sym e ∙ f in cc

pub subitem_slots : (nodes : List Node) (link : ℕ) (one : Node) (mask found : SlotMask) (links slots : List ℕ) → 0 < link → link ≤ length nodes → one ≡ get_or nodes (link - 1) one → get_or nodes (link - 1) Of.Explicit ≡ Of.Compound mask links → one ≡ Of.Compound found slots → slots ≡ links
subitem_slots nodes link one mask found links slots some within at e f =
    same_slots one mask found links slots (at ∙ sym (get_or_default nodes (link - 1) Of.Explicit one (omega arith)) ∙ e) f
