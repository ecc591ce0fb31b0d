-- The octets of a slot stand in its place.
use Rattle.std.proofs.Common.{◌≡◌, ℕ, ◌+◌, ◌-◌, ◌*◌, ◌≤◌, ◌==◌, if◌then◌else◌, Bool, true, false, List, [], ◌++◌, length, take, drop, get_or, Option, Some, None, IfSome, option_map, refl, sym, ◌∙◌, ap, arith, subst, append-nil, append_assoc, take-append-drop, drop-drop}
use Rattle.std.proofs.lemmas.List.{length-map}
use Rattle.ax_bits.specs.Bits.{bits}
use Rattle.ax_fspec.specs.Fields.{MarksSlots}
use Rattle.ax_fspec.specs.declared.mask.SlotMask.{SlotMask}
use Rattle.ax_format.proofs.Least as Least
use Rattle.ax_format.specs.Canonical.{canon}
use Rattle.ax_format.specs.Presence.{Presence, octets_needed}
use Rattle.ax_format.specs.Tree.{ValueTree, EntriesTree, no_entries, entry_and, slots_of}
use Rattle.ax_fspec.proofs.Exact.{spelled_at}
use Rattle.ax_format.specs.Reader.{got}
use Rattle.ax_fspec.specs.Reading.{Gets, IsMaskOf, kind_read, entries_at}
use Rattle.ax_codec.specs.Meaning.{meanings, linked_slot, linked_slots}
use Rattle.ax_codec.specs.Table.{kind_at, record_kind_at}
use Rattle.ax_format.specs.At.{slot_value}
use Rattle.ax_codec.specs.declared.codec.Codec.{Codec}
use Rattle.ax_codec.specs.declared.node.Node.{Node}
use Rattle.ax_walk.proofs.Found.{Left, found, not_same}
use Rattle.ax_walk.proofs.MarkedSteps.{NextMarked}
use Rattle.ax_walk.specs.InPlace.{entries_before, SpellInOrder, FollowsEntries, StandsInPlace}
use Rattle.ax_walk.specs.Placing.{IsMarkedItem}
use Rattle.ax_walk.specs.Shown.{item_value}
use Rattle.ax_walk.specs.Values.{IsGot, entries_found, value_in, entries_in}
use Rattle.ax_walk.specs.Walking.{Walks}
use Rattle.ax_walk.specs.declared.item.ItemView.{ItemView}

pieces : (body : List ℕ) (at end : ℕ) → at ≤ end → drop at body ≡ take (end - at) (drop at body) ++ drop end body
pieces body at end le =
    let rest : drop (end - at) (drop at body) ≡ drop end body = drop-drop (end - at) at body ∙ ap (λ n. drop n body) (let e : at + (end - at) ≡ end = omega arith in e) in
    sym (take-append-drop (end - at) (drop at body)) ∙ ap (λ r. take (end - at) (drop at body) ++ r) rest

-- what is read of the marked slots of these links from octet `at` of the body on
abbrev entries_of : List Node → List ℕ → List ℕ → List ℕ → ℕ → EntriesTree
entries_of nodes links marks body at = entries_found (entries_at (slots_of (linked_slots (meanings nodes) links)) marks body at)

-- the octets from `at` up to `here` are those of the entries passed: with those before the slot that are left, they are all
-- before the slot
pub record Passed (nodes : List Node) (links marks left body : List ℕ) (at here slot : ℕ) : Type 0 where
  pub front : List ℕ
  pub split : drop at body ≡ front ++ drop here body
  pub goes_on : (e : List ℕ) → SpellInOrder nodes links (entries_before slot (entries_of nodes links left body here)) e → SpellInOrder nodes links (entries_before slot (entries_of nodes links marks body at)) (front ++ e)

pub passed_first : (nodes : List Node) (links marks body : List ℕ) (at slot : ℕ) → Passed nodes links marks marks body at at slot
passed_first nodes links marks body at slot = record { front = []; split = refl; goes_on = λ e h. h }

before_other : (slot t : ℕ) (v : ValueTree) (es : EntriesTree) → (t == slot) ≡ false → entries_before slot (entry_and t v es) ≡ entry_and t v (entries_before slot es)
before_other slot t v es e = ap (λ b. if b then no_entries else entry_and t v (entries_before slot es)) e

before_this : (slot t : ℕ) (v : ValueTree) (es : EntriesTree) → (t == slot) ≡ true → entries_before slot (entry_and t v es) ≡ no_entries
before_this slot t v es e = ap (λ b. if b then no_entries else entry_and t v (entries_before slot es)) e

module _ (nodes : List Node) (links marks left now body : List ℕ) (t at here slot : ℕ) (h : Left (linked_slots (meanings nodes) links) marks left body at here slot) (p : Passed nodes links marks left body at here slot) (n : NextMarked nodes links left now t)
    (end : ℕ) (least : Bool) (w : Walks (canon (kind_at nodes (get_or links (t - 1) 0))) (kind_read (kind_at nodes (get_or links (t - 1) 0)) body here) body here end least) where
  slice : List ℕ
  slice = take (end - here) (drop here body)

  cut : drop at body ≡ p.front ++ (slice ++ drop end body)
  unfolding slice
  cut = p.split ∙ ap (λ r. p.front ++ r) (pieces body here end w.read.forwards)

  left_is : entries_of nodes links left body here ≡ entry_and t w.value (entries_of nodes links now body end)
  left_is = found nodes links marks left now body t at here slot h n end least w

  pub passed_next : (t ≡ slot → ⊥) → Passed nodes links marks now body at end slot
  unfolding slice
  passed_next other = record {
    front = p.front ++ slice;
    split = cut ∙ sym (append_assoc p.front slice (drop end body));
    goes_on = λ e more. subst (SpellInOrder nodes links (entries_before slot (entries_of nodes links marks body at))) (sym (append_assoc p.front slice e))
        (p.goes_on (slice ++ e) (subst (λ es. SpellInOrder nodes links es (slice ++ e)) (sym (ap (entries_before slot) left_is ∙ before_other slot t w.value (entries_of nodes links now body end) (not_same t slot other)))
        (slice, e, refl, (spelled_at (kind_at nodes (get_or links (t - 1) 0)) body here end w.value n.bounds w.read).spelling, more)));
  }

  pub follows : t ≡ slot → FollowsEntries nodes links slot (entries_of nodes links marks body at) body at (take (end - here) (drop here body))
  unfolding slice
  follows this = record {
    front = p.front;
    rest = drop end body;
    split = cut;
    before = subst (SpellInOrder nodes links (entries_before slot (entries_of nodes links marks body at))) (append-nil p.front)
        (p.goes_on [] (subst (λ es. SpellInOrder nodes links es []) (sym (ap (entries_before slot) left_is ∙ before_this slot t w.value (entries_of nodes links now body end) (Least.here t slot this))) refl));
  }

-- ---- with the presence field in front

pub stands_in_place : (nodes : List Node) (links : List ℕ) (slot : ℕ) (mask : SlotMask) (body marks octets : List ℕ) (here : ℕ) (es : EntriesTree) → IsMaskOf (linked_slots (meanings nodes) links) mask → MarksSlots mask body 0 here marks
    → es ≡ entries_in (value_in (record_kind_at nodes links) body) → FollowsEntries nodes links slot es body here octets → StandsInPlace nodes links slot body octets
stands_in_place nodes links slot mask body marks octets here es m h same f =
    let size : mask.count ≡ length links = m.count ∙ length-map links (linked_slot (meanings nodes)) in
    let from_0 : here - 0 ≡ here = omega arith in
    let field : Presence (octets_needed mask.count) (take (7 * h.field.octets) marks) (bits (take here body)) = subst (λ n. Presence (octets_needed mask.count) (take (7 * h.field.octets) marks) (bits (take n body))) from_0 h.field.field.field in
    record {
      field = take here body;
      marks = take (7 * h.field.octets) marks;
      presence = subst (λ n. Presence (octets_needed n) (take (7 * h.field.octets) marks) (bits (take here body))) size field;
      front = f.front;
      rest = f.rest;
      split = sym (take-append-drop here body) ∙ ap (λ r. take here body ++ r) f.split;
      before = subst (λ es. SpellInOrder nodes links (entries_before slot es) f.front) same f.before;
    }

pub found_in_place : (nodes : List Node) (links : List ℕ) (slot : ℕ) (mask : SlotMask) (body marks : List ℕ) (here : ℕ) (es : EntriesTree) (r : Option ItemView) → IsMaskOf (linked_slots (meanings nodes) links) mask → MarksSlots mask body 0 here marks
    → es ≡ entries_in (value_in (record_kind_at nodes links) body) → IfSome r (λ item. FollowsEntries nodes links slot es body here item.body.now) → IfSome r (λ item. StandsInPlace nodes links slot body item.body.now)
found_in_place nodes links slot mask body marks here es None m h same f = tt
found_in_place nodes links slot mask body marks here es (Some item) m h same f = stands_in_place nodes links slot mask body marks item.body.now here es m h same f

-- ---- wherever all are read

pub is_marked_item : (codec : Codec) (links marks body : List ℕ) (at slot : ℕ) (r : Option ItemView) → links ≡ codec.slots
    → (IsGot (entries_at (slots_of (linked_slots (meanings codec.nodes) links)) marks body at) → option_map item_value r ≡ slot_value slot (entries_of codec.nodes links marks body at))
    → (IsGot (entries_at (slots_of (linked_slots (meanings codec.nodes) links)) marks body at) → IfSome r (λ item. FollowsEntries codec.nodes links slot (entries_of codec.nodes links marks body at) body at item.body.now)) → IsMarkedItem codec marks body at slot r
is_marked_item codec links marks body at slot r same value window = record {
  value = λ end es g. (let h = by_links end es g in value (subst IsGot (sym h) tt) ∙ ap (λ x. slot_value slot (entries_found x)) h);
  window = λ end es g. (
      let h = by_links end es g in
      subst (λ links. IfSome r (λ item. FollowsEntries codec.nodes links slot es body at item.body.now)) same
      (subst (λ es. IfSome r (λ item. FollowsEntries codec.nodes links slot es body at item.body.now)) (ap entries_found h) (window (subst IsGot (sym h) tt))));
}
  where
    by_links : (end : ℕ) (es : EntriesTree) → Gets (entries_at (slots_of (linked_slots (meanings codec.nodes) codec.slots)) marks body at) body at end es → entries_at (slots_of (linked_slots (meanings codec.nodes) links)) marks body at ≡ got es (8 * (end - at)) (bits (drop end body))
    by_links end es g = ap (λ links. entries_at (slots_of (linked_slots (meanings codec.nodes) links)) marks body at) same ∙ g.got
