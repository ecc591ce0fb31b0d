-- The migrated value's canonical spelling has at most eighteen times as many bits as the old value's: a kept leaf doesn't
-- grow, and a presence field of one octet or more becomes at most eighteen, for 126 slots.
use Rattle.std.proofs.Common.{◌≡◌, ℕ, zero, suc, ◌+◌, ◌*◌, ◌<◌, ◌≤◌, ◌==◌, Bool, true, false, cond, ◌||◌, bytes_eq, List, [], ◌∷◌, ◌++◌, length, Option, Some, None, option_map, option_and_then, refl, ◌∙◌, ap, arith, subst, length-append}
use Rattle.ax_relation.proofs.Lookups.{equal, less, named_from}
use Rattle.ax_relation.proofs.MovedNamed.{source_value, new_value}
use Rattle.ax_relation.proofs.MovedShape.{entries_from, entries_moved}
use Rattle.ax_relation.proofs.NamedOnce.{own_name, Front, front_of, front_value, front_later}
use Rattle.ax_relation.proofs.CommonParts.{first_shorter}
use Rattle.ax_relation.proofs.SameKinds.{bytes_same, same_kinds}
use Rattle.ax_relation.proofs.SameShape.{same_spelling}
use Rattle.ax_relation.proofs.Distinct.{Distinct, SlotsDistinct}
use Rattle.ax_relation.specs.Moved.{entry_where, moved, moved_entries}
use Rattle.ax_format.proofs.Bounds.{bounds_whole}
use Rattle.ax_format.proofs.Least.{enough}
use Rattle.ax_format.specs.Canonical.{canon, marks_of, entries_canon}
use Rattle.ax_format.specs.Flaws.{is_among}
use Rattle.ax_format.specs.InBounds.{InBounds, SlotsInBounds}
use Rattle.ax_format.specs.Naming.{found_or, slot_named}
use Rattle.ax_format.specs.Presence.{octets_needed, least_presence, none_marked, marks_after, marks_upto}
use Rattle.ax_format.specs.Same.{emptied}
use Rattle.ax_format.specs.Shape.{Shape, EntriesShape}
use Rattle.ax_format.specs.Shared.{is_shared_kind}
use Rattle.ax_format.specs.Tree.{KindTree, fixed, extended, counted, by_fx, explicit, compound, SlotsTree, no_slots, slot_and, spare_slot, subitem, slot_count, ValueTree, part_values, marked, EntriesTree, no_entries, entry_and}

-- ---- presence fields

at_most : (k : ℕ) (ms : List ℕ) → length (least_presence k ms) ≤ 8 * k
at_most zero ms = omega arith
at_most (suc k) ms = by (none_marked (marks_after 7 ms)) (at_most k (marks_after 7 ms))
  where
    by : (b : Bool) → length (least_presence k (marks_after 7 ms)) ≤ 8 * k → length (cond b (marks_upto 7 ms ++ 0 ∷ []) (marks_upto 7 ms ++ 1 ∷ least_presence k (marks_after 7 ms))) ≤ 8 * suc k
    by true h = omega arith
    by false h = omega arith

at_least : (k : ℕ) (ms : List ℕ) → 0 < k → 8 ≤ length (least_presence k ms)
at_least zero ms some = absurd (omega arith)
at_least (suc k) ms some = by (none_marked (marks_after 7 ms))
  where
    by : (b : Bool) → 8 ≤ length (cond b (marks_upto 7 ms ++ 0 ∷ []) (marks_upto 7 ms ++ 1 ∷ least_presence k (marks_after 7 ms)))
    by true = omega arith
    by false = omega arith

-- ---- sums over slots

-- of what the rule gives for each defined slot
abbrev total : (List ℕ → KindTree → ℕ) → SlotsTree → ℕ
total rule no_slots = 0
total rule (slot_and spare_slot ts) = total rule ts
total rule (slot_and (subitem name l) ts) = rule name l + total rule ts

total_none : (rule : List ℕ → KindTree → ℕ) → ((name : List ℕ) (l : KindTree) → rule name l ≡ 0) → (ts : SlotsTree) → total rule ts ≡ 0
total_none rule h no_slots = refl
total_none rule h (slot_and spare_slot ts) = total_none rule h ts
total_none rule h (slot_and (subitem name l) ts) = λ i. h name l i + total_none rule h ts i

still : (b c : Bool) → c ≡ true → (b || c) ≡ true
still true c e = refl
still false c e = e

module _ (f g : List ℕ → KindTree → ℕ) (own : List ℕ) (other : (name : List ℕ) (l : KindTree) → bytes_eq own name ≡ false → f name l ≡ g name l) where
  -- a name that no slot has
  total_same : (earlier : List (List ℕ)) (ts : SlotsTree) → is_among own earlier ≡ true → SlotsDistinct earlier ts → total f ts ≡ total g ts
  total_same earlier no_slots a d = refl
  total_same earlier (slot_and spare_slot ts) a d = total_same earlier ts a d
  total_same earlier (slot_and (subitem name l) ts) a d =
      let rest = total_same (name ∷ earlier) ts (still (bytes_eq own name) (is_among own earlier) a) d.2 in
      let first = other name l (unlike (bytes_eq own name) refl) in λ i. first i + rest i
    where
      unlike : (b : Bool) → bytes_eq own name ≡ b → b ≡ false
      unlike true e = let q = ap (λ x. is_among x earlier) (bytes_same own name e) in let r = d.0 in cc
      unlike false e = refl

  -- a name that one slot has at most
  total_once : (h : ℕ) → ((l : KindTree) → Distinct l → InBounds l → f own l ≤ h) → (earlier : List (List ℕ)) (ts : SlotsTree) → SlotsDistinct earlier ts → SlotsInBounds ts → total f ts ≤ h + total g ts
  total_once h bound earlier no_slots d w = omega arith
  total_once h bound earlier (slot_and spare_slot ts) d w = total_once h bound earlier ts d w
  total_once h bound earlier (slot_and (subitem name l) ts) d w = by (bytes_eq own name) refl (total_once h bound (name ∷ earlier) ts d.2 w.1)
    where
      by : (b : Bool) → bytes_eq own name ≡ b → total f ts ≤ h + total g ts → f name l + total f ts ≤ h + (g name l + total g ts)
      by true e later =
          let again : is_among own (name ∷ earlier) ≡ true = ap (λ b. b || is_among own earlier) e in
          let rest = total_same (name ∷ earlier) ts again d.2 in
          let P : List ℕ → Type 0 = λ n. f n l ≤ h in
          let first = subst P (bytes_same own name e) (bound l d.1 w.0) in omega arith
      by false e later = let first = other name l e in omega arith

-- ---- entries

abbrev bits_where : KindTree → Option ValueTree → ℕ
bits_where l None = 0
bits_where l (Some v) = length (canon l v)

entries_front : (n : ℕ) (name : List ℕ) (l : KindTree) (ts : SlotsTree) (o : Option ValueTree) (rest : EntriesTree) → EntriesShape (n + 1) ts rest
    → length (entries_canon n (slot_and (subitem name l) ts) (entry_where n o rest)) ≡ bits_where l o + length (entries_canon (n + 1) ts rest)
entries_front n name l ts (Some v) rest h =
    ap (λ b. length (cond b (canon l v ++ entries_canon (n + 1) ts rest) (entries_canon (n + 1) ts (entry_and n v rest)))) (equal n n refl) ∙ length-append (canon l v) (entries_canon (n + 1) ts rest)
entries_front n name l ts None no_entries h = omega arith
entries_front n name l ts None (entry_and t w es) h =
    let le = entries_from (n + 1) ts t w es h in
    let e = ap (λ b. length (cond b (canon l w ++ entries_canon (n + 1) ts es) (entries_canon (n + 1) ts (entry_and t w es)))) (unlike n t (omega arith)) in omega (arith, e)
  where
    unlike : (n t : ℕ) → n < t → (t == n) ≡ false
    unlike n t h = less n t h

moved_bits : (n : ℕ) (ts ss : SlotsTree) (es : EntriesTree) → EntriesShape 1 ss es → length (entries_canon n ts (moved_entries n ts ss es)) ≡ total (λ name l. bits_where l (new_value name l ss es)) ts
moved_bits n no_slots ss es h = refl
moved_bits n (slot_and spare_slot ts) ss es h = moved_bits (n + 1) ts ss es h
moved_bits n (slot_and (subitem name l) ts) ss es h =
    entries_front n name l ts (new_value name l ss es) (moved_entries (n + 1) ts ss es) (entries_moved (n + 1) ts ss es h) ∙ ap (λ m. bits_where l (new_value name l ss es) + m) (moved_bits (n + 1) ts ss es h)

-- what new slots get from old slots of which the first has the number n
abbrev bits_from : ℕ → SlotsTree → EntriesTree → List ℕ → KindTree → ℕ
bits_from n ss es name l = bits_where l (option_and_then (source_value l es) (slot_named n name ss))

-- ---- kinds

abbrev Grows : KindTree → Type 0
Grows k = (l : KindTree) (v : ValueTree) → is_shared_kind k l ≡ true → Distinct l → InBounds l → Shape k v → length (canon l (moved l k v)) ≤ 18 * length (canon k v)

module _ (n : ℕ) (own : List ℕ) (k : KindTree) (ss : SlotsTree) (es : EntriesTree) (f : Front n k ss es) (grow : Grows k) where
  other_name : (name : List ℕ) (l : KindTree) → bytes_eq own name ≡ false → bits_from n (slot_and (subitem own k) ss) es name l ≡ bits_from (n + 1) ss f.rest name l
  other_name name l e = ap (λ b. bits_where l (option_and_then (source_value l es) (found_or (cond b (Some k) None) n (slot_named (n + 1) name ss)))) e ∙ by (slot_named (n + 1) name ss) refl
    where
      by : (o : Option (ℕ × KindTree)) → slot_named (n + 1) name ss ≡ o → bits_where l (option_and_then (source_value l es) o) ≡ bits_where l (option_and_then (source_value l f.rest) o)
      by None q = refl
      by (Some s) q =
          let le = named_from (n + 1) name ss s.0 s.1 q in
          ap (λ o. bits_where l (cond (is_shared_kind s.1 l) (option_map (moved l s.1) o) None)) (front_later n k ss es f s.0 (omega arith))

  same_name : (l : KindTree) → Distinct l → InBounds l → bits_from n (slot_and (subitem own k) ss) es own l ≤ 18 * bits_where k f.here
  same_name l d w =
      let e = ap (λ b. bits_where l (option_and_then (source_value l es) (found_or (cond b (Some k) None) n (slot_named (n + 1) own ss)))) (own_name own)
      ∙ ap (λ o. bits_where l (cond (is_shared_kind k l) (option_map (moved l k) o) None)) (front_value n k ss es f) in
      let h = by f.here refl (is_shared_kind k l) refl in omega (arith, e, h)
    where
      by : (o : Option ValueTree) → f.here ≡ o → (b : Bool) → is_shared_kind k l ≡ b → bits_where l (cond b (option_map (moved l k) o) None) ≤ 18 * bits_where k o
      by None here b e = none b
        where
          none : (b : Bool) → bits_where l (cond b None None) ≤ 18 * 0
          none true = omega arith
          none false = omega arith
      by (Some v) here true e = grow l v e d w (f.shape v here)
      by (Some v) here false e = omega arith

leaf_grows : (k l : KindTree) (v : ValueTree) → emptied k ≡ emptied l → length (canon l v) ≤ 18 * length (canon k v)
leaf_grows k l v e = let h = ap length (same_spelling k l v e) in omega arith

mutual
  pub grows : (k : KindTree) → InBounds k → Grows k
  grows (compound ss) b (compound ts) (marked es) e d w h =
      let old = enough (slot_count ss) b.0 in
      let p = at_least (octets_needed (slot_count ss)) (marks_of 1 ss es) old.0 in
      let q = at_most (octets_needed (slot_count ts)) (marks_of 1 ts (moved_entries 1 ts ss es)) in
      let r = entries_grow 1 ss es ts b.2 h d w.2 in
      omega (
        arith,
        length-append (least_presence (octets_needed (slot_count ss)) (marks_of 1 ss es)) (entries_canon 1 ss es),
        length-append (least_presence (octets_needed (slot_count ts)) (marks_of 1 ts (moved_entries 1 ts ss es))) (entries_canon 1 ts (moved_entries 1 ts ss es)),
        moved_bits 1 ts ss es h,
        w.1,
      )
  grows (compound ss) b (compound ts) _ e d w h = absurd h
  grows (fixed f) b (fixed g) v e d w h = leaf_grows (fixed f) (fixed g) v (same_kinds (fixed f) (fixed g) e)
  grows (extended last ps) b (extended other qs) (part_values ls) e d w h = let shorter = first_shorter last other ps qs ls (bounds_whole (extended last ps) b) (bounds_whole (extended other qs) w) in omega arith
  grows (extended last ps) b (extended other qs) _ e d w h = absurd h
  grows (counted size k) b (counted other l) v e d w h = leaf_grows (counted size k) (counted other l) v (same_kinds (counted size k) (counted other l) e)
  grows (by_fx f) b (by_fx g) v e d w h = leaf_grows (by_fx f) (by_fx g) v (same_kinds (by_fx f) (by_fx g) e)
  grows explicit b explicit v e d w h = leaf_grows explicit explicit v refl
  grows _ b _ v e d w h = cc

  entries_grow : (n : ℕ) (ss : SlotsTree) (es : EntriesTree) (ts : SlotsTree) → SlotsInBounds ss → EntriesShape n ss es → SlotsDistinct [] ts → SlotsInBounds ts
      → total (bits_from n ss es) ts ≤ 18 * length (entries_canon n ss es)
  entries_grow n no_slots es ts b h d w = let e = total_none (bits_from n no_slots es) (λ name l. refl) ts in omega arith
  entries_grow n (slot_and spare_slot ss) es ts b h d w = entries_grow (n + 1) ss es ts b h d w
  entries_grow n (slot_and (subitem own k) ss) es ts b h d w =
      let f = front_of n own k ss es h in
      let grow = grows k b.0 in
      let t = total_once (bits_from n (slot_and (subitem own k) ss) es) (bits_from (n + 1) ss f.rest) own (other_name n own k ss es f grow) (18 * bits_where k f.here) (same_name n own k ss es f grow) [] ts d w in
      let r = entries_grow (n + 1) ss f.rest ts b.1 f.later d w in
      let c = ap (λ x. length (entries_canon n (slot_and (subitem own k) ss) x)) f.is ∙ entries_front n own k ss f.here f.rest f.later in omega arith
