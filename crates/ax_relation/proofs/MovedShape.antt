-- The moved value has the new kind's shape.
use Rattle.std.proofs.Common.{◌≡◌, ℕ, ◌+◌, ◌<◌, ◌≤◌, ◌==◌, MatchBool, Bool, true, false, cond, bytes_eq, List, Option, Some, None, option_map, option_and_then, refl, sym, ◌∙◌, ap, arith, subst}
use Rattle.std.proofs.lemmas.Bool.{eqb-true}
use Rattle.ax_relation.proofs.Lookups.{equal, less, more, found_is, named_from}
use Rattle.ax_relation.proofs.MovedNamed.{source_value, new_value}
use Rattle.ax_relation.proofs.CommonParts.{first_shape}
use Rattle.ax_relation.proofs.SameKinds.{same_kinds}
use Rattle.ax_relation.proofs.SameShape.{same_shape}
use Rattle.ax_relation.specs.Moved.{entry_where, moved, moved_entries}
use Rattle.ax_format.specs.At.{slot_value}
use Rattle.ax_format.specs.Naming.{found_or, slot_named}
use Rattle.ax_format.specs.Shape.{Shape, EntriesShape}
use Rattle.ax_format.specs.Shared.{is_shared_kind}
use Rattle.ax_format.specs.Tree.{KindTree, fixed, extended, counted, by_fx, explicit, compound, SlotsTree, no_slots, slot_and, spare_slot, subitem, ValueTree, part_values, marked, EntriesTree, no_entries, entry_and}

-- ---- entries

-- entries begin at the first slot's number or later
pub entries_from : (s : ℕ) (ss : SlotsTree) (t : ℕ) (v : ValueTree) (es : EntriesTree) → EntriesShape s ss (entry_and t v es) → s ≤ t
entries_from s no_slots t v es h = absurd h
entries_from s (slot_and spare_slot ss) t v es h = let le = entries_from (s + 1) ss t v es h in omega arith
entries_from s (slot_and (subitem name k) ss) t v es h = by (t == s) refl (λ g. entries_from (s + 1) ss t v es g) h
  where
    by : (b : Bool) → (t == s) ≡ b → (EntriesShape (s + 1) ss (entry_and t v es) → s + 1 ≤ t) → MatchBool b (Shape k v × EntriesShape (s + 1) ss es) (EntriesShape (s + 1) ss (entry_and t v es)) → s ≤ t
    by true e later h = let q = eqb-true t s e in omega arith
    by false e later h = let q = later h in omega arith

-- no entry stands before the first slot
pub none_before : (u s : ℕ) (ss : SlotsTree) (es : EntriesTree) → u < s → EntriesShape s ss es → slot_value u es ≡ None
none_before u s no_slots no_entries h p = refl
none_before u s no_slots (entry_and t v es) h p = absurd p
none_before u s (slot_and spare_slot ss) es h p = none_before u (s + 1) ss es (omega arith) p
none_before u s (slot_and (subitem name k) ss) no_entries h p = refl
none_before u s (slot_and (subitem name k) ss) (entry_and t v es) h p = by (t == s) refl (λ g. none_before u (s + 1) ss es (omega arith) g) (λ g. none_before u (s + 1) ss (entry_and t v es) (omega arith) g) p
  where
    by : (b : Bool) → (t == s) ≡ b → (EntriesShape (s + 1) ss es → slot_value u es ≡ None) → (EntriesShape (s + 1) ss (entry_and t v es) → slot_value u (entry_and t v es) ≡ None)
        → MatchBool b (Shape k v × EntriesShape (s + 1) ss es) (EntriesShape (s + 1) ss (entry_and t v es)) → slot_value u (entry_and t v es) ≡ None
    by true e rest all p = let q = eqb-true t s e in ap (λ b. cond b (Some v) (slot_value u es)) (less u t (omega arith)) ∙ rest p.1
    by false e rest all p = all p

-- a value that is there has its slot's kind
pub slot_shape : (n : ℕ) (name : List ℕ) (ss : SlotsTree) (es : EntriesTree) (s : ℕ) (k : KindTree) (v : ValueTree)
    → slot_named n name ss ≡ Some (s, k) → EntriesShape n ss es → slot_value s es ≡ Some v → Shape k v
slot_shape n name no_slots es s k v e p q = cc
slot_shape n name (slot_and spare_slot ss) es s k v e p q = slot_shape (n + 1) name ss es s k v e p q
slot_shape n name (slot_and (subitem own l) ss) no_entries s k v e p q = cc
slot_shape n name (slot_and (subitem own l) ss) (entry_and t w es) s k v e p q =
    by (bytes_eq own name) (t == n) refl e (λ f g r. slot_shape (n + 1) name ss es s k v f g r) (λ f g r. slot_shape (n + 1) name ss (entry_and t w es) s k v f g r) p
  where
    by : (b c : Bool) → (t == n) ≡ c → found_or (cond b (Some l) None) n (slot_named (n + 1) name ss) ≡ Some (s, k)
        → (slot_named (n + 1) name ss ≡ Some (s, k) → EntriesShape (n + 1) ss es → slot_value s es ≡ Some v → Shape k v)
        → (slot_named (n + 1) name ss ≡ Some (s, k) → EntriesShape (n + 1) ss (entry_and t w es) → slot_value s (entry_and t w es) ≡ Some v → Shape k v)
        → MatchBool c (Shape l w × EntriesShape (n + 1) ss es) (EntriesShape (n + 1) ss (entry_and t w es)) → Shape k v
    by true true c e rest all p =
        let f = found_is (n, l) (s, k) e in
        let w_is : w ≡ v = let h = sym (ap (λ b. cond b (Some w) (slot_value s es)) (equal t s (eqb-true t n c ∙ f.0))) ∙ q in cc in
        let P : KindTree → Type 0 = λ x. Shape x w in
        let R : ValueTree → Type 0 = λ x. Shape k x in subst R w_is (subst P f.1 p.0)
    by true false c e rest all p =
        let f = found_is (n, l) (s, k) e in
        let none = none_before s (n + 1) ss (entry_and t w es) (let g = f.0 in omega arith) p in
        cc
    by false true c e rest all p =
        let le = named_from (n + 1) name ss s k e in
        let at = eqb-true t n c in
        rest e p.1 (sym (ap (λ b. cond b (Some w) (slot_value s es)) (more t s (omega arith))) ∙ q)
    by false false c e rest all p = all e p q

-- ---- the moved value

-- after a slot, entries of later slots are entries from it on
pub after : (n : ℕ) (name : List ℕ) (l : KindTree) (ts : SlotsTree) (es : EntriesTree) → EntriesShape (n + 1) ts es → EntriesShape n (slot_and (subitem name l) ts) es
after n name l ts no_entries h = h
after n name l ts (entry_and t v es) h =
    let P : Bool → Type 0 = λ b. MatchBool b (Shape l v × EntriesShape (n + 1) ts es) (EntriesShape (n + 1) ts (entry_and t v es)) in
    let le = entries_from (n + 1) ts t v es h in subst P (sym (less n t (omega arith))) h

-- an entry of this slot in front of them too
pub in_front : (n : ℕ) (name : List ℕ) (l : KindTree) (ts : SlotsTree) (o : Option ValueTree) (es : EntriesTree) → ((v : ValueTree) → o ≡ Some v → Shape l v) → EntriesShape (n + 1) ts es
    → EntriesShape n (slot_and (subitem name l) ts) (entry_where n o es)
in_front n name l ts None es one h = after n name l ts es h
in_front n name l ts (Some v) es one h =
    let P : Bool → Type 0 = λ b. MatchBool b (Shape l v × EntriesShape (n + 1) ts es) (EntriesShape (n + 1) ts (entry_and n v es)) in
    subst P (sym (equal n n refl)) (one v refl, h)

new_shape : (name : List ℕ) (l : KindTree) (ss : SlotsTree) (es : EntriesTree) → EntriesShape 1 ss es → ((k : KindTree) (w : ValueTree) → is_shared_kind k l ≡ true → Shape k w → Shape l (moved l k w))
    → (v : ValueTree) → new_value name l ss es ≡ Some v → Shape l v
new_shape name l ss es h shape v e = by_slot (slot_named 1 name ss) refl e
  where
    by_value : (s : ℕ × KindTree) (o : Option ValueTree) (b : Bool) → slot_named 1 name ss ≡ Some s → slot_value s.0 es ≡ o → is_shared_kind s.1 l ≡ b → cond b (option_map (moved l s.1) o) None ≡ Some v → Shape l v
    by_value s None true found at shared e = cc
    by_value s (Some w) true found at shared e =
        let w_is : moved l s.1 w ≡ v = cc in
        let P : ValueTree → Type 0 = λ x. Shape l x in subst P w_is (shape s.1 w shared (slot_shape 1 name ss es s.0 s.1 w found h at))
    by_value s o false found at shared e = cc

    by_slot : (o : Option (ℕ × KindTree)) → slot_named 1 name ss ≡ o → option_and_then (source_value l es) o ≡ Some v → Shape l v
    by_slot None found e = cc
    by_slot (Some s) found e = by_value s (slot_value s.0 es) (is_shared_kind s.1 l) found refl refl e

mutual
  pub moved_shape : (l k : KindTree) (v : ValueTree) → is_shared_kind k l ≡ true → Shape k v → Shape l (moved l k v)
  moved_shape (compound ts) (compound ss) (marked es) e h = entries_moved 1 ts ss es h
  moved_shape (compound ts) (compound ss) _ e h = absurd h
  moved_shape (fixed g) (fixed f) v e h = same_shape (fixed f) (fixed g) v (same_kinds (fixed f) (fixed g) e) h
  moved_shape (extended last qs) (extended other ps) (part_values ls) e h = first_shape ps qs ls e h
  moved_shape (extended last qs) (extended other ps) _ e h = absurd h
  moved_shape (counted size l) (counted other k) v e h = same_shape (counted other k) (counted size l) v (same_kinds (counted other k) (counted size l) e) h
  moved_shape (by_fx g) (by_fx f) v e h = same_shape (by_fx f) (by_fx g) v (same_kinds (by_fx f) (by_fx g) e) h
  moved_shape explicit explicit v e h = h
  moved_shape _ _ v e h = cc

  pub entries_moved : (n : ℕ) (ts ss : SlotsTree) (es : EntriesTree) → EntriesShape 1 ss es → EntriesShape n ts (moved_entries n ts ss es)
  entries_moved n no_slots ss es h = tt
  entries_moved n (slot_and spare_slot ts) ss es h = entries_moved (n + 1) ts ss es h
  entries_moved n (slot_and (subitem name l) ts) ss es h =
      in_front n name l ts (new_value name l ss es) (moved_entries (n + 1) ts ss es) (new_shape name l ss es h (λ k w. moved_shape l k w)) (entries_moved (n + 1) ts ss es h)
