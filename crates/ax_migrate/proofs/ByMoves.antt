-- Entries by the moves of two editions are the moved ones.
use Rattle.std.proofs.Common.{◌≡◌, ℕ, ◌+◌, Bool, true, false, cond, List, [], ◌∷◌, ◌++◌, Option, Some, None, option_map, option_and_then, refl, ap}
use Rattle.ax_relation.specs.Below.{slot_below}
use Rattle.ax_relation.specs.Moves.{move_from, moves_from, move_where, moves_below, moves_of}
use Rattle.ax_relation.proofs.MovedNamed.{source_value, new_value}
use Rattle.ax_relation.proofs.MovedShape.{slot_shape}
use Rattle.ax_format.specs.Same.{common_parts}
use Rattle.ax_relation.specs.Moved.{entry_where, moved, moved_entries}
use Rattle.ax_migration.specs.Moving.{entries_by}
use Rattle.ax_relation.specs.Passing.{value_by}
use Rattle.ax_format.specs.At.{slot_value}
use Rattle.ax_format.specs.Naming.{slot_named}
use Rattle.ax_format.specs.Shape.{Shape, EntriesShape}
use Rattle.ax_format.specs.Shared.{is_shared_kind}
use Rattle.ax_format.specs.Tree.{KindTree, fixed, extended, counted, by_fx, explicit, compound, element, group, SlotsTree, no_slots, slot_and, spare_slot, subitem, ValueTree, part_values, marked, EntriesTree}

-- the old slot that a compound has under a name
abbrev rule_of : SlotsTree → List ℕ → Option (ℕ × KindTree)
rule_of ss = λ name. slot_below name (compound ss)

one_slot : (t : ℕ) (name : List ℕ) (l : KindTree) (ts ss : SlotsTree) (es : EntriesTree) → EntriesShape 1 ss es
    → ((k : KindTree) (v : ValueTree) → is_shared_kind k l ≡ true → Shape k v → value_by (common_parts k l) (entries_by (moves_from (moves_below l k))) v ≡ moved l k v)
    → entries_by (moves_from (moves_of (t + 1) ts (rule_of ss))) es ≡ moved_entries (t + 1) ts ss es
    → entries_by (moves_from (move_where t l (slot_named 1 name ss) (moves_below l) ++ moves_of (t + 1) ts (rule_of ss))) es ≡ entry_where t (new_value name l ss es) (moved_entries (t + 1) ts ss es)
one_slot t name l ts ss es h below later = by_found (slot_named 1 name ss) refl
  where
    by_value : (s : ℕ × KindTree) (o : Option ValueTree) → slot_named 1 name ss ≡ Some s → slot_value s.0 es ≡ o → is_shared_kind s.1 l ≡ true
        → option_map (value_by (common_parts s.1 l) (entries_by (moves_from (moves_below l s.1)))) o ≡ option_map (moved l s.1) o
    by_value s None found at shared = refl
    by_value s (Some v) found at shared = ap Some (below s.1 v shared (slot_shape 1 name ss es s.0 s.1 v found h at))

    by_shared : (s : ℕ × KindTree) (b : Bool) → slot_named 1 name ss ≡ Some s → is_shared_kind s.1 l ≡ b
        → entries_by (moves_from (cond b (move_from s.0 t (common_parts s.1 l) (moves_from (moves_below l s.1)) ∷ []) [] ++ moves_of (t + 1) ts (rule_of ss))) es
        ≡ entry_where t (cond b (option_map (moved l s.1) (slot_value s.0 es)) None) (moved_entries (t + 1) ts ss es)
    by_shared s true found shared = λ i. entry_where t (by_value s (slot_value s.0 es) found refl shared i) (later i)
    by_shared s false found shared = later

    by_found : (o : Option (ℕ × KindTree)) → slot_named 1 name ss ≡ o
        → entries_by (moves_from (move_where t l o (moves_below l) ++ moves_of (t + 1) ts (rule_of ss))) es ≡ entry_where t (option_and_then (source_value l es) o) (moved_entries (t + 1) ts ss es)
    by_found None found = later
    by_found (Some s) found = by_shared s (is_shared_kind s.1 l) found refl

mutual
  pub value_moved : (l k : KindTree) (v : ValueTree) → is_shared_kind k l ≡ true → Shape k v → value_by (common_parts k l) (entries_by (moves_from (moves_below l k))) v ≡ moved l k v
  value_moved (compound ts) (compound ss) (marked es) e h = ap marked (entries_moved 1 ts ss es h)
  value_moved (fixed g) (fixed (element w c)) (marked es) e h = absurd h
  value_moved (fixed g) (fixed (group ms)) (marked es) e h = absurd h
  value_moved (extended last qs) (extended other ps) (marked es) e h = absurd h
  value_moved (counted size l) (counted other k) (marked es) e h = absurd h
  value_moved (by_fx g) (by_fx f) (marked es) e h = absurd h
  value_moved explicit explicit (marked es) e h = absurd h
  value_moved _ _ (marked es) e h = cc
  value_moved (extended last qs) (extended other ps) (part_values ls) e h = refl
  value_moved (fixed g) (fixed (element w c)) (part_values ls) e h = absurd h
  value_moved (fixed g) (fixed (group ms)) (part_values ls) e h = absurd h
  value_moved (counted size l) (counted other k) (part_values ls) e h = absurd h
  value_moved (by_fx g) (by_fx f) (part_values ls) e h = absurd h
  value_moved explicit explicit (part_values ls) e h = absurd h
  value_moved (compound ts) (compound ss) (part_values ls) e h = absurd h
  value_moved _ _ (part_values ls) e h = cc
  value_moved _ _ _ e h = refl

  pub entries_moved : (t : ℕ) (ts ss : SlotsTree) (es : EntriesTree) → EntriesShape 1 ss es → entries_by (moves_from (moves_of t ts (rule_of ss))) es ≡ moved_entries t ts ss es
  entries_moved t no_slots ss es h = refl
  entries_moved t (slot_and spare_slot ts) ss es h = entries_moved (t + 1) ts ss es h
  entries_moved t (slot_and (subitem name l) ts) ss es h = one_slot t name l ts ss es h (λ k v. value_moved l k v) (entries_moved (t + 1) ts ss es h)
