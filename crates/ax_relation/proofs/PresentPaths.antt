-- A key is present in a record of the shape exactly where its place is and, for a part, its part.
use Rattle.std.proofs.Common.{◌≡◌, ℕ, zero, suc, ◌+◌, nat_lt, false, is_some, List, [], ◌∷◌, Option, Some, None, option_map, option_and_then, refl, sym, ◌∙◌, ap, arith}
use Rattle.std.proofs.lemmas.Bool.{lt-ltb, le-ltb}
use Rattle.ax_relation.proofs.CommonParts.{same_test}
use Rattle.ax_relation.proofs.MovedShape.{slot_shape}
use Rattle.ax_format.specs.At.{slot_value, value_at}
use Rattle.ax_format.specs.Bodies.{RecordShape}
use Rattle.ax_format.specs.Fitting.{list_count}
use Rattle.ax_format.specs.Named.{part_entry, entry_of, entry_at, Named}
use Rattle.ax_format.specs.Naming.{slot_named}
use Rattle.ax_format.specs.Placed.{steps_at, place_from, named_place, has_part, has_part_where, is_present_part}
use Rattle.ax_format.specs.Shape.{PartsShape, Shape, EntriesShape}
use Rattle.ax_format.specs.Specification.{SpecTree, record_slots, record_kind}
use Rattle.ax_format.specs.Tree.{element, group, MembersTree, KindTree, fixed, extended, counted, by_fx, explicit, compound, SlotsTree, ValueTree, part_values, marked, ListsTree, no_lists, list_and, EntriesTree}
use Rattle.ax_format.specs.declared.place.Place.{Place}

-- ---- parts

part_there : (i : ℕ) (ps : List MembersTree) (ls : ListsTree) → PartsShape ps ls → is_some (part_entry i ps ls) ≡ nat_lt i (list_count ls)
part_there i [] no_lists h = absurd h
part_there i [] (list_and vs ls) h = absurd h
part_there i (p ∷ ps) no_lists h = absurd h
part_there zero (p ∷ ps) (list_and vs no_lists) h = refl
part_there zero (p ∷ ps) (list_and vs (list_and ws ls)) h = sym (lt-ltb 0 (list_count (list_and ws ls) + 1) (omega arith))
part_there (suc i) (p ∷ ps) (list_and vs no_lists) h = none ps ∙ sym (le-ltb (suc i) 1 (omega arith))
  where
    none : (ps : List MembersTree) → is_some (part_entry i ps no_lists) ≡ false
    none [] = refl
    none (p ∷ ps) = refl
part_there (suc i) (p ∷ ps) (list_and vs (list_and ws ls)) h =
    let more : suc (list_count (list_and ws ls)) ≡ list_count (list_and ws ls) + 1 = omega arith in
    part_there i ps (list_and ws ls) h.1 ∙ same_test i (list_count (list_and ws ls)) ∙ ap (nat_lt (suc i)) more

pub own_there : (part : Option ℕ) (k : KindTree) (v : ValueTree) → Shape k v → is_some (entry_of part k v) ≡ has_part part v
own_there None k v h = refl
own_there (Some i) (extended last ps) (part_values ls) h = part_there i ps ls h
own_there (Some i) (fixed (element w c)) (part_values ls) h = absurd h
own_there (Some i) (fixed (group ms)) (part_values ls) h = absurd h
own_there (Some i) (counted size k) (part_values ls) h = absurd h
own_there (Some i) (by_fx f) (part_values ls) h = absurd h
own_there (Some i) explicit (part_values ls) h = absurd h
own_there (Some i) (compound ss) (part_values ls) h = absurd h
own_there (Some i) (extended last ps) _ h = absurd h
own_there (Some i) _ _ h = refl

-- ---- paths

module _ (part : Option ℕ) (names : List (List ℕ)) (below : (k : KindTree) (ms : List ℕ) (v : ValueTree) → Shape k v → steps_at names k ≡ Some ms → is_some (entry_at part names k v) ≡ has_part_where part (value_at ms v)) where
  by_value : (s : ℕ × KindTree) (ms : List ℕ) (o : Option ValueTree) → ((w : ValueTree) → o ≡ Some w → Shape s.1 w) → steps_at names s.1 ≡ Some ms
      → is_some (option_and_then (entry_at part names s.1) o) ≡ has_part_where part (option_and_then (value_at ms) o)
  by_value s ms None has e = refl
  by_value s ms (Some w) has e = below s.1 ms w (has w refl) e

  by_steps : (s : ℕ × KindTree) (es : EntriesTree) (steps : List ℕ) (o : Option (List ℕ)) → ((w : ValueTree) → slot_value s.0 es ≡ Some w → Shape s.1 w) → steps_at names s.1 ≡ o
      → option_map (λ ms. s.0 ∷ ms) o ≡ Some steps → is_some (option_and_then (entry_at part names s.1) (slot_value s.0 es)) ≡ has_part_where part (value_at steps (marked es))
  by_steps s es steps None has e f = cc
  by_steps s es steps (Some ms) has e f =
      let g : s.0 ∷ ms ≡ steps = cc in by_value s ms (slot_value s.0 es) has e ∙ ap (λ l. has_part_where part (value_at l (marked es))) g

  by_slot : (name : List ℕ) (ss : SlotsTree) (es : EntriesTree) (steps : List ℕ) (o : Option (ℕ × KindTree)) → EntriesShape 1 ss es → slot_named 1 name ss ≡ o
      → option_and_then (λ s. option_map (λ ms. s.0 ∷ ms) (steps_at names s.1)) o ≡ Some steps
      → is_some (option_and_then (λ s. option_and_then (entry_at part names s.1) (slot_value s.0 es)) o) ≡ has_part_where part (value_at steps (marked es))
  by_slot name ss es steps None h found e = cc
  by_slot name ss es steps (Some s) h found e = by_steps s es steps (steps_at names s.1) (λ w at. slot_shape 1 name ss es s.0 s.1 w found h at) refl e

pub present_at : (part : Option ℕ) (names : List (List ℕ)) (k : KindTree) (steps : List ℕ) (v : ValueTree) → Shape k v → steps_at names k ≡ Some steps → is_some (entry_at part names k v) ≡ has_part_where part (value_at steps v)
present_at part [] k [] v h e = own_there part k v h
present_at part [] k (s ∷ steps) v h e = cc
present_at part (name ∷ names) (compound ss) steps (marked es) h e = by_slot part names (present_at part names) name ss es steps (slot_named 1 name ss) h refl e
present_at part (name ∷ names) (compound ss) steps _ h e = absurd h
present_at part (name ∷ names) _ steps v h e = cc

-- a name leads through a number
some_step : (names : List (List ℕ)) (o : Option (ℕ × KindTree)) → option_and_then (λ s. option_map (λ ms. s.0 ∷ ms) (steps_at names s.1)) o ≡ Some [] → ⊥
some_step names None e = absurd (cc)
some_step names (Some s) e = by (steps_at names s.1) e
  where
    by : (o : Option (List ℕ)) → option_map (λ ms. s.0 ∷ ms) o ≡ Some [] → ⊥
    by None e = absurd (cc)
    by (Some ms) e = absurd (cc)

pub present_at_place : (spec : SpecTree) (entries : EntriesTree) (part : Option ℕ) (name : List ℕ) (names : List (List ℕ)) (place : Place) → RecordShape spec entries → named_place spec (name ∷ names) ≡ Some place
    → is_present_part entries place part ≡ is_some (Named spec entries (record { names = name ∷ names; part = part }))
present_at_place spec entries part name names place h e = by (steps_at (name ∷ names) (record_kind spec)) refl e
  where
    by : (o : Option (List ℕ)) → steps_at (name ∷ names) (record_kind spec) ≡ o → option_map place_from o ≡ Some place → is_present_part entries place part ≡ is_some (Named spec entries (record { names = name ∷ names; part = part }))
    by None found e = cc
    by (Some []) found e = absurd (some_step names (slot_named 1 name (record_slots spec)) found)
    by (Some (frn ∷ steps)) found e =
        let at : place ≡ place_from (frn ∷ steps) = cc in
        ap (λ x. is_present_part entries x part) at ∙ sym (present_at part (name ∷ names) (record_kind spec) (frn ∷ steps) (marked entries) h.shape found)
