-- Slot numbers lead to an entry exactly where the names do.
use Rattle.std.proofs.Common.{◌≡◌, ℕ, Bool, true, false, cond, not, is_none, is_some, List, [], ◌∷◌, Option, Some, None, option_map, option_and_then, refl, sym, ◌∙◌, ap}
use Rattle.ax_relation.proofs.MovedShape.{slot_shape}
use Rattle.ax_relation.proofs.PresentPaths.{own_there}
use Rattle.ax_relation.proofs.PlacedPaths.{StandsNamed, kind_has_steps}
use Rattle.ax_format.specs.At.{slot_value}
use Rattle.ax_format.specs.Bodies.{RecordShape}
use Rattle.ax_format.specs.Named.{Key, kind_at, entry_at, Named}
use Rattle.ax_format.specs.Naming.{slot_named}
use Rattle.ax_format.specs.Placed.{Placed, steps_at, place_from, named_place, has_part_where}
use Rattle.ax_format.specs.Shape.{Shape, EntriesShape}
use Rattle.ax_format.specs.Shared.{are_shared, shared_names, Shared}
use Rattle.ax_format.specs.Specification.{SpecTree, record_kind}
use Rattle.ax_format.specs.Tree.{KindTree, compound, SlotsTree, ValueTree, marked, EntriesTree}
use Rattle.ax_relation.specs.Standing.{value_below, is_there}

module _ (part : Option ℕ) (names : List (List ℕ)) (below : (k : KindTree) (ms : List ℕ) (v : ValueTree) → Shape k v → steps_at names k ≡ Some ms → is_some (entry_at part names k v) ≡ has_part_where part (value_below ms v)) where
  by_value : (s : ℕ × KindTree) (ms : List ℕ) (o : Option ValueTree) → ((w : ValueTree) → o ≡ Some w → Shape s.1 w) → steps_at names s.1 ≡ Some ms
      → is_some (option_and_then (entry_at part names s.1) o) ≡ has_part_where part (option_and_then (value_below ms) o)
  by_value s ms None has e = refl
  by_value s ms (Some w) has e = below s.1 ms w (has w refl) e

  by_steps : (s : ℕ × KindTree) (es : EntriesTree) (steps : List ℕ) (o : Option (List ℕ)) → ((w : ValueTree) → slot_value s.0 es ≡ Some w → Shape s.1 w) → steps_at names s.1 ≡ o
      → option_map (λ ms. s.0 ∷ ms) o ≡ Some steps → is_some (option_and_then (entry_at part names s.1) (slot_value s.0 es)) ≡ has_part_where part (value_below steps (marked es))
  by_steps s es steps None has e f = cc
  by_steps s es steps (Some ms) has e f =
      let g : s.0 ∷ ms ≡ steps = cc in by_value s ms (slot_value s.0 es) has e ∙ ap (λ l. has_part_where part (value_below l (marked es))) g

  by_slot : (name : List ℕ) (ss : SlotsTree) (es : EntriesTree) (steps : List ℕ) (o : Option (ℕ × KindTree)) → EntriesShape 1 ss es → slot_named 1 name ss ≡ o
      → option_and_then (λ s. option_map (λ ms. s.0 ∷ ms) (steps_at names s.1)) o ≡ Some steps
      → is_some (option_and_then (λ s. option_and_then (entry_at part names s.1) (slot_value s.0 es)) o) ≡ has_part_where part (value_below steps (marked es))
  by_slot name ss es steps None h found e = cc
  by_slot name ss es steps (Some s) h found e = by_steps s es steps (steps_at names s.1) (λ w at. slot_shape 1 name ss es s.0 s.1 w found h at) refl e

pub present_at : (part : Option ℕ) (names : List (List ℕ)) (k : KindTree) (steps : List ℕ) (v : ValueTree) → Shape k v → steps_at names k ≡ Some steps → is_some (entry_at part names k v) ≡ has_part_where part (value_below steps v)
present_at part [] k [] v h e = own_there part k v h
present_at part [] k (s ∷ steps) v h e = cc
present_at part (name ∷ names) (compound ss) steps (marked es) h e = by_slot part names (present_at part names) name ss es steps (slot_named 1 name ss) h refl e
present_at part (name ∷ names) (compound ss) steps _ h e = absurd h
present_at part (name ∷ names) _ steps v h e = cc

-- ---- one path

longer : (n : ℕ) (o : Option (List ℕ)) → option_map (λ steps. n ∷ steps) o ≡ Some [] → ⊥
longer n None e = cc
longer n (Some steps) e = cc

-- a path with a name leads through a slot
pub some_step : (first : List ℕ) (others : List (List ℕ)) (k : KindTree) → steps_at (first ∷ others) k ≡ Some [] → ⊥
some_step first others (compound ss) e = by (slot_named 1 first ss) e
  where
    by : (o : Option (ℕ × KindTree)) → option_and_then (λ s. option_map (λ steps. s.0 ∷ steps) (steps_at others s.1)) o ≡ Some [] → ⊥
    by None e = cc
    by (Some s) e = longer s.0 (steps_at others s.1) e
some_step first others _ e = cc

pub placed_present : (numbers : List ℕ) (part : Option ℕ) (es : EntriesTree) (k : KindTree) (first : List ℕ) (others : List (List ℕ)) → steps_at (first ∷ others) k ≡ Some numbers
    → is_there (place_from numbers) part es ≡ has_part_where part (value_below numbers (marked es))
placed_present (frn ∷ steps) part es k first others e = refl
placed_present [] part es k first others e = absurd (some_step first others k e)

pub present_named : (spec : SpecTree) (p : Placed) (part : Option ℕ) (es : EntriesTree) → RecordShape spec es → StandsNamed (record_kind spec) p → is_there (place_from p.numbers) part es ≡ is_some (Named spec es (record { names = p.names; part = part }))
present_named spec p part es shape h =
    let steps : steps_at (h.first ∷ h.others) (record_kind spec) ≡ Some p.numbers = ap (λ n. steps_at n (record_kind spec)) (sym h.names) ∙ h.stands.steps in
    placed_present p.numbers part es (record_kind spec) h.first h.others steps ∙ sym (present_at part (h.first ∷ h.others) (record_kind spec) p.numbers (marked es) shape.shape steps)
    ∙ ap (λ n. is_some (Named spec es (record { names = n; part = part }))) (sym h.names)

-- ---- the new place of a key

mapped_some : (o : Option (List ℕ)) → is_some (option_map place_from o) ≡ is_some o
mapped_some None = refl
mapped_some (Some n) = refl

shared_there : (part : Option ℕ) (k l : Option KindTree) → are_shared part k l ≡ true → is_some l ≡ true
shared_there part None None e = cc
shared_there part None (Some l) e = cc
shared_there part (Some k) None e = cc
shared_there part (Some k) (Some l) e = refl

shared_place_there : (old new : SpecTree) (part : Option ℕ) (path : List (List ℕ)) → shared_names old new part path ≡ true → is_some (named_place new path) ≡ true
shared_place_there old new part [] e = cc
shared_place_there old new part (name ∷ names) e =
    mapped_some (steps_at (name ∷ names) (record_kind new)) ∙ kind_has_steps (name ∷ names) (record_kind new) ∙ shared_there part (kind_at (name ∷ names) (record_kind old)) (kind_at (name ∷ names) (record_kind new)) e

pub no_new_place : (old new : SpecTree) (key : Key) → is_none (cond (Shared old new key) (named_place new key.names) None) ≡ not (Shared old new key)
no_new_place old new key = by (Shared old new key) refl
  where
    by : (b : Bool) → Shared old new key ≡ b → is_none (cond b (named_place new key.names) None) ≡ not b
    by true e = ap not (shared_place_there old new key.part key.names e)
    by false e = refl
