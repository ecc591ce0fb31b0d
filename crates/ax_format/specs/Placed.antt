-- The named paths of a specification with their places, in order: by ascending field reference number (FRN), a compound
-- before its subitems in slot order.
use Rattle.std.specs.Prelude.{ℕ, ◌+◌, nat_lt, Bool, true, false, List, [], ◌∷◌, ◌++◌, map, Option, Some, None, option_map, option_and_then}
use Rattle.ax_format.specs.At.{value_at}
use Rattle.ax_format.specs.Fitting.{list_count}
use Rattle.ax_format.specs.Naming.{slot_named}
use Rattle.ax_format.specs.Specification.{SpecTree, record_slots, record_kind}
use Rattle.ax_format.specs.Tree.{KindTree, compound, SlotsTree, no_slots, slot_and, spare_slot, subitem, ValueTree, part_values, marked, EntriesTree}
use Rattle.ax_format.specs.declared.place.Place.{Place}

-- the slot numbers that the names lead through, downwards from a kind
abbrev pub steps_at : List (List ℕ) → KindTree → Option (List ℕ)
steps_at [] k = Some []
steps_at (name ∷ names) (compound ss) = option_and_then (λ s. option_map (λ steps. s.0 ∷ steps) (steps_at names s.1)) (slot_named 1 name ss)
steps_at (name ∷ names) _ = None

-- the first number is an FRN
abbrev pub place_from : List ℕ → Place
place_from [] = record { frn = 0; steps = [] }
place_from (frn ∷ steps) = record { frn = frn; steps = steps }

abbrev pub named_place : SpecTree → List (List ℕ) → Option Place
named_place spec path = option_map place_from (steps_at path (record_kind spec))

-- a path with the slot numbers that it leads through and the kind that it leads to
pub record Placed : Type 0 where
  pub names : List (List ℕ)
  pub numbers : List ℕ
  pub kind : KindTree

abbrev pub placed_under : List ℕ → ℕ → Placed → Placed
placed_under name s p = record { names = name ∷ p.names; numbers = s ∷ p.numbers; kind = p.kind }

abbrev mutual
  pub placed_of : KindTree → List Placed
  placed_of (compound ss) = record { names = []; numbers = []; kind = compound ss } ∷ placed_slots 1 ss
  placed_of k = record { names = []; numbers = []; kind = k } ∷ []

  -- the first of these slots has the number s
  pub placed_slots : ℕ → SlotsTree → List Placed
  placed_slots s no_slots = []
  placed_slots s (slot_and spare_slot ss) = placed_slots (s + 1) ss
  placed_slots s (slot_and (subitem name k) ss) = map (placed_under name s) (placed_of k) ++ placed_slots (s + 1) ss

abbrev pub placed_paths : SpecTree → List Placed
placed_paths spec = placed_slots 1 (record_slots spec)

-- ---- in a record

-- the value itself is there, or its part after i others is
abbrev pub has_part : Option ℕ → ValueTree → Bool
has_part None v = true
has_part (Some i) (part_values ls) = nat_lt i (list_count ls)
has_part (Some i) _ = false

abbrev pub has_part_where : Option ℕ → Option ValueTree → Bool
has_part_where part None = false
has_part_where part (Some v) = has_part part v

-- something stands at the place, and has the part
abbrev pub is_present_part : EntriesTree → Place → Option ℕ → Bool
is_present_part entries place part = has_part_where part (value_at (place.frn ∷ place.steps) (marked entries))
