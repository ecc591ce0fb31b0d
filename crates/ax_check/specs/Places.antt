-- Where a path leads in a specification (this project's own paths): to an item of the UAP, a subitem of a compound, a
-- member of a group or of a part. Nothing inside a counted, wide or by-FX item is a place.
use Rattle.std.specs.Prelude.{ℕ, zero, suc, List, [], ◌∷◌, Option, Some, None, option_map, option_and_then}
use Rattle.ax_format.specs.Lengths.{slot_kind}
use Rattle.ax_format.specs.Naming.{member_named, part_named, slot_named, frn_of}
use Rattle.ax_format.specs.Specification.{SpecTree, first_named, record_slots}
use Rattle.ax_format.specs.Tree.{FixedTree, element, group, MembersTree, no_members, member_and, MemberTree, named, spare, KindTree, fixed, extended, compound}
use Rattle.ax_format.specs.declared.place.Place.{Place}

-- ---- the steps that names lead down

abbrev pub fixed_steps : List (List ℕ) → FixedTree → Option (List ℕ)
fixed_steps [] f = Some []
fixed_steps (name ∷ names) (group ms) = option_and_then (λ m. option_map (λ steps. m.0 ∷ steps) (fixed_steps names m.1)) (member_named 0 name ms)
fixed_steps (name ∷ names) (element w c) = None

abbrev pub kind_steps : List (List ℕ) → KindTree → Option (List ℕ)
kind_steps [] k = Some []
kind_steps (name ∷ names) (fixed f) = fixed_steps (name ∷ names) f
kind_steps (name ∷ names) (extended last ps) =
    option_and_then (λ p. option_map (λ steps. p.0 ∷ p.1.0 ∷ steps) (fixed_steps names p.1.1)) (part_named 0 name ps)
kind_steps (name ∷ names) (compound ss) = option_and_then (λ s. option_map (λ steps. s.0 ∷ steps) (kind_steps names s.1)) (slot_named 1 name ss)
kind_steps (name ∷ names) _ = None

abbrev pub place_at : ℕ → List ℕ → Place
place_at frn steps = record { frn = frn; steps = steps }

-- the place of a path, if it is one: its first name is that of an item that stands in the UAP
abbrev pub place_of : SpecTree → List (List ℕ) → Option Place
place_of spec [] = None
place_of spec (name ∷ names) =
    option_and_then (λ frn. option_and_then (λ item. option_map (place_at frn) (kind_steps names item.kind)) (first_named name spec.items)) (frn_of 1 name spec.uap)

-- ---- the element at a place

abbrev pub fixed_of_member : MemberTree → Option FixedTree
fixed_of_member (named name f) = Some f
fixed_of_member (spare w) = None

-- of the member after n others
abbrev pub member_fixed : ℕ → MembersTree → Option FixedTree
member_fixed n no_members = None
member_fixed zero (member_and m ms) = fixed_of_member m
member_fixed (suc n) (member_and m ms) = member_fixed n ms

abbrev pub part_fixed : ℕ → ℕ → List MembersTree → Option FixedTree
part_fixed n i [] = None
part_fixed zero i (p ∷ ps) = member_fixed i p
part_fixed (suc n) i (p ∷ ps) = part_fixed n i ps

abbrev pub fixed_element : List ℕ → FixedTree → Option FixedTree
fixed_element [] (element w c) = Some (element w c)
fixed_element [] (group ms) = None
fixed_element (i ∷ steps) (element w c) = None
fixed_element (i ∷ steps) (group ms) = option_and_then (fixed_element steps) (member_fixed i ms)

abbrev pub kind_element : List ℕ → KindTree → Option FixedTree
kind_element steps (fixed f) = fixed_element steps f
kind_element (p ∷ i ∷ steps) (extended last ps) = option_and_then (fixed_element steps) (part_fixed p i ps)
kind_element (s ∷ steps) (compound ss) = option_and_then (kind_element steps) (slot_kind ss s)
kind_element _ _ = None

-- a group or another kind is no element
abbrev pub element_at : SpecTree → Place → Option FixedTree
element_at spec place = option_and_then (kind_element place.steps) (slot_kind (record_slots spec) place.frn)
