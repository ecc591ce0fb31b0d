-- The shared slots of two editions, in the new one's order.
use Rattle.std.specs.Prelude.{ℕ, ◌+◌, if◌then◌else◌, List, [], ◌∷◌, ◌++◌, Option, Some, None}
use Rattle.ax_relation.specs.Below.{slot_below}
use Rattle.ax_format.specs.Same.{common_parts}
use Rattle.ax_format.specs.Shared.{is_shared_kind}
use Rattle.ax_format.specs.Specification.{SpecTree, record_kind}
use Rattle.ax_format.specs.Tree.{KindTree, compound, SlotTree, SlotsTree, no_slots, slot_and, spare_slot, subitem}

mutual
  -- the old slot, the new one, how many first parts move of an extended item, and what moves below in a compound
  pub data MoveTree : Type 0 where
    move_from : ℕ → ℕ → ℕ → MovesTree → MoveTree

  pub data MovesTree : Type 0 where
    no_moves : MovesTree
    move_and : MoveTree → MovesTree → MovesTree

abbrev pub moves_from : List MoveTree → MovesTree
moves_from [] = no_moves
moves_from (m ∷ ms) = move_and m (moves_from ms)

-- the move to the new slot t of a kind, from the old slot found for it, if they share
abbrev pub move_where : ℕ → KindTree → Option (ℕ × KindTree) → (KindTree → List MoveTree) → List MoveTree
move_where t l None below = []
move_where t l (Some s) below = if is_shared_kind s.1 l then move_from s.0 t (common_parts s.1 l) (moves_from (below s.1)) ∷ [] else []

abbrev mutual
  -- from an old kind, the second one, to a new one
  pub moves_below : KindTree → KindTree → List MoveTree
  moves_below (compound ts) k = moves_of 1 ts (λ name. slot_below name k)
  moves_below _ k = []

  -- the first of the new slots has the number t; the rule says which old slot has a name
  pub moves_of : ℕ → SlotsTree → (List ℕ → Option (ℕ × KindTree)) → List MoveTree
  moves_of t no_slots rule = []
  moves_of t (slot_and spare_slot ts) rule = moves_of (t + 1) ts rule
  moves_of t (slot_and (subitem name l) ts) rule = move_where t l (rule name) (moves_below l) ++ moves_of (t + 1) ts rule

-- the moves to one new slot
abbrev pub slot_moves : ℕ → SlotTree → (List ℕ → Option (ℕ × KindTree)) → List MoveTree
slot_moves t spare_slot rule = []
slot_moves t (subitem name l) rule = move_where t l (rule name) (moves_below l)

-- from a record of the old edition to one of the new
abbrev pub record_moves : SpecTree → SpecTree → List MoveTree
record_moves old new = moves_below (record_kind new) (record_kind old)
