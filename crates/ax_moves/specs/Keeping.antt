-- Values that stay as they are, and compounds of which each subitem keeps its slot.
use Rattle.std.specs.Prelude.{◌≡◌, ℕ, ◌+◌, ◌≤◌, List, length}
use Rattle.ax_relation.specs.Moves.{MoveTree, move_from, MovesTree, no_moves, move_and}
use Rattle.ax_moves.specs.Octets.{value_canon_by}
use Rattle.ax_format.specs.Canonical.{canon}
use Rattle.ax_format.specs.InBounds.{InBounds}
use Rattle.ax_format.specs.Shape.{Shape}
use Rattle.ax_format.specs.Tree.{KindTree, extended, compound, SlotsTree, no_slots, slot_and, spare_slot, subitem, ValueTree}
use Rattle.ax_codec.specs.Table.{kind_at}
use Rattle.ax_codec.specs.declared.node.Node.{Node}

-- no compound, and of an extended kind no more than c parts: the first c parts of each value are all
abbrev pub IsLeaf : ℕ → KindTree → Type 0
IsLeaf c (compound ss) = ⊥
IsLeaf c (extended last ps) = length ps ≤ c
IsLeaf c _ = Unit {0}

-- the whole value of slot t stays in that slot
abbrev pub StaysIn : ℕ → KindTree → MoveTree → Type 0
StaysIn t k (move_from s u c below) = (s ≡ t) × (u ≡ t) × IsLeaf c k

-- each of these slots, of which the first has the number t, stays, none is a compound, and nothing else moves
abbrev pub KeepsAll : ℕ → SlotsTree → MovesTree → Type 0
KeepsAll t no_slots no_moves = Unit {0}
KeepsAll t no_slots (move_and m ms) = ⊥
KeepsAll t (slot_and spare_slot ss) ms = KeepsAll (t + 1) ss ms
KeepsAll t (slot_and (subitem name k) ss) no_moves = ⊥
KeepsAll t (slot_and (subitem name k) ss) (move_and m ms) = StaysIn t k m × KeepsAll (t + 1) ss ms

-- the canonical octets of each value of the link's kind stay as it moves, of an extended one the first c parts
abbrev pub MovesWhole : List Node → ℕ → ℕ → MovesTree → Type 0
MovesWhole nodes link c ms = (v : ValueTree) → InBounds (kind_at nodes link) → Shape (kind_at nodes link) v → value_canon_by c ms (kind_at nodes link) v ≡ canon (kind_at nodes link) v
