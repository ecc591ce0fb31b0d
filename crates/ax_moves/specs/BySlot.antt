-- The moves of a record by the old slot, where they come in the order of the old slots.
use Rattle.std.specs.Prelude.{◌≡◌, ℕ, zero, suc, ◌+◌, ◌==◌, ◌<◌, ◌≤◌, nat_lt, Bool, true, false, IsTrue, if◌then◌else◌, List, [], ◌∷◌, ◌++◌, ◌-◌, length, take, drop, get_or, Option, Some, None, IfSome}
use Rattle.std.specs.Coded.{Coded-set, coded_ℕ, coded_list}
use Rattle.ax_relation.specs.Moves.{MoveTree, move_from, MovesTree, no_moves, move_and}
use Rattle.ax_relation.specs.PlainMoves.{moves_tree}
use Rattle.ax_relation.specs.declared.moves.Move.{Move, out-Move}
use Rattle.ax_moves.specs.Octets.{move_canon, move_marks, with_slot}
use Rattle.ax_moves.specs.Wholes.{slots_in}
use Rattle.ax_format.specs.At.{slot_value}
use Rattle.ax_format.specs.Canonical.{canon}
use Rattle.ax_format.specs.InBounds.{InBounds}
use Rattle.ax_format.specs.Tree.{SlotsTree, ValueTree, EntriesTree}
use Rattle.ax_codec.specs.Table.{kind_at, record_kind_at}
use Rattle.ax_codec.specs.declared.node.Node.{Node}
use Rattle.ax_walk.specs.Values.{IsOne, value_in}

-- ---- looking up

-- the first move from slot s
abbrev pub found_move : ℕ → MovesTree → Option MoveTree
found_move s no_moves = None
found_move s (move_and (move_from u t c below) ms) = if u == s then Some (move_from u t c below) else found_move s ms

-- its place, where the first move has the place n; 0 where there is none
abbrev pub place_from : ℕ → ℕ → MovesTree → ℕ
place_from n s no_moves = 0
place_from n s (move_and (move_from u t c below) ms) = if u == s then n else place_from (n + 1) s ms

abbrev pub IsFrom : ℕ → MoveTree → Type 0
IsFrom s (move_from u t c below) = u ≡ s

-- the moves come in the order of their old slots, each slot once, and the first is a or later
abbrev pub ascends : ℕ → MovesTree → Bool
ascends a no_moves = true
ascends a (move_and (move_from s t c below) ms) = if nat_lt s a then false else ascends (s + 1) ms

-- the places of the moves from slots below n
pub record ArePlaces (moves : List Move) (n : ℕ) (places : List ℕ) : Type 0 where
  pub size : length places ≡ n
  pub at : (s : ℕ) → s < n → get_or places s 0 ≡ place_from 1 s (moves_tree moves)

-- the first move from slot s, which isn't spare, is to the slot of that number: so many parts, and what is below
pub record StaysInOwn (links : List ℕ) (ms : MovesTree) (s parts : ℕ) (below : MovesTree) : Type 0 where
  pub found : found_move s ms ≡ Some (move_from s s parts below)
  pub some : 0 < get_or links (s - 1) 0

abbrev pub IsOwnMove : List ℕ → MovesTree → ℕ → Move → Type 0
IsOwnMove links ms s m = StaysInOwn links ms s (out-Move m).parts (moves_tree (out-Move m).below)

-- ---- what slots make

abbrev pub found_canon : Option MoveTree → SlotsTree → EntriesTree → List ℕ
found_canon None ss es = []
found_canon (Some m) ss es = move_canon m ss es

abbrev pub found_marks : Option MoveTree → EntriesTree → List ℕ → List ℕ
found_marks None es marks = marks
found_marks (Some m) es marks = move_marks m es marks

-- the entries of these slots, in their order
abbrev pub slots_canon : List ℕ → MovesTree → SlotsTree → EntriesTree → List ℕ
slots_canon [] ms ss es = []
slots_canon (s ∷ slots) ms ss es = found_canon (found_move s ms) ss es ++ slots_canon slots ms ss es

-- the set with their new slots
abbrev pub slots_marks : List ℕ → MovesTree → EntriesTree → List ℕ → List ℕ
slots_marks [] ms es marks = marks
slots_marks (s ∷ slots) ms es marks = slots_marks slots ms es (found_marks (found_move s ms) es marks)

-- the octets from `start` up to `stop`
abbrev pub run_octets : ℕ → ℕ → List ℕ → List ℕ
run_octets start stop body = take (stop - start) (drop start body)

-- ---- what is known of the moves

-- the canonical octets of each value of slot s stay as it moves
abbrev pub StaysInSlot : List Node → List ℕ → MovesTree → ℕ → Type 0
StaysInSlot nodes links ms s = (es : EntriesTree) (octets : List ℕ) → 0 < get_or links (s - 1) 0 → InBounds (kind_at nodes (get_or links (s - 1) 0)) → IsOne (kind_at nodes (get_or links (s - 1) 0)) octets
    → slot_value s es ≡ Some (value_in (kind_at nodes (get_or links (s - 1) 0)) octets)
    → found_canon (found_move s ms) (slots_in (record_kind_at nodes links)) es ≡ canon (kind_at nodes (get_or links (s - 1) 0)) (value_in (kind_at nodes (get_or links (s - 1) 0)) octets)

-- of slots below n, those that are said to
pub record StayInSlots (nodes : List Node) (links : List ℕ) (moves : List Move) (n : ℕ) (stays : List Bool) : Type 0 where
  pub size : length stays ≡ n
  pub at : (s : ℕ) → s < n → IsTrue (get_or stays s false) → StaysInSlot nodes links (moves_tree moves) s

-- the set with that slot, where its mark is set
abbrev pub with_slot_by : ℕ → ℕ → List ℕ → List ℕ
with_slot_by zero s set = set
with_slot_by (suc m) s set = with_slot s set

-- an entry of slot s that moves keeps its slot, and it moves where its mark is set
abbrev pub KeepsSlot : MovesTree → ℕ → ℕ → Type 0
KeepsSlot ms s mark = (es : EntriesTree) (v : ValueTree) (set : List ℕ) → slot_value s es ≡ Some v → found_marks (found_move s ms) es set ≡ with_slot_by mark s set

-- entries that move keep their slots, and those of this set move
abbrev pub KeepSlots : List Move → List ℕ → Type 0
KeepSlots moves kept = (s : ℕ) → 1 ≤ s → s < 127 → KeepsSlot (moves_tree moves) s (get_or kept (s - 1) 0)

pub ArePlaces-prop : (moves : List Move) (n : ℕ) (places : List ℕ) → IsProp (ArePlaces moves n places)
ArePlaces-prop moves n places a b = λ i. record {
  size = Coded-set coded_ℕ (length places) n a.size b.size i;
  at = λ s lt. Coded-set coded_ℕ (get_or places s 0) (place_from 1 s (moves_tree moves)) (a.at s lt) (b.at s lt) i;
}

StaysInSlot-prop : (nodes : List Node) (links : List ℕ) (ms : MovesTree) (s : ℕ) → IsProp (StaysInSlot nodes links ms s)
StaysInSlot-prop nodes links ms s a b = λ i. λ es octets some bounds one there. Coded-set (coded_list coded_ℕ) (found_canon (found_move s ms) (slots_in (record_kind_at nodes links)) es) (canon (kind_at nodes (get_or links (s - 1) 0)) (value_in (kind_at nodes (get_or links (s - 1) 0)) octets))
    (a es octets some bounds one there) (b es octets some bounds one there) i

pub StayInSlots-prop : (nodes : List Node) (links : List ℕ) (moves : List Move) (n : ℕ) (stays : List Bool) → IsProp (StayInSlots nodes links moves n stays)
StayInSlots-prop nodes links moves n stays a b = λ i. record {
  size = Coded-set coded_ℕ (length stays) n a.size b.size i;
  at = λ s lt said. StaysInSlot-prop nodes links (moves_tree moves) s (a.at s lt said) (b.at s lt said) i;
}

pub KeepSlots-prop : (moves : List Move) (o : Option (List ℕ)) → IsProp (IfSome o (KeepSlots moves))
KeepSlots-prop moves None a b = λ i. a
KeepSlots-prop moves (Some kept) a b = λ i. λ s some few es v set there. Coded-set (coded_list coded_ℕ) (found_marks (found_move s (moves_tree moves)) es set) (with_slot_by (get_or kept (s - 1) 0) s set) (a s some few es v set there) (b s some few es v set there) i
