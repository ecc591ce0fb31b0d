-- Compounds that stay as they are because each subitem that is there does.
use Rattle.std.specs.Prelude.{◌≡◌, ℕ, ◌-◌, ◌<◌, ◌≤◌, IsTrue, List, length, get_or, Option, Some, None, IfSome}
use Rattle.std.specs.Coded.{Coded-set, coded_ℕ, coded_list}
use Rattle.ax_fspec.specs.Marks.{IsMarked}
use Rattle.ax_relation.specs.Moves.{move_from, MovesTree}
use Rattle.ax_relation.specs.PlainMoves.{moves_tree}
use Rattle.ax_relation.specs.declared.moves.Move.{Move}
use Rattle.ax_moves.specs.BySlot.{ascends, found_canon, found_move}
use Rattle.ax_moves.specs.Keeping.{IsLeaf}
use Rattle.ax_moves.specs.Lost.{NoneShared}
use Rattle.ax_moves.specs.Wholes.{slots_in, whole_entries}
use Rattle.ax_format.specs.At.{slot_value}
use Rattle.ax_format.specs.Canonical.{canon}
use Rattle.ax_format.specs.InBounds.{InBounds}
use Rattle.ax_format.specs.Lengths.{kind_after}
use Rattle.ax_format.specs.Tree.{KindTree, SlotsTree, marked, EntriesTree}
use Rattle.ax_codec.specs.Table.{kind_at, record_kind_at}
use Rattle.ax_codec.specs.declared.node.Node.{Node}
use Rattle.ax_walk.specs.Values.{IsOne, value_in}
use Rattle.ax_walk.specs.declared.places.PlacedSlots.{PlacedSlots}

-- ---- subitems

-- the entry of slot s keeps its slot and moves whole, and is of no compound
pub record Remains (ss : SlotsTree) (ms : MovesTree) (s : ℕ) : Type 0 where
  pub parts : ℕ
  pub below : MovesTree
  pub kind : KindTree
  pub found : found_move s ms ≡ Some (move_from s s parts below)
  pub is : kind_after (s - 1) ss ≡ Some kind
  pub leaf : IsLeaf parts kind

-- the same, by the links of the slots
abbrev pub RemainsIn : List Node → List ℕ → MovesTree → ℕ → Type 0
RemainsIn nodes links ms s = Remains (slots_in (record_kind_at nodes links)) ms s

-- it holds of the slots below n that aren't in the set
pub record OthersAre (P : ℕ → Type 0) (n : ℕ) (leaving : List ℕ) : Type 0 where
  pub size : length leaving ≡ 126
  pub at : (s : ℕ) → 1 ≤ s → s < n → (IsMarked leaving s → ⊥) → P s

-- of slots below n, those that aren't in the set remain, and where there is such a one the moves are in order
abbrev pub OthersRemain : List Node → List ℕ → MovesTree → ℕ → List ℕ → Type 0
OthersRemain nodes links ms n leaving = OthersAre (λ s. IsTrue (ascends 1 ms) × RemainsIn nodes links ms s) n leaving

-- ---- compounds

-- the canonical octets of each compound of slot s without subitems in the set stay as it moves
abbrev pub StaysWithout : List Node → List ℕ → MovesTree → ℕ → List ℕ → Type 0
StaysWithout nodes links ms s leaving = (es entries : EntriesTree) (octets marks : List ℕ) → 0 < get_or links (s - 1) 0 → InBounds (kind_at nodes (get_or links (s - 1) 0)) → IsOne (kind_at nodes (get_or links (s - 1) 0)) octets
    → value_in (kind_at nodes (get_or links (s - 1) 0)) octets ≡ marked entries → length marks ≡ 126 → ((t : ℕ) → (IsMarked marks t → ⊥) → slot_value t entries ≡ None) → NoneShared marks leaving
    → slot_value s es ≡ Some (value_in (kind_at nodes (get_or links (s - 1) 0)) octets)
    → found_canon (found_move s ms) (slots_in (record_kind_at nodes links)) es ≡ canon (kind_at nodes (get_or links (s - 1) 0)) (value_in (kind_at nodes (get_or links (s - 1) 0)) octets)

-- of slots below n, those of compounds that move
pub record StayWithout (nodes : List Node) (links : List ℕ) (moves : List Move) (n : ℕ) (leaving : List (Option (List ℕ))) : Type 0 where
  pub size : length leaving ≡ n
  pub at : (s : ℕ) → s < n → IfSome (get_or leaving s None) (StaysWithout nodes links (moves_tree moves) s)

-- what stands in the slot is a compound without subitems in the set, which is there
pub record LacksIn (w : PlacedSlots) (slot : ℕ) (set : Option (List ℕ)) : Type 0 where
  pub leaving : List ℕ
  pub is : set ≡ Some leaving
  pub entries : EntriesTree
  pub value : slot_value slot (whole_entries w) ≡ Some (marked entries)
  pub marks : List ℕ
  pub size : length marks ≡ 126
  pub others : (t : ℕ) → (IsMarked marks t → ⊥) → slot_value t entries ≡ None
  pub apart : NoneShared marks leaving

StaysWithout-prop : (nodes : List Node) (links : List ℕ) (ms : MovesTree) (s : ℕ) (set : Option (List ℕ)) → IsProp (IfSome set (StaysWithout nodes links ms s))
StaysWithout-prop nodes links ms s None a b = λ i. a
StaysWithout-prop nodes links ms s (Some leaving) a b = λ i. λ es entries octets marks some bounds one is size others apart there. Coded-set (coded_list coded_ℕ) (found_canon (found_move s ms) (slots_in (record_kind_at nodes links)) es) (canon (kind_at nodes (get_or links (s - 1) 0)) (value_in (kind_at nodes (get_or links (s - 1) 0)) octets))
    (a es entries octets marks some bounds one is size others apart there) (b es entries octets marks some bounds one is size others apart there) i

pub StayWithout-prop : (nodes : List Node) (links : List ℕ) (moves : List Move) (n : ℕ) (leaving : List (Option (List ℕ))) → IsProp (StayWithout nodes links moves n leaving)
StayWithout-prop nodes links moves n leaving a b = λ i. record {
  size = Coded-set coded_ℕ (length leaving) n a.size b.size i;
  at = λ s lt. StaysWithout-prop nodes links (moves_tree moves) s (get_or leaving s None) (a.at s lt) (b.at s lt) i;
}
