-- The canonical octets of a migrated item, as its view shows it, and what a compound is.
use Rattle.std.specs.Prelude.{◌≡◌, ◌-◌, ℕ, List, get_or}
use Rattle.ax_codec.specs.declared.node.Node.{Node}
use Rattle.ax_codec.specs.declared.node.Node.TheVariants as Of
use Rattle.ax_fspec.specs.declared.mask.SlotMask.{SlotMask}
use Rattle.ax_moves.specs.Octets.{value_canon_by}
use Rattle.ax_relation.specs.Moves.{MovesTree}
use Rattle.ax_relation.specs.PlainMoves.{moves_tree}
use Rattle.ax_relation.specs.declared.moves.Move.{Move, out-Move}
use Rattle.ax_walk.specs.Shown.{item_kind, item_value}
use Rattle.ax_walk.specs.declared.item.ItemView.{ItemView}

-- of an extended item its first c parts
abbrev pub item_canon_by : ℕ → MovesTree → ItemView → List ℕ
item_canon_by c ms item = value_canon_by c ms (item_kind item) (item_value item)

-- as a move takes the item to its new slot
abbrev pub moved_item : Move → ItemView → List ℕ
moved_item m item = item_canon_by (out-Move m).parts (moves_tree (out-Move m).below) item

-- the item is a compound of these slots
pub record IsCompoundOf (item : ItemView) (links : List ℕ) : Type 0 where
  pub one : Node
  pub at : one ≡ get_or item.codec.now.nodes (item.link - 1) one
  pub mask : SlotMask
  pub own : List ℕ
  pub is : one ≡ Of.Compound mask own
  pub same : own ≡ links
