-- The rows that stand beside the nodes of compounds.
use Rattle.std.specs.Prelude.{◌≡◌, ℕ, ◌<◌, List, [], ◌∷◌, length}
use Rattle.ax_rows.specs.Rows.{AreRowsOf}
use Rattle.ax_rows.specs.declared.slot_rows.SlotRows.{SlotRows}
use Rattle.ax_codec.specs.declared.node.Node.{Node}
use Rattle.ax_codec.specs.declared.node.Node.TheVariants as Of

-- the links of a compound's slots; none of another node
abbrev pub node_slots : Node → List ℕ
node_slots (Of.Element w) = []
node_slots (Of.Group w links) = []
node_slots (Of.Part w links) = []
node_slots (Of.Extended last links) = []
node_slots (Of.Counted size link) = []
node_slots (Of.ByFx link) = []
node_slots Of.Explicit = []
node_slots (Of.Compound mask links) = links

-- they are rows of the node's slots, or of no slot
pub record AreNodeRows (octets : List ℕ) (n : Node) (r : SlotRows) : Type 0 where
  pub rows : AreRowsOf octets r
  pub slots : 0 < length r.slots.items → r.slots.items ≡ node_slots n

-- so for the first nodes, as many as there are rows
abbrev pub EachRows : List ℕ → List Node → List SlotRows → Type 0
EachRows octets ns [] = Unit {0}
EachRows octets [] (r ∷ rs) = ⊥
EachRows octets (n ∷ ns) (r ∷ rs) = AreNodeRows octets n r × EachRows octets ns rs
