-- Which subitems a compound has, by its presence field alone.
use Rattle.std.specs.Prelude.{◌≡◌, ℕ, List, [], ◌∷◌, length, None}
use Rattle.ax_bits.specs.Bits.{bits}
use Rattle.ax_fspec.specs.Marks.{IsMarked}
use Rattle.ax_moves.specs.Lost.{NoneShared}
use Rattle.ax_moves.specs.Octets.{value_canon_by}
use Rattle.ax_format.specs.At.{slot_value}
use Rattle.ax_format.specs.Tree.{marked, EntriesTree}
use Rattle.ax_relation.specs.Moves.{MovesTree}
use Rattle.ax_codec.specs.Table.{record_kind_at}
use Rattle.ax_walk.specs.Shown.{item_kind, item_value}
use Rattle.ax_walk.specs.declared.item.ItemView.{ItemView}

-- the item is a compound, and has no other subitems than those of the slots in this set
pub record HasOnly (item : ItemView) (marks : List ℕ) : Type 0 where
  pub links : List ℕ
  pub kind : item_kind item ≡ record_kind_at item.codec.now.nodes links
  pub entries : EntriesTree
  pub value : item_value item ≡ marked entries
  pub others : (s : ℕ) → (IsMarked marks s → ⊥) → slot_value s entries ≡ None
  pub size : length marks ≡ 126

-- the item is a compound that has no subitem in these slots
pub record HasNoneOf (item : ItemView) (slots : List ℕ) : Type 0 where
  pub marks : List ℕ
  pub only : HasOnly item marks
  pub apart : NoneShared marks slots

-- whatever moves, the item's value is one octet of 0
abbrev pub IsBare : ItemView → Type 0
IsBare item = (c : ℕ) (ms : MovesTree) → value_canon_by c ms (item_kind item) (item_value item) ≡ bits (0 ∷ [])
