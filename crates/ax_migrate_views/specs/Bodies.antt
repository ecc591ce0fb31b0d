-- Bodies as they move.
use Rattle.std.specs.Prelude.{◌≡◌, ℕ, List, flat_map}
use Rattle.ax_bits.specs.Bits.{bits}
use Rattle.ax_relation.specs.Moves.{MovesTree}
use Rattle.ax_relation.specs.PlainMoves.{moves_tree}
use Rattle.ax_relation.specs.declared.moves.Move.{Move}
use Rattle.ax_relation.specs.declared.relation.RelationPath.{RelationPath}
use Rattle.ax_migration.specs.Finding.{found_losses}
use Rattle.ax_migration.specs.Losing.{lost_lines}
use Rattle.ax_moves.specs.Laying.{Gathers, Lays}
use Rattle.ax_moves.specs.Octets.{canon_by}
use Rattle.ax_format.specs.Bodies.{SpellsBody}
use Rattle.ax_format.specs.Flaws.{NoFlaw}
use Rattle.ax_format.specs.Specification.{SpecTree, record_kind}
use Rattle.ax_format.specs.Tree.{marked, EntriesTree}
use Rattle.ax_codec.specs.Bare.{bare_kind}
use Rattle.ax_codec.specs.Standing.{StandsFor}
use Rattle.ax_codec.specs.declared.codec.Codec.{Codec}
use Rattle.ax_codec.specs.Table.{record_kind_at}
use Rattle.ax_walk.specs.Placing.{PlacesKind, entries_there}
use Rattle.ax_walk.specs.declared.places.PlacedSlots.{PlacedSlots}

-- the records of the old edition, one after the other
abbrev pub body_by : MovesTree → SpecTree → List EntriesTree → List ℕ
body_by ms old records = flat_map (λ r. canon_by ms (bare_kind (record_kind old)) (marked r)) records

-- the slots are those of a record, which is read from their octet on, and its items stand in their places
pub record IsRecordPlaced (w : PlacedSlots) : Type 0 where
  pub slots : w.slots.now ≡ w.codec.now.slots
  pub end : ℕ
  pub placed : PlacesKind w.codec.now.nodes w.codec.now.slots w.body.now w.at w.places.now end

-- the entries of such a record
abbrev pub placed_entries : PlacedSlots → EntriesTree
placed_entries w = entries_there w.codec.now.nodes w.codec.now.slots w.body.now w.at

-- its bits as it moves
abbrev pub record_canon_by : List Move → PlacedSlots → List ℕ
record_canon_by moves w = canon_by (moves_tree moves) (record_kind_at w.codec.now.nodes w.codec.now.slots) (marked (placed_entries w))

-- the records that the body spells are laid as they move, for each specification that the codec stands for
pub record LaysBody (codec : Codec) (moves : List Move) (body : List ℕ) (at n : ℕ) (old new : List ℕ) : Type 0 where
  pub laid : (spec : SpecTree) (records : List EntriesTree) → NoFlaw spec → StandsFor codec spec → SpellsBody spec records (bits body) → Lays (body_by (moves_tree moves) spec records) at n old new

-- the lines of what the records lose that the body spells are laid, for each specification that the codec stands for
pub record TellsBody (codec : Codec) (lost : List RelationPath) (block : ℕ) (body : List ℕ) (n : ℕ) (old new : List ℕ) : Type 0 where
  pub told : (spec : SpecTree) (records : List EntriesTree) → NoFlaw spec → StandsFor codec spec → SpellsBody spec records (bits body) → Gathers (lost_lines block (found_losses lost 0 records)) 0 n old new
