-- The losses of the records of a view, and that their lines are written.
use Rattle.std.specs.Prelude.{◌≡◌, ℕ, ◌+◌, ◌≤◌, List, [], ◌∷◌, ◌++◌, take, Option, Some, None, Result}
use Rattle.ax_bits.specs.Bits.{bits}
use Rattle.ax_relation.specs.declared.relation.RelationPath.{RelationPath}
use Rattle.ax_migration.specs.Finding.{record_losses}
use Rattle.ax_migration.specs.Losing.{losses_from, lost_lines}
use Rattle.ax_migration.specs.declared.line.Loss.{Loss}
use Rattle.ax_migration.specs.declared.losses.LossEntry.{LossEntry}
use Rattle.ax_migrate_views.specs.Blocks.{old_tree, new_tree}
use Rattle.ax_migrate_views.specs.declared.losses.Losses.{Losses}
use Rattle.ax_migrate_views.specs.declared.losses.RecordLosses.{RecordLosses}
use Rattle.ax_migrate_views.specs.declared.migrator.Migrator.{Migrator}
use Rattle.ax_format.specs.Bodies.{SpellsBody}
use Rattle.ax_format.specs.Sizes.{longest_block}
use Rattle.ax_format.specs.Tree.{EntriesTree}
use Rattle.ax_endpoints.specs.Changes.{SinkChange, Wrote}
use Rattle.ax_endpoints.specs.declared.sinks.SinkFailed.{SinkFailed}
use Rattle.ax_codec.specs.Table.{record_kind_at}
use Rattle.ax_codec.specs.declared.codec.Codec.{Codec}
use Rattle.ax_walk.specs.Left.{records_left}
use Rattle.ax_walk.specs.Shown.{record_entries}
use Rattle.ax_walk.specs.Values.{value_in, entries_in}

-- the entries of a record that a view shows
abbrev pub shown_entries : Codec × List ℕ → EntriesTree
shown_entries shown = entries_in (value_in (record_kind_at shown.0.nodes shown.0.slots) shown.1)

-- the first of these records has the number n
abbrev pub shown_losses : List RelationPath → ℕ → List (Codec × List ℕ) → List LossEntry
shown_losses paths n [] = []
shown_losses paths n (s ∷ shown) = record_losses n (shown_entries s) paths ++ shown_losses paths (n + 1) shown

-- ---- one loss after the other

abbrev pub loss_shown : Loss → LossEntry
loss_shown l = record { record_at = l.record_at; path = l.path.now }

-- what the record loses of the paths that are left to be looked at
abbrev pub losses_of_record : RecordLosses → List LossEntry
losses_of_record it = record_losses it.number (record_entries it.record) it.left.now

abbrev pub losses_here : Option RecordLosses → List LossEntry
losses_here None = []
losses_here (Some it) = losses_of_record it

abbrev pub losses_left : Losses → List LossEntry
losses_left it = losses_here it.here ++ shown_losses it.paths.now it.count (records_left it.later)

-- these are the losses of the records that the body spells
pub record LosesEach (m : Migrator) (body : List ℕ) (losses : List LossEntry) : Type 0 where
  pub each : (records : List EntriesTree) → SpellsBody (old_tree m) records (bits body) → losses ≡ losses_from (old_tree m) (new_tree m) 0 records

-- ---- their lines

-- the lines of the losses of the records that the body spells were written, or a prefix at a failure
pub record WritesLosses (m : Migrator) (body : List ℕ) (block : ℕ) (change : SinkChange) (result : Result Unit SinkFailed) : Type 0 where
  pub lines : (records : List EntriesTree) → SpellsBody (old_tree m) records (bits body) → Wrote change result (lost_lines block (losses_from (old_tree m) (new_tree m) 0 records))

-- where n octets can be kept, they are the lines of the losses of the records that the body spells
pub record TellsLosses (m : Migrator) (body : List ℕ) (block n : ℕ) (lines : List ℕ) : Type 0 where
  pub told : (records : List EntriesTree) → SpellsBody (old_tree m) records (bits body) → n ≤ longest_block → take n lines ≡ lost_lines block (losses_from (old_tree m) (new_tree m) 0 records)
