-- What a block loses: the lost keys of its records, which are numbered from 0.
use Rattle.std.specs.Prelude.{ℕ, ◌+◌, List, [], ◌∷◌, ◌++◌, map, flat_map, codes}
use Rattle.ax_migration.specs.declared.losses.LossEntry.{LossEntry}
use Rattle.ax_format.specs.Blocks.{BlockTree, read_block, opaque_block}
use Rattle.ax_format.specs.Migrated.{Lost}
use Rattle.ax_format.specs.Named.{Key, key_text}
use Rattle.ax_format.specs.Specification.{SpecTree}
use Rattle.ax_format.specs.Tree.{EntriesTree}
use Rattle.ax_report.specs.Lines.{entry_line}

abbrev pub loss : ℕ → ℕ → Key → LossEntry
loss category n key = record { record_at = n; path = key_text category key }

-- the first of these records has the number n
abbrev pub losses_from : SpecTree → SpecTree → ℕ → List EntriesTree → List LossEntry
losses_from old new n [] = []
losses_from old new n (r ∷ rs) = map (loss old.category n) (Lost old new r) ++ losses_from old new (n + 1) rs

abbrev pub block_losses : SpecTree → SpecTree → BlockTree → List LossEntry
block_losses old new (read_block category records) = losses_from old new 0 records
block_losses old new (opaque_block category octets) = []

-- ---- lines (this project's own rule): the number of the block, the number of the record in it, and the path

abbrev pub lost_line : ℕ → ℕ → List ℕ → List ℕ
lost_line block n path = entry_line (codes "lost") block n path

abbrev pub lost_lines : ℕ → List LossEntry → List ℕ
lost_lines block losses = flat_map (λ l. lost_line block l.record_at l.path) losses
