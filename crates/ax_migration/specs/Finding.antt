-- Losses as they are found, path by path of the relation.
use Rattle.std.specs.Prelude.{ℕ, ◌+◌, ◌&&◌, if◌then◌else◌, is_none, List, [], ◌∷◌, ◌++◌}
use Rattle.ax_relation.specs.Standing.{is_there}
use Rattle.ax_relation.specs.declared.relation.RelationPath.{RelationPath}
use Rattle.ax_migration.specs.declared.losses.LossEntry.{LossEntry}
use Rattle.ax_format.specs.Tree.{EntriesTree}

abbrev pub path_loss : ℕ → EntriesTree → RelationPath → List LossEntry
path_loss n es p = if is_none p.new && is_there p.old p.part es then record { record_at = n; path = p.text } ∷ [] else []

abbrev pub record_losses : ℕ → EntriesTree → List RelationPath → List LossEntry
record_losses n es [] = []
record_losses n es (p ∷ ps) = path_loss n es p ++ record_losses n es ps

-- the first of these records has the number n
abbrev pub found_losses : List RelationPath → ℕ → List EntriesTree → List LossEntry
found_losses paths n [] = []
found_losses paths n (r ∷ rs) = record_losses n r paths ++ found_losses paths (n + 1) rs
