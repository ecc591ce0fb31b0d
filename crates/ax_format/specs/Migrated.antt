-- The migrated record and its losses, and the migrated block (this project's own rules).
use Rattle.std.specs.Prelude.{◌≡◌, ℕ, Bool, ◌&&◌, not, is_some, if◌then◌else◌, List, [], ◌∷◌, filter, Option, None}
use Rattle.ax_format.specs.Blocks.{BlockTree, read_block, opaque_block}
use Rattle.ax_format.specs.Bodies.{RecordShape}
use Rattle.ax_format.specs.Named.{Key, NamedEntry, Named, named_keys}
use Rattle.ax_format.specs.Shared.{Shared}
use Rattle.ax_format.specs.Specification.{SpecTree}
use Rattle.ax_format.specs.Tree.{EntriesTree}

abbrev pub kept_where : Bool → Option NamedEntry → Option NamedEntry
kept_where holds entry = if holds then entry else None

-- a record of the new edition that has the old one's entries of the shared keys, and no others
pub record Migrated (old new : SpecTree) (entries made : EntriesTree) : Type 0 where
  pub shape : RecordShape new made
  pub named : (key : Key) → Named new made key ≡ kept_where (Shared old new key) (Named old entries key)

abbrev pub is_lost : SpecTree → SpecTree → EntriesTree → Key → Bool
is_lost old new entries key = is_some (Named old entries key) && not (Shared old new key)

-- the other keys that are present, by ascending FRN, a compound before its subitems, an extended item before its parts
abbrev pub Lost : SpecTree → SpecTree → EntriesTree → List Key
Lost old new entries = filter (is_lost old new entries) (named_keys old)

-- ---- blocks

-- one migrated record for each record, in order
abbrev pub EachMigrated : SpecTree → SpecTree → List EntriesTree → List EntriesTree → Type 0
EachMigrated old new [] [] = Unit {0}
EachMigrated old new (r ∷ rs) (s ∷ ss) = Migrated old new r s × EachMigrated old new rs ss
EachMigrated old new _ _ = ⊥

-- of one category, record by record; an opaque block is unchanged
abbrev pub MigratedBlock : SpecTree → SpecTree → BlockTree → BlockTree → Type 0
MigratedBlock old new (read_block category records) (read_block other made) = (other ≡ category) × EachMigrated old new records made
MigratedBlock old new (opaque_block category content) made = made ≡ opaque_block category content
MigratedBlock old new _ _ = ⊥
