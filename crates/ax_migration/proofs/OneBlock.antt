-- A block has exactly one migrated block.
use Rattle.std.proofs.Common.{◌≡◌, List, [], ◌∷◌, map, refl, sym, subst}
use Rattle.std.specs.List.{AllByRecursion}
use Rattle.ax_relation.proofs.Once.{moved_migrated, migrated_once}
use Rattle.ax_relation.specs.Moved.{moved_record}
use Rattle.ax_migration.specs.Migrating.{migrated_block}
use Rattle.ax_format.specs.Blocks.{BlockTree, read_block, opaque_block, Fits}
use Rattle.ax_format.specs.Bodies.{RecordShape}
use Rattle.ax_format.specs.Flaws.{NoFlaw}
use Rattle.ax_format.specs.Migrated.{EachMigrated, MigratedBlock}
use Rattle.ax_format.specs.Specification.{SpecTree}
use Rattle.ax_format.specs.Tree.{EntriesTree}

each_is : (old new : SpecTree) (rs ss : List EntriesTree) → NoFlaw new → AllByRecursion (RecordShape old) rs → EachMigrated old new rs ss → ss ≡ map (moved_record old new) rs
each_is old new [] [] n h m = refl
each_is old new [] (s ∷ ss) n h m = absurd m
each_is old new (r ∷ rs) [] n h m = absurd m
each_is old new (r ∷ rs) (s ∷ ss) n h m =
    let one = migrated_once old new r s (moved_record old new r) n m.0 (moved_migrated old new r h.0) in
    let rest = each_is old new rs ss n h.1 m.1 in λ i. one i ∷ rest i

each_migrates : (old new : SpecTree) (rs : List EntriesTree) → AllByRecursion (RecordShape old) rs → EachMigrated old new rs (map (moved_record old new) rs)
each_migrates old new [] h = tt
each_migrates old new (r ∷ rs) h = (moved_migrated old new r h.0, each_migrates old new rs h.1)

pub migrated_is_block : (old new : SpecTree) (block made : BlockTree) → NoFlaw new → Fits old block → MigratedBlock old new block made → made ≡ migrated_block old new block
migrated_is_block old new (read_block category records) (read_block other made) n f m =
    let rest = each_is old new records made n f.2 m.1 in λ i. read_block (m.0 i) (rest i)
migrated_is_block old new (read_block category records) (opaque_block other octets) n f m = absurd m
migrated_is_block old new (opaque_block category octets) made n f m = m

migrates : (old new : SpecTree) (block : BlockTree) → Fits old block → MigratedBlock old new block (migrated_block old new block)
migrates old new (read_block category records) f = (refl, each_migrates old new records f.2)
migrates old new (opaque_block category octets) f = refl

pub block_is_migrated : (old new : SpecTree) (block made : BlockTree) → Fits old block → made ≡ migrated_block old new block → MigratedBlock old new block made
block_is_migrated old new block made f e =
    let P : BlockTree → Type 0 = λ b. MigratedBlock old new block b in subst P (sym e) (migrates old new block f)
