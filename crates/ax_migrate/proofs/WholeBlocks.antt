-- What the code makes of a block is its migrated block, with its losses.
use Rattle.std.proofs.Common.{◌≡◌, ℕ, ◌<◌, List, [], ◌∷◌, length, map, refl, sym, ◌∙◌, ap, subst}
use Rattle.std.specs.List.{AllByRecursion}
use Rattle.ax_relation.specs.Moves.{moves_from, record_moves}
use Rattle.ax_relation.specs.PlainMoves.{move_tree, moves_tree}
use Rattle.ax_relation.specs.Relates.{Relates}
use Rattle.ax_relation.specs.declared.moves.Move.{Move}
use Rattle.ax_relation.specs.declared.relation.Relation.{Relation}
use Rattle.ax_migrate.proofs.ByMoves.{entries_moved}
use Rattle.ax_migration.proofs.Found.{all_found}
use Rattle.ax_migration.specs.Finding.{found_losses}
use Rattle.ax_migration.specs.Migrating.{records_by, BlockMigrated, losses_of}
use Rattle.ax_migration.specs.Moving.{entries_by}
use Rattle.ax_migration.specs.declared.losses.LossEntry.{LossEntry}
use Rattle.ax_format.specs.Blocks.{BlockTree, read_block, opaque_block, Fits}
use Rattle.ax_format.specs.Bodies.{RecordShape}
use Rattle.ax_format.specs.OfCode.{BlockFits}
use Rattle.ax_format.specs.Plain.{spec_tree, records_tree, block_tree}
use Rattle.ax_format.specs.Specification.{SpecTree, record_slots}
use Rattle.ax_format.specs.Tree.{EntriesTree}
use Rattle.ax_format.specs.declared.record.Block.{Block}
use Rattle.ax_format.specs.declared.record.Block.TheVariants as BlockOf
use Rattle.ax_format.specs.declared.record.Record.{Record}
use Rattle.ax_format.specs.declared.spec.Spec.{Spec}
use Rattle.ax_relation.proofs.DistinctNames.{record_distinct}
use Rattle.ax_relation.proofs.Once.{moved_migrated}
use Rattle.ax_format.specs.Migrated.{EachMigrated, MigratedBlock, Migrated}

record_moved : (old new : SpecTree) (moves : List Move) (es : EntriesTree) → map move_tree moves ≡ record_moves old new → RecordShape old es
    → Migrated old new es (entries_by (moves_tree moves) es)
record_moved old new moves es m h =
    let P : EntriesTree → Type 0 = λ x. Migrated old new es x in
    subst P (sym (ap (λ ms. entries_by (moves_from ms) es) m ∙ entries_moved 1 (record_slots new) (record_slots old) es h.shape)) (moved_migrated old new es h)

each_moved : (old new : SpecTree) (moves : List Move) (rs : List EntriesTree) → map move_tree moves ≡ record_moves old new
    → AllByRecursion (RecordShape old) rs → EachMigrated old new rs (records_by moves rs)
each_moved old new moves [] m h = tt
each_moved old new moves (r ∷ rs) m h = (record_moved old new moves r m h.0, each_moved old new moves rs m h.1)

each_shape : (old new : SpecTree) (rs ss : List EntriesTree) → EachMigrated old new rs ss → (length ss ≡ length rs) × AllByRecursion (RecordShape new) ss
each_shape old new [] [] h = (refl, tt)
each_shape old new [] (s ∷ ss) h = absurd h
each_shape old new (r ∷ rs) [] h = absurd h
each_shape old new (r ∷ rs) (s ∷ ss) h =
    let t = each_shape old new rs ss h.1 in (ap ℕ.suc t.0, (h.0.shape, t.1))

pub moves_migrate : (old new : Spec) (relation : Relation) (es : EntriesTree) → Relates old new relation → RecordShape (spec_tree old) es → Migrated (spec_tree old) (spec_tree new) es (entries_by (moves_tree relation.moves) es)
moves_migrate old new relation es related h = record_moved (spec_tree old) (spec_tree new) relation.moves es related.moves h

module _ (old new : Spec) (relation : Relation) (related : Relates old new relation) where
  pub read_migrated : (block : Block) (category : ℕ) (records made : List Record) → block ≡ BlockOf.Read category records → BlockFits old block → records_tree made ≡ records_by relation.moves (records_tree records)
      → BlockMigrated old new block (BlockOf.Read category made)
  read_migrated block category records made is fits m =
      let fit = subst (BlockFits old) is fits in
      let P : List EntriesTree → Type 0 = λ x. MigratedBlock (spec_tree old) (spec_tree new) (read_block category (records_tree records)) (read_block category x) in
      let Q : Block → Type 0 = λ b. BlockMigrated old new b (BlockOf.Read category made) in
      subst Q (sym is) (subst P (sym m) (refl, each_moved (spec_tree old) (spec_tree new) relation.moves (records_tree records) related.moves fit.2))

  pub read_losses : (block : Block) (category : ℕ) (records : List Record) (losses : List LossEntry) → block ≡ BlockOf.Read category records → BlockFits old block → losses ≡ found_losses relation.paths 0 (records_tree records) → losses ≡ losses_of old new block
  read_losses block category records losses is fits l =
      let fit = subst (BlockFits old) is fits in
      l ∙ ap (λ ps. found_losses ps 0 (records_tree records)) related.paths ∙ all_found (spec_tree old) (spec_tree new) 0 (records_tree records) (record_distinct (spec_tree old) related.old_no_flaw) fit.2 ∙ ap (losses_of old new) (sym is)

  pub opaque_migrated : (block made : Block) (category : ℕ) (octets : List ℕ) → block ≡ BlockOf.Opaque category octets → made ≡ block → BlockMigrated old new block made
  opaque_migrated block made category octets is same =
      let P : Block → Type 0 = λ b. BlockMigrated old new b b in
      let Q : Block → Type 0 = λ b. BlockMigrated old new block b in subst Q (sym same) (subst P (sym is) refl)

  pub opaque_losses : (block : Block) (category : ℕ) (octets : List ℕ) (losses : List LossEntry) → block ≡ BlockOf.Opaque category octets → losses ≡ [] → losses ≡ losses_of old new block
  opaque_losses block category octets losses is none = none ∙ ap (losses_of old new) (sym is)

  fits_tree : (b c : BlockTree) → Fits (spec_tree old) b → MigratedBlock (spec_tree old) (spec_tree new) b c → Fits (spec_tree new) c
  fits_tree (read_block category records) (read_block other made) f m =
      let t = each_shape (spec_tree old) (spec_tree new) records made m.1 in
      let P : ℕ → Type 0 = λ n. 0 < n in (m.0 ∙ f.0 ∙ related.category, subst P (sym t.0) f.1, t.1)
  fits_tree (read_block category records) (opaque_block other octets) f m = absurd m
  fits_tree (opaque_block category octets) c f m =
      let P : BlockTree → Type 0 = λ b. Fits (spec_tree new) b in
      subst P (sym m) ((λ e. f.0 (e ∙ sym related.category)), f.1)

  -- a migrated block fits the new edition
  pub migrated_fits : (block made : Block) → BlockFits old block → BlockMigrated old new block made → BlockFits new made
  migrated_fits block made f m = fits_tree (block_tree block) (block_tree made) f m

pub ruleset blocks = (read_migrated, read_losses, opaque_migrated, opaque_losses, migrated_fits)
