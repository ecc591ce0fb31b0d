-- The data blocks that the migrated records of a view come into.
use Rattle.std.specs.Prelude.{◌≡◌, ℕ, ◌+◌, ◌<◌, ◌≤◌, List, length, get_or, Option, Result}
use Rattle.ax_bits.specs.Bits.{bits}
use Rattle.ax_migrate_views.specs.Blocks.{old_tree, new_tree}
use Rattle.ax_migrate_views.specs.Ranges.{made_of, made_range, FitsFrom, HasRecords}
use Rattle.ax_migrate_views.specs.declared.pieces.KnownRange.{KnownRange}
use Rattle.ax_migrate_views.specs.declared.migrator.Migrator.{Migrator}
use Rattle.ax_format.specs.Blocks.{read_block}
use Rattle.ax_format.specs.Bodies.{SpellsBody}
use Rattle.ax_format.specs.CanonicalOctets.{canon_block}
use Rattle.ax_format.specs.Sizes.{longest_block}
use Rattle.ax_format.specs.Split.{first_too_long, records_length, split_octets}
use Rattle.ax_format.specs.Tree.{EntriesTree}
use Rattle.ax_endpoints.specs.Changes.{SinkChange, Wrote}
use Rattle.ax_endpoints.specs.declared.sinks.SinkFailed.{SinkFailed}

-- the octets of the first record that is too long for a block of its own, if one is
pub record FindsTooLong (m : Migrator) (body : List ℕ) (found : Option ℕ) : Type 0 where
  pub found_is : (records : List EntriesTree) → SpellsBody (old_tree m) records (bits body) → first_too_long (new_tree m) (made_of m records) ≡ found

-- the records are there, one at least, and come into one block
pub record IsRange (m : Migrator) (body : List ℕ) (from count : ℕ) : Type 0 where
  pub some : 1 ≤ count
  pub there : HasRecords m body (from + count)
  pub short : (records : List EntriesTree) → SpellsBody (old_tree m) records (bits body) → records_length (new_tree m) (made_range m from count records) ≤ longest_block

-- their block was written, or a prefix at a failure
pub record WritesRange (m : Migrator) (body : List ℕ) (from count : ℕ) (change : SinkChange) (result : Result Unit SinkFailed) : Type 0 where
  pub wrote : (records : List EntriesTree) → SpellsBody (old_tree m) records (bits body) → Wrote change result (canon_block (new_tree m) (read_block (new_tree m).category (made_range m from count records)))

-- all blocks were, or a prefix
pub record WritesBlocks (m : Migrator) (body : List ℕ) (change : SinkChange) (result : Result Unit SinkFailed) : Type 0 where
  pub wrote : (records : List EntriesTree) → SpellsBody (old_tree m) records (bits body) → Wrote change result (split_octets (new_tree m) (made_of m records))

-- ---- ranges that are kept

-- so many records from that one on come into one block, where there are some
abbrev pub IsKnown : Migrator → List ℕ → KnownRange → Type 0
IsKnown m body r = 0 < r.fit.count → FitsFrom m body r.from r.fit

pub record AreKnown (m : Migrator) (body : List ℕ) (ranges : List KnownRange) : Type 0 where
  pub at : (i : ℕ) (r : KnownRange) → i < length ranges → r ≡ get_or ranges i r → IsKnown m body r
