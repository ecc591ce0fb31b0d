-- Migrated blocks at the front of an output, and what a migrator is made of.
use Rattle.std.specs.Prelude.{◌≡◌, ℕ, ◌*◌, ◌/◌, ◌%◌, ◌≤◌, List, set, take}
use Rattle.ax_bits.specs.Bits.{bits}
use Rattle.ax_bits.specs.Out.{Appends}
use Rattle.ax_bits.specs.declared.output.Out.{Out}
use Rattle.ax_blocks.specs.Commands.{BlockCommand}
use Rattle.ax_migration.specs.Commands.{migrate_command}
use Rattle.ax_migration.specs.Migrating.{migrated_block}
use Rattle.ax_migrate_views.specs.Editions.{AreEditions}
use Rattle.ax_migrate_views.specs.declared.migrator.Migrator.{Migrator}
use Rattle.ax_format.specs.Blocks.{BlockTree, read_block}
use Rattle.ax_format.specs.Bodies.{SpellsBody}
use Rattle.ax_format.specs.CanonicalOctets.{canon_block, canon_length}
use Rattle.ax_format.specs.Plain.{spec_tree}
use Rattle.ax_format.specs.Sizes.{longest_block}
use Rattle.ax_format.specs.Specification.{SpecTree}
use Rattle.ax_format.specs.Tree.{EntriesTree}

-- CAT and LEN written over the first three octets
abbrev pub with_head : ℕ → ℕ → List ℕ → List ℕ
with_head category n output = set (set (set output 0 category) 1 (n / 256 % 256)) 2 (n % 256)

abbrev pub old_tree : Migrator → SpecTree
old_tree m = spec_tree m.old.now

abbrev pub new_tree : Migrator → SpecTree
new_tree m = spec_tree m.new.now

-- `migrate` between the two editions
abbrev pub command_of : Migrator → BlockCommand
command_of m = migrate_command (old_tree m) (new_tree m)

-- what it is made of is of its two editions
abbrev pub IsOfEditions : Migrator → Type 0
IsOfEditions m = AreEditions m.old.now m.new.now m.relation.now m.codec.now m.lost.items

-- the canonical form of the migrated block has so many octets, and they stand at the front of the output, where a block can
-- have as many
pub record IsMigratedBlock (old new : SpecTree) (records : List EntriesTree) (count : ℕ) (output : List ℕ) : Type 0 where
  pub counted : count ≡ canon_length new (migrated_block old new (read_block old.category records))
  pub laid : count ≤ longest_block → take count output ≡ canon_block new (migrated_block old new (read_block old.category records))

-- that of the records that the body spells
pub record LaysMigrated (m : Migrator) (body : List ℕ) (count : ℕ) (output : List ℕ) : Type 0 where
  pub block : (records : List EntriesTree) → SpellsBody (old_tree m) records (bits body) → IsMigratedBlock (old_tree m) (new_tree m) records count output

-- ---- of a view

-- the migrated block of records of the old edition
abbrev pub migrated_of : Migrator → List EntriesTree → BlockTree
migrated_of m records = migrated_block (old_tree m) (new_tree m) (read_block (old_tree m).category records)

-- that of the records that the body spells has so many octets in its canonical form
pub record CountsMigrated (m : Migrator) (body : List ℕ) (count : ℕ) : Type 0 where
  pub counted : (records : List EntriesTree) → SpellsBody (old_tree m) records (bits body) → count ≡ canon_length (new_tree m) (migrated_of m records)

-- it is a data block, and so many bits are room for it
pub record HasRoom (m : Migrator) (body : List ℕ) (free : ℕ) : Type 0 where
  pub block : (records : List EntriesTree) → SpellsBody (old_tree m) records (bits body) → canon_length (new_tree m) (migrated_of m records) ≤ longest_block
  pub room : (records : List EntriesTree) → SpellsBody (old_tree m) records (bits body) → 8 * canon_length (new_tree m) (migrated_of m records) ≤ free

-- its canonical form is appended
pub record AppendsMigrated (m : Migrator) (body : List ℕ) (old new : Out) : Type 0 where
  pub appended : (records : List EntriesTree) → SpellsBody (old_tree m) records (bits body) → Appends old new (bits (canon_block (new_tree m) (migrated_of m records)))
