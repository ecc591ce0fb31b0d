-- Some of the records of a view as they move: as many as come into one data block, and their block.
use Rattle.std.specs.Prelude.{◌≡◌, ℕ, ◌+◌, ◌*◌, ◌<◌, ◌≤◌, max, List, length, map, take, drop, flat_map}
use Rattle.std.specs.List.{AllZip}
use Rattle.ax_bits.specs.Bits.{bits}
use Rattle.ax_bits.specs.Out.{Appends}
use Rattle.ax_bits.specs.declared.output.Out.{Out}
use Rattle.ax_relation.specs.Moved.{moved_record}
use Rattle.ax_migrate_views.specs.Blocks.{old_tree, new_tree}
use Rattle.ax_migrate_views.specs.declared.migrator.Migrator.{Migrator}
use Rattle.ax_migrate_views.specs.declared.ranges.Fit.{Fit}
use Rattle.ax_format.specs.Blocks.{read_block}
use Rattle.ax_format.specs.Bodies.{RecordsSpell, SpellsBody}
use Rattle.ax_format.specs.CanonicalOctets.{canon_block}
use Rattle.ax_format.specs.Sizes.{longest_block, longest_body}
use Rattle.ax_format.specs.Split.{fit_count, records_length}
use Rattle.ax_format.specs.Tree.{EntriesTree}
use Rattle.ax_codec.specs.declared.codec.Codec.{Codec}
use Rattle.ax_walk.specs.Views.{IsRecordOf}

-- the migrated records
abbrev pub made_of : Migrator → List EntriesTree → List EntriesTree
made_of m records = map (moved_record (old_tree m) (new_tree m)) records

-- those from that one on
abbrev pub made_from : Migrator → ℕ → List EntriesTree → List EntriesTree
made_from m from records = drop from (made_of m records)

-- so many of them
abbrev pub made_range : Migrator → ℕ → ℕ → List EntriesTree → List EntriesTree
made_range m from count records = take count (made_from m from records)

-- ---- as many as fit

-- the body spells so many records at least
pub record HasRecords (m : Migrator) (body : List ℕ) (n : ℕ) : Type 0 where
  pub there : (records : List EntriesTree) → SpellsBody (old_tree m) records (bits body) → n ≤ length records

-- so many of the migrated records from that one on come into one block, and it has so many octets; where none does, these are
-- those of the first record's own block
pub record FitsFrom (m : Migrator) (body : List ℕ) (from : ℕ) (fit : Fit) : Type 0 where
  pub counted : (records : List EntriesTree) → SpellsBody (old_tree m) records (bits body) → fit.count ≡ fit_count (new_tree m) (made_from m from records)
  pub measured : (records : List EntriesTree) → SpellsBody (old_tree m) records (bits body) → fit.octets ≡ records_length (new_tree m) (made_range m from (max 1 fit.count) records)

-- ---- the block of some

-- the records are there, their migrated block is a data block, and so many bits are room for it
pub record HasRange (m : Migrator) (body : List ℕ) (from count free : ℕ) : Type 0 where
  pub some : 1 ≤ count
  pub there : HasRecords m body (from + count)
  pub block : (records : List EntriesTree) → SpellsBody (old_tree m) records (bits body) → records_length (new_tree m) (made_range m from count records) ≤ longest_block
  pub room : (records : List EntriesTree) → SpellsBody (old_tree m) records (bits body) → 8 * records_length (new_tree m) (made_range m from count records) ≤ free

-- its canonical form has so many octets, and they stand at the front of the output where a block can have as many
pub record LaysRange (m : Migrator) (body : List ℕ) (from count n : ℕ) (output : List ℕ) : Type 0 where
  pub measured : (records : List EntriesTree) → SpellsBody (old_tree m) records (bits body) → n ≡ records_length (new_tree m) (made_range m from count records)
  pub laid : (records : List EntriesTree) → SpellsBody (old_tree m) records (bits body) → n ≤ longest_block → take n output ≡ canon_block (new_tree m) (read_block (new_tree m).category (made_range m from count records))

-- its canonical form is appended
pub record AppendsRange (m : Migrator) (body : List ℕ) (from count : ℕ) (old new : Out) : Type 0 where
  pub appended : (records : List EntriesTree) → SpellsBody (old_tree m) records (bits body) → Appends old new (bits (canon_block (new_tree m) (read_block (new_tree m).category (made_range m from count records))))

-- ---- records by their octets

abbrev pub shown_octets : List (Codec × List ℕ) → List ℕ
shown_octets shown = flat_map (λ (s : Codec × List ℕ). s.1) shown

-- the octets spell some records of the old edition
pub record SpellsOld (m : Migrator) (octets : List ℕ) : Type 0 where
  pub records : List EntriesTree
  pub spelled : SpellsBody (old_tree m) records (bits octets)

-- they spell the records of the body from that one on, so many
pub record SpellsRange (m : Migrator) (body : List ℕ) (from count : ℕ) (octets : List ℕ) : Type 0 where
  pub spelled : (records : List EntriesTree) → SpellsBody (old_tree m) records (bits body) → RecordsSpell (old_tree m) (take count (drop from records)) (bits octets)
  pub few : length octets ≤ longest_body

-- each spells a record of the old edition, and together they are within a body
pub record AreRecordsOf (m : Migrator) (shown : List (Codec × List ℕ)) : Type 0 where
  pub records : List EntriesTree
  pub each : AllZip (IsRecordOf m.codec.now (old_tree m)) records shown
  pub few : length (shown_octets shown) ≤ longest_body

-- so many of the records, as they move, come into one block; its octets, as above
pub record FitsShown (m : Migrator) (shown : List (Codec × List ℕ)) (fit : Fit) : Type 0 where
  pub counted : (records : List EntriesTree) → AllZip (IsRecordOf m.codec.now (old_tree m)) records shown → fit.count ≡ fit_count (new_tree m) (made_of m records)
  pub measured : (records : List EntriesTree) → AllZip (IsRecordOf m.codec.now (old_tree m)) records shown → fit.octets ≡ records_length (new_tree m) (take (max 1 fit.count) (made_of m records))
