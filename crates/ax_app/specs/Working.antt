-- What a work does, and what it relies on.
use Rattle.std.specs.Prelude.{◌≡◌, ℕ, ◌≤◌, List, None, Some, length}
use Rattle.ax_bits.specs.Bits.{AreOctets}
use Rattle.ax_app.specs.Ends.{as_stream}
use Rattle.ax_app.specs.declared.end.DriveEnd.{DriveEnd}
use Rattle.ax_app.specs.declared.end.DriveEnd.TheVariants.{Done}
use Rattle.ax_app.specs.declared.job.Job.{Job}
use Rattle.ax_app.specs.declared.job.Job.TheVariants as JobOf
use Rattle.ax_app.specs.declared.work.BlocksWork.{BlocksWork}
use Rattle.ax_app.specs.declared.work.BlocksWork.TheVariants as WorkOf
use Rattle.ax_app.specs.declared.work.Work.{Work}
use Rattle.ax_canon.specs.CategoryRows.{AreCategoryRows}
use Rattle.ax_filter.specs.OfCode.{catalogue_of, expression}
use Rattle.ax_filter_work.specs.FilterCommand.{filter_command}
use Rattle.ax_migrate_views.specs.Blocks.{new_tree, old_tree}
use Rattle.ax_migration.specs.Commands.{migrate_command}
use Rattle.ax_format.specs.Blocks.{BlockTree, SpellsStream}
use Rattle.ax_format.specs.Plain.{catalogue_tree}
use Rattle.ax_endpoints.specs.Changes.{Changes, SourceChange, SinkChange, Gains}
use Rattle.ax_endpoints.specs.Told.{Rose}
use Rattle.ax_blocks.specs.BlockCommands.{canon_command}
use Rattle.ax_blocks.specs.Commands.{BlockCommand, AreGiven, output_of, report_of}
use Rattle.ax_blocks.specs.Streams.{StreamRuns}
use Rattle.ax_codec.specs.Standing.{StandForEach}

-- ---- a job

abbrev pub job_command : Job → BlockCommand
job_command (JobOf.Canon catalogue codecs) = canon_command (catalogue_tree catalogue.now)
job_command (JobOf.Filter codecs filter) = filter_command (expression filter.now) (catalogue_of filter.now)
job_command (JobOf.Migrate migrator) = migrate_command (old_tree migrator.now) (new_tree migrator.now)

-- its codecs are those of its catalogue, or of its filter's; a migrator is of its two editions by its type
abbrev pub IsSoundJob : Job → Type 0
IsSoundJob (JobOf.Canon catalogue codecs) = StandForEach codecs.now.codecs (catalogue_tree catalogue.now)
IsSoundJob (JobOf.Filter codecs filter) = StandForEach codecs.now.codecs (catalogue_of filter.now)
IsSoundJob (JobOf.Migrate migrator) = Unit {0}

-- ---- a work

abbrev pub blocks_command : BlocksWork → BlockCommand
blocks_command (WorkOf.Canon one) = canon_command (catalogue_tree one.catalogue.now)
blocks_command (WorkOf.Filter one) = filter_command (expression one.filter.now) (catalogue_of one.filter.now)
blocks_command (WorkOf.Migrate one) = migrate_command (old_tree one.migrator.now) (new_tree one.migrator.now)

abbrev pub IsSound : BlocksWork → Type 0
IsSound (WorkOf.Canon one) = StandForEach one.rows.codecs.now.codecs (catalogue_tree one.catalogue.now) × AreCategoryRows one.rows
IsSound (WorkOf.Filter one) = StandForEach one.rows.codecs.now.codecs (catalogue_of one.filter.now) × AreCategoryRows one.rows
IsSound (WorkOf.Migrate one) = Unit {0}

-- what it does with each block
abbrev pub work_command : Work → BlockCommand
work_command work = blocks_command work.blocks

-- the most octets of its input
abbrev pub limit_of : Work → ℕ
limit_of work = work.reader.limit

-- nothing was taken by it
pub record IsNew (work : Work) : Type 0 where
  pub fresh : work.reader ≡ record { limit = work.reader.limit; given = 0; ended = None }
  pub sound : IsSound work.blocks

-- it is of two editions
abbrev pub IsMigrationOf : BlocksWork → Type 0
IsMigrationOf (WorkOf.Canon one) = ⊥
IsMigrationOf (WorkOf.Filter one) = ⊥
IsMigrationOf (WorkOf.Migrate one) = Unit {0}

abbrev pub IsMigration : Work → Type 0
IsMigration work = IsMigrationOf work.blocks

-- ---- a run of the loop

abbrev pub Drives : BlockCommand → ℕ → Changes → DriveEnd → Type 0
Drives c limit x end = StreamRuns c limit x.source x.out x.report (as_stream end)

abbrev pub DrivesWork : Work → Changes → DriveEnd → Type 0
DrivesWork work x end = Drives (work_command work) (limit_of work) x end

-- ---- a run in whose way nothing stands

-- no count of faults rose, and none stands at the last number that it can hold
pub record NoneRose (i : SourceChange) (o r : SinkChange) : Type 0 where
  pub source : Rose i.faults i.faults' → ⊥
  pub out : Rose o.faults o.faults' → ⊥
  pub report : Rose r.faults r.faults' → ⊥

-- done with these blocks, and with all their results
pub record IsDoneWithAll (c : BlockCommand) (blocks : List BlockTree) (o r : SinkChange) (end : DriveEnd) : Type 0 where
  pub done : end ≡ Done (length blocks)
  pub out : Gains o (output_of c 0 blocks)
  pub report : Gains r (report_of c 0 blocks)

-- of a source that tells its input: where it spells blocks within the limit, each is answered and no count rose, the loop is done
-- with all of them
abbrev pub CompletesWork : Work → Changes → DriveEnd → Type 0
CompletesWork work x end = (input : List ℕ) (blocks : List BlockTree) → AreOctets input → x.source.left ≡ Some input → SpellsStream (work_command work).catalogue blocks input → length input ≤ limit_of work
    → AreGiven (work_command work) 0 blocks → NoneRose x.source x.out x.report → IsDoneWithAll (work_command work) blocks x.out x.report end
