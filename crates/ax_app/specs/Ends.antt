-- The ends of the block loop whose work takes no memory, among those of every block loop.
use Rattle.ax_app.specs.declared.end.DriveEnd.{DriveEnd}
use Rattle.ax_app.specs.declared.end.DriveEnd.TheVariants.{Done, InputRefused, MigratedTooLong, InputTooLong, ReadFault, WriteFault, ReportFault}
use Rattle.ax_blocks.specs.declared.end.StreamEnd.{StreamEnd}
use Rattle.ax_blocks.specs.declared.end.StreamEnd.TheVariants as Stream

abbrev pub as_stream : DriveEnd → StreamEnd
as_stream (Done blocks) = Stream.Done blocks
as_stream (InputRefused fault) = Stream.Refused fault
as_stream (MigratedTooLong block octets) = Stream.TooLong block octets
as_stream InputTooLong = Stream.InputTooLong
as_stream ReadFault = Stream.ReadFault
as_stream WriteFault = Stream.WriteFault
as_stream ReportFault = Stream.ReportFault

-- the ends that only a job of two editions has
abbrev pub IsOfMigration : DriveEnd → Type 0
IsOfMigration (MigratedTooLong block octets) = Unit {0}
IsOfMigration ReportFault = Unit {0}
IsOfMigration (Done blocks) = ⊥
IsOfMigration (InputRefused fault) = ⊥
IsOfMigration InputTooLong = ⊥
IsOfMigration ReadFault = ⊥
IsOfMigration WriteFault = ⊥
