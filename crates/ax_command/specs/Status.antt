-- The exit status of each outcome (this project's own rule).
use Rattle.std.specs.Prelude.{ℕ}
use Rattle.ax_command.specs.declared.outcome.Outcome.{Outcome}
use Rattle.ax_command.specs.declared.outcome.Outcome.TheVariants.{Done, Usage, SpecRefused, CategoryTwice, InputRefused, TextRefused, MigratedTooLong, InputTooLong, LoadFault, ReadFault, WriteFault, ReportFault, OutOfMemory, OtherCategory, ExpansionUnused, FilterRefused}

abbrev pub status_of : Outcome → ℕ
status_of (Done blocks) = 0
status_of Usage = 1
status_of (SpecRefused file fault) = 2
status_of (CategoryTwice file category) = 2
status_of (InputRefused fault) = 3
status_of (TextRefused line fault) = 3
status_of (MigratedTooLong block octets) = 3
status_of InputTooLong = 3
status_of (LoadFault file) = 4
status_of ReadFault = 4
status_of WriteFault = 4
status_of ReportFault = 4
status_of OutOfMemory = 5
status_of (OtherCategory old new) = 2
status_of (ExpansionUnused category) = 2
status_of (FilterRefused fault) = 2
