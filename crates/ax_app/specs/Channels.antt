-- What is told and counted of the source of a command's input and of the sinks of its output and its report, before and after,
-- where they are lent to a call.
use Rattle.std.specs.Borrow.{MutBor}
use Rattle.ax_endpoints.specs.Changes.{Changes, changes_of}
use Rattle.ax_endpoints.specs.declared.sinks.Sink as SinkOf
use Rattle.ax_endpoints.specs.declared.sources.Source as SourceOf
use Rattle.ax_app.specs.declared.channels.Channels.{Channels}

-- what stands behind the three references at the return
abbrev pub AtReturn : Type 0 → Type 0 → Type 0 → Type 0
AtReturn S K R = (MutBor S) × ((MutBor K) × ((MutBor R) × Unit {0}))

-- the changes of channels that were lent to a call
abbrev pub changes : {S K R : Type 0} → SourceOf.Ghosts S → SinkOf.Ghosts K → SinkOf.Ghosts R → Channels S K R → AtReturn S K R → Changes
changes source_ghosts out_ghosts report_ghosts lent left =
    changes_of source_ghosts out_ghosts report_ghosts lent.source.now left.0.now lent.out.now left.1.0.now lent.report.now left.1.1.0.now
