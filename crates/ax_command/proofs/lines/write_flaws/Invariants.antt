use Rattle.ax_command.proofs.FlawLines.{FlawsWritten}
use Rattle.ax_command.proofs.lines.write_flaws.Given as goal

abbrev pub invariant-loop-flaw : goal.invariant-loop-flaw
invariant-loop-flaw g l = FlawsWritten (g.K.Sink.held l.fn.sink) (g.K.Sink.held l.sink) (g.K.Sink.faults l.fn.sink) (g.K.Sink.faults l.sink) l.file l.flaws l.flaw-index
