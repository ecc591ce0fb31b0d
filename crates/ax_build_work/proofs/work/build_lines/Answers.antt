use Rattle.std.proofs.Common.{subst}
use Rattle.ax_build_work.specs.BuildCommand.{build_command}
use Rattle.ax_lines.proofs.Running.{memory_first}
use Rattle.ax_lines.specs.Completing.{Completes}
use Rattle.ax_lines.specs.Ending.{longest_line, longest_input}
use Rattle.ax_format.specs.Plain.{catalogue_tree}
use Rattle.ax_endpoints.specs.Changes.{source_change, sink_change}
use Rattle.ax_build_work.proofs.work.build_lines.Goals as goal

pub returns-in_default-clause-runs : goal.returns-in_default-clause-runs
returns-in_default-clause-runs g c = memory_first _ _ _ _ _ _ _ _

pub returns-in_default-tables_of-clause-runs : goal.returns-in_default-tables_of-clause-runs
returns-in_default-tables_of-clause-runs g c = memory_first _ _ _ _ _ _ _ _

pub returns-in_default-zeros-clause-runs : goal.returns-in_default-zeros-clause-runs
returns-in_default-zeros-clause-runs g c = memory_first _ _ _ _ _ _ _ _

pub returns-clause-completes : goal.returns-clause-completes
returns-clause-completes g c =
    subst (λ specs. Completes (build_command (catalogue_tree specs)) longest_line longest_input (source_change g.S.Source c.args.source.now c.run_lines.new.source) (sink_change g.K.Sink c.args.out.now c.run_lines.new.out) c.run_lines.result) c.in-Ok.ensures c.run_lines.ensures.completes
