use Rattle.ax_endpoints.proofs.Pieces.{written_then, failed_before}
use Rattle.std.proofs.Common.{◌++◌, codes}
use Rattle.ax_report.specs.Lines.{numbered}
use Rattle.ax_blocks.specs.Lines.{cause_name}
use Rattle.ax_blocks.proofs.line.write_fault_end.Goals as goal

pub returns-in_err-write_numbered : goal.returns-in_err-write_numbered
returns-in_err-write_numbered g c = failed_before _ _ _ _ _ _ (numbered (codes " bit ") c.args.fault.bit) (codes " " ++ (cause_name c.args.fault.cause ++ codes "\n")) c.from_residual.ensures.0 c.in_err-write_numbered.ensures

pub returns : goal.returns
returns g c = written_then _ _ _ _ _ _ _ _ _ _ c.in_ok-write_numbered.ensures c.write_cause.ensures
