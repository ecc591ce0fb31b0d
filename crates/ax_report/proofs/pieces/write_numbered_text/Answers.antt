use Rattle.ax_endpoints.proofs.Pieces.{written_then}
use Rattle.ax_report.proofs.pieces.write_numbered_text.Goals as goal

pub returns : goal.returns
returns g c = written_then _ _ _ _ _ _ _ _ _ _ c.in_ok-write_numbered.ensures c.write_text.ensures
