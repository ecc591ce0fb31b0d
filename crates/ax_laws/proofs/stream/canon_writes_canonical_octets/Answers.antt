use Rattle.ax_laws.proofs.CanonWritten.{written, reported}
use Rattle.ax_laws.proofs.stream.canon_writes_canonical_octets.Goals as goal

pub returns-clause-written : goal.returns-clause-written
returns-clause-written c = written

pub returns-clause-reported : goal.returns-clause-reported
returns-clause-reported c = reported
