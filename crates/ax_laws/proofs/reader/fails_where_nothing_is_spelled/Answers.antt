use Rattle.ax_fspec.proofs.Exact.{fault_at, fails_faulty}
use Rattle.ax_laws.proofs.reader.fails_where_nothing_is_spelled.Goals as goal

pub returns : goal.returns
returns c = record { fails = fault_at; read = fails_faulty }
