use Rattle.ax_fspec.proofs.Exact.{spelled_at, gets_spelled}
use Rattle.ax_laws.proofs.reader.reads_what_is_spelled.Goals as goal

pub returns : goal.returns
returns c = record { spelled = spelled_at; read = gets_spelled }
