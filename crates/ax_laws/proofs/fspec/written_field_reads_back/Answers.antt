use Rattle.ax_fspec.proofs.FieldLaws.{reads_back, never_fails}
use Rattle.ax_laws.proofs.fspec.written_field_reads_back.Goals as goal

pub returns : goal.returns
returns c = record { reads = reads_back; never_fails = never_fails }
