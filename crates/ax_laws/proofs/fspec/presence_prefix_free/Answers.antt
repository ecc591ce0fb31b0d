use Rattle.ax_format.specs.Presence.{octets_needed}
use Rattle.ax_fspec.proofs.FieldLaws.{prefix_free}
use Rattle.ax_laws.proofs.fspec.presence_prefix_free.Goals as goal

pub returns : goal.returns
returns c = λ n. prefix_free (octets_needed n)
