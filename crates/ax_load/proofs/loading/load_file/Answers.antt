use Rattle.std.proofs.Common.{subst}
use Rattle.ax_format.specs.Plain.{spec_tree}
use Rattle.ax_load.proofs.FileLemmas.{loads_spec}
use Rattle.ax_load.specs.FileAnswers.{IsAccepted}
use Rattle.ax_load.proofs.loading.load_file.Goals as goal

pub returns-in-Ok-read_file-clause-loads : goal.returns-in-Ok-read_file-clause-loads
returns-in-Ok-read_file-clause-loads g c =
    loads_spec _ _ _ _ _ _ c.in-Ok.ensures.holds c.in-Ok.ensures.number (subst (λ octets. IsAccepted octets (spec_tree c.in-Ok-read_file.accepted)) c.deref.ensures.value c.in-Ok-read_file.ensures.ok)
