use Rattle.ax_laws.proofs.OpaqueTokens.{opaque_built}
use Rattle.ax_laws.proofs.opaque_lines.opaque_lines_are_built.Goals as goal

pub returns : goal.returns
returns c = opaque_built
