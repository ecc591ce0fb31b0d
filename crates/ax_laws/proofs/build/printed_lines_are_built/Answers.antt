use Rattle.ax_build_work.proofs.Once.{printed_built}
use Rattle.ax_laws.proofs.build.printed_lines_are_built.Goals as goal

pub returns : goal.returns
returns c = printed_built
