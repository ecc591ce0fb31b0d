use Rattle.ax_expand.proofs.Contents.{prefix_free}
use Rattle.ax_laws.proofs.expand.contents_prefix_free.Goals as goal

pub returns : goal.returns
returns c = prefix_free
