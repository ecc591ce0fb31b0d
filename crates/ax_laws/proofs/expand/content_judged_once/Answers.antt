use Rattle.ax_expand.proofs.Contents.{judged_once}
use Rattle.ax_laws.proofs.expand.content_judged_once.Goals as goal

pub returns : goal.returns
returns c = judged_once
