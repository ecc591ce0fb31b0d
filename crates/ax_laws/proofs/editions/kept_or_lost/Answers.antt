use Rattle.ax_relation.proofs.Losses.{lost_present}
use Rattle.ax_relation.proofs.Once.{each_kept_or_lost}
use Rattle.ax_laws.proofs.editions.kept_or_lost.Goals as goal

pub returns-clause-present : goal.returns-clause-present
returns-clause-present c = each_kept_or_lost

pub returns-clause-absent : goal.returns-clause-absent
returns-clause-absent c = lost_present
