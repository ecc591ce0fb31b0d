use Rattle.ax_migrate_views.proofs.KeptItems.{LeftDecides}
use Rattle.ax_migrate_views.specs.Kept.{IsElsewhere}
use Rattle.ax_migrate_views.proofs.kept.is_named.Given as goal

abbrev pub invariant-loop-index : goal.invariant-loop-index
invariant-loop-index l = LeftDecides (IsElsewhere l.slot) l.lost l.index
