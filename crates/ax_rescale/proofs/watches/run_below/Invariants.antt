use Rattle.std.proofs.Common.{◌≡◌, true, take}
use Rattle.std.specs.List.{AllByRecursion}
use Rattle.ax_relation.specs.declared.relation.RelationPath.{RelationPath}
use Rattle.ax_rescale.specs.Watching.{begins}
use Rattle.ax_rescale.proofs.watches.run_below.Given as goal

abbrev pub invariant-loop-one : goal.invariant-loop-one
invariant-loop-one l = (l.count ≡ l.one-index) × AllByRecursion (λ (q : RelationPath). begins l.place q.old ≡ true) (take l.one-index l.later)
