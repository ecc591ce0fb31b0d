use Rattle.ax_format.specs.Plain.{kind_tree}
use Rattle.ax_rescale.proofs.BesideSteps.{Leads}
use Rattle.ax_rescale.proofs.beside.alike_place.Given as goal

abbrev pub invariant-loop-number : goal.invariant-loop-number
invariant-loop-number l = Leads (kind_tree l.first.old.now) (kind_tree l.first.new.now) l.number-items l.number-index l.steps (kind_tree l.last.old.now) (kind_tree l.last.new.now)
