use Rattle.ax_app.proofs.Loads.{both_end}
use Rattle.ax_app.proofs.loading.load.Goals as goal

pub returns-in-Err-load_with_expansion-clause-ends :
    goal.returns-in-Err-load_with_expansion-clause-ends
returns-in-Err-load_with_expansion-clause-ends g c =
    rw c.in-WithExpansion.is (both_end _ _ _ c.in-WithExpansion.spec.now c.in-WithExpansion.expansion.now _ _ c.text-in-WithExpansion.ensures c.text-in-WithExpansion-2.ensures c.in-Err-load_with_expansion.ensures.ends)
