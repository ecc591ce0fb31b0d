use Rattle.std.proofs.Common.{ap, map, subst, sym}
use Rattle.std.specs.List.{AllByRecursion}
use Rattle.ax_format.specs.OfCode.{HasNoFlaw}
use Rattle.ax_uap.proofs.Places.{none_placed}
use Rattle.ax_uap.specs.Categories.{ArePlaces}
use Rattle.ax_uap.proofs.by_category.ByCategory.new.Goals as goal

pub invariant_of-result : goal.invariant_of-result
invariant_of-result g c =
    let none = sym (ap (map (λ one. g.T.OfSpec.of one)) c.new.ensures.items) in
    (subst (AllByRecursion HasNoFlaw) none tt, subst (λ all. ArePlaces all 256 c.no_places.result) none (none_placed c.no_places.result c.no_places.ensures))
