use Rattle.std.proofs.Common.{map, nat_eq, subst}
use Rattle.std.specs.List.{IsDistinct}
use Rattle.ax_check.proofs.Catalogues.{apart}
use Rattle.ax_check.proofs.catalogue.Catalogue.count.Goals as goal

pub returns-clause-apart : goal.returns-clause-apart
returns-clause-apart c =
    subst (λ specs. IsDistinct nat_eq (map (λ spec. spec.category) specs)) c.self.view_is (apart c.self.inside.specs.entries c.self.invariant.0 c.len.ensures.unique)
