use Rattle.std.proofs.Common.{sym, ◌∙◌, ap, Some}
use Rattle.ax_uap.proofs.Categories.{no_spec, first_spec}
use Rattle.ax_uap.proofs.by_category.ByCategory.first.Goals as goal

pub returns-in-None : goal.returns-in-None
returns-in-None g c = sym (no_spec g.T.OfSpec.of c.self.inside.each.items c.deref.result.now c.args.self.now c.first.result c.in-None.is c.first.ensures.value c.deref.ensures.value (sym c.self.view_is))

pub returns-in-Some : goal.returns-in-Some
returns-in-Some g c = ap Some c.spec.ensures ∙ sym (first_spec g.T.OfSpec.of c.self.inside.each.items c.deref.result.now c.args.self.now c.first.result c.in-Some.first c.in-Some.is c.first.ensures.value c.deref.ensures.value (sym c.self.view_is))
