use Rattle.std.proofs.Common.{◌-◌, get_or, slice_get, None, refl, ◌∙◌, ap, arith}
use Rattle.std.specs.Option.{option_copied}
use Rattle.ax_format.specs.Plain.{catalogue_tree}
use Rattle.ax_format.specs.Specification.{spec_of}
use Rattle.ax_uap.proofs.Categories.{spec_is, clean_is}
use Rattle.ax_uap.proofs.Places.{nothing_held, held_there}
use Rattle.ax_uap.proofs.by_category.ByCategory.get.Goals as goal

pub returns-then-place-eq0-clause-spec : goal.returns-then-place-eq0-clause-spec
returns-then-place-eq0-clause-spec g c =
    let each = c.self.inside.each.items in
    spec_is g.T.OfSpec.of c.args.category each each None (nothing_held g.T.OfSpec.of each c.self.inside.places c.args.category (get_or c.self.inside.places c.args.category 0) c.self.invariant.1 (omega (arith, c.ranges.category.fits)) refl c.if-place-eq0.true) refl
    ∙ ap (λ all. spec_of c.args.category (catalogue_tree all)) c.self.view_is

pub returns-clause-spec : goal.returns-clause-spec
returns-clause-spec g c =
    let each = c.self.inside.each.items in
    let place = get_or c.self.inside.places c.args.category 0 in
    let there = held_there g.T.OfSpec.of each c.self.inside.places c.args.category place c.self.invariant.1 (omega (arith, c.ranges.category.fits)) refl (omega (arith, c.if-place-eq0.false)) in
    spec_is g.T.OfSpec.of c.args.category each each (option_copied c.held_at.result) (c.held_at.ensures ∙ ap (λ l. slice_get l (place - 1)) c.deref.ensures.value ∙ there) refl
    ∙ ap (λ all. spec_of c.args.category (catalogue_tree all)) c.self.view_is

pub returns-clause-no_flaw : goal.returns-clause-no_flaw
returns-clause-no_flaw g c =
    let each = c.self.inside.each.items in
    let place = get_or c.self.inside.places c.args.category 0 in
    let there = held_there g.T.OfSpec.of each c.self.inside.places c.args.category place c.self.invariant.1 (omega (arith, c.ranges.category.fits)) refl (omega (arith, c.if-place-eq0.false)) in
    clean_is g.T.OfSpec.of c.args.category each each c.held_at.result c.self.invariant.0 (c.held_at.ensures ∙ ap (λ l. slice_get l (place - 1)) c.deref.ensures.value ∙ there) refl
