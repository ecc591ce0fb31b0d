use Rattle.std.proofs.Common.{rules, arith, length, ◌<◌, ◌≡◌, ◌∷◌, [], ◌++◌, nat_eq, refl, ◌∙◌, ap}
use Rattle.ax_check.proofs.Catalogues.{lacks, as_many, added, stays_keyed, stays_small}
use Rattle.ax_format.specs.Plain.{catalogue_tree}
use Rattle.ax_format.specs.Specification.{spec_of}
use Rattle.indexmap.specs.IndexMap.{insert_entry}
use Rattle.ax_check.proofs.catalogue.Catalogue.add.Goals as goal

pub invariant_of-self-2 : goal.invariant_of-self-2
invariant_of-self-2 c =
    let new : c.enter.new.specs.entries ≡ insert_entry nat_eq c.self.inside.specs.entries c.args.one.category c.args.one = search rules in
    let none = lacks c.args.one.category c.self.inside.specs.entries c.self.invariant.0 ((λ i. spec_of c.args.one.category (catalogue_tree (c.self.view_is i))) ∙ c.in_ok-admit.ensures.new_category) in
    let small : length c.self.inside.specs.entries < 4294967295 = omega (arith, c.in_ok-admit.ensures.room, as_many c.self.inside.specs.entries _ c.self.view_is) in (
      stays_keyed c.self.inside.specs.entries c.enter.new.specs.entries c.args.one.category c.args.one none refl new c.self.invariant.0,
      stays_small c.self.inside.specs.entries c.enter.new.specs.entries c.args.one.category c.args.one none new small,
    )

pub returns-clause-ok : goal.returns-clause-ok
returns-clause-ok c =
    let new : c.enter.new.specs.entries ≡ insert_entry nat_eq c.self.inside.specs.entries c.args.one.category c.args.one = search rules in
    let none = lacks c.args.one.category c.self.inside.specs.entries c.self.invariant.0 ((λ i. spec_of c.args.one.category (catalogue_tree (c.self.view_is i))) ∙ c.in_ok-admit.ensures.new_category) in
    added c.self.inside.specs.entries c.enter.new.specs.entries c.args.one.category c.args.one none new ∙ ap (λ l. l ++ c.args.one ∷ []) c.self.view_is
