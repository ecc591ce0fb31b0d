use Rattle.std.proofs.Common.{arith, sym, ◌∙◌, ap, is_some}
use Rattle.ax_check.proofs.Catalogues.{had, lacked, as_many}
use Rattle.ax_format.specs.Plain.{catalogue_tree}
use Rattle.ax_format.specs.Specification.{spec_of}
use Rattle.ax_check.proofs.catalogue.Catalogue.admit.Goals as goal

pub returns-then-contains_key-clause-twice : goal.returns-then-contains_key-clause-twice
returns-then-contains_key-clause-twice c =
    let same = ap (λ s. s.category) c.spec.ensures.spec in
    let there = had c.spec.result.now.category c.self.inside.specs.entries c.self.invariant.0 (sym c.contains_key.ensures ∙ c.if-contains_key.true) in
    (same, (λ i. is_some (spec_of (sym same i) (catalogue_tree (sym c.self.view_is i)))) ∙ there)

pub returns-clause-new_category : goal.returns-clause-new_category
returns-clause-new_category c =
    let same = ap (λ s. s.category) c.spec.ensures.spec in
    (λ i. spec_of (sym same i) (catalogue_tree (sym c.self.view_is i))) ∙ lacked c.spec.result.now.category c.self.inside.specs.entries c.self.invariant.0 (sym c.contains_key.ensures ∙ c.if-contains_key.false)

pub returns-clause-room : goal.returns-clause-room
returns-clause-room c = omega (arith, c.len.ensures.len, c.if-len-ge-MOST.false, as_many c.self.inside.specs.entries _ c.self.view_is)
