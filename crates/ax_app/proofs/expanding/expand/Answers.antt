use Rattle.std.proofs.Common.{◌≡◌, Some, sym, ◌∙◌, ap, arith}
use Rattle.ax_expand_work.specs.ExpandCommand.{re_frn}
use Rattle.ax_format.specs.Plain.{spec_tree}
use Rattle.ax_app.proofs.Expansions.{expand_ran}
use Rattle.ax_app.proofs.expanding.expand.Goals as goal

pub returns : goal.returns
returns g c =
    let stands : re_frn (spec_tree c.args.accepted.now) ≡ Some c.in-Some.frn = ap (λ spec. re_frn (spec_tree spec)) (sym c.spec-2.ensures.spec) ∙ sym c.re_slot.ensures ∙ c.in-Some.is in
    let same : c.args.accepted.now.category ≡ c.args.expansion.now.category = ap (λ spec. spec.category) (sym c.spec.ensures.spec) ∙ omega (arith, c.if-old-new.false) ∙ ap (λ x. x.category) c.expansion.ensures.expansion in
    expand_ran c.args.accepted.now c.args.expansion.now c.in-Some.frn _ c.expand_blocks.result same stands c.expand_blocks.ensures
