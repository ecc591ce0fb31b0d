use Rattle.std.proofs.Common.{◌-◌, List, ℕ, get_or, arith, refl, sym, subst}
use Rattle.ax_rows.specs.Rows.{AreRows}
use Rattle.ax_rows.specs.declared.step.Step.{Step}
use Rattle.ax_codec.specs.declared.node.Node.TheVariants as Of
use Rattle.ax_walk.proofs.CompoundRows.{node_found, rows_there}
use Rattle.ax_walk.specs.Marked.{slots_under}
use Rattle.ax_walk.proofs.compound_rows.compound_rows.Goals as goal

pub returns : goal.returns
returns c =
    let under = slots_under c.args.table.nodes.now c.args.link in
    subst (λ (start : List ℕ). AreRows c.args.table.octets.now under start c.as_rows.result.steps.now) (sym c.as_rows.ensures.start)
    (subst (λ (steps : List Step). AreRows c.args.table.octets.now under c.index-compounds-place.result.start.items steps) (sym c.as_rows.ensures.steps)
    (rows_there c.args.table.octets.now c.args.table.nodes.now c.args.compounds.now (c.args.link - 1) (get_or c.args.table.nodes.now (c.args.link - 1) Of.Explicit) c.index-compounds-place.result c.requires.compounds (omega (arith, c.if-place-compounds.false)) (node_found c.args.table.nodes.now (c.args.link - 1) (omega (arith, c.requires.link))) c.index-compounds-place.is (c.if-is_empty.ensures refl)))
