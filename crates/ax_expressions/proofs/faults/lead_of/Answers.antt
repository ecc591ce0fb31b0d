use Rattle.std.proofs.Common.{rules}
use Rattle.ax_format.specs.Plain.{fixed_tree, catalogue_tree, spec_tree}
use Rattle.ax_expressions.proofs.Leads.{to_element}
use Rattle.ax_expressions.proofs.faults.lead_of.Goals as goal

pub returns-in-Some-element : goal.returns-in-Some-element
returns-in-Some-element c =
    to_element (catalogue_tree c.args.catalogue.now) c.args.text.now c.in-Some.path (spec_tree c.in-Some-get.accepted.now) c.in-Some-2.place (fixed_tree c.in-Some-element.field-0.now) (search rules) (search rules) (search rules) (search rules) (search rules)
