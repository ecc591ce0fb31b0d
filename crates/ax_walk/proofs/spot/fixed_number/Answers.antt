use Rattle.ax_walk.proofs.MemberSteps.{no_element, element_bounds, element_room, element_number}
use Rattle.ax_walk.proofs.spot.fixed_number.Goals as goal

pub returns-in_default : goal.returns-in_default
returns-in_default c = no_element c.args.nodes.now c.args.link c.args.at c.args.body.now c.index-nodes-link.result c.requires.table c.requires.link.0 c.requires.link.1 c.requires.bounds c.requires.room c.index-nodes-link.is c.in_default.not-Element

pub number_in-requires-clause-width : goal.number_in-requires-clause-width
number_in-requires-clause-width c = element_bounds c.args.nodes.now c.args.link c.args.at c.args.body.now c.index-nodes-link.result c.requires.table c.requires.link.0 c.requires.link.1 c.requires.bounds c.requires.room c.index-nodes-link.is c.in-Element.width c.in-Element.is

pub number_in-requires-clause-within : goal.number_in-requires-clause-within
number_in-requires-clause-within c = element_room c.args.nodes.now c.args.link c.args.at c.args.body.now c.index-nodes-link.result c.requires.table c.requires.link.0 c.requires.link.1 c.requires.bounds c.requires.room c.index-nodes-link.is c.in-Element.width c.in-Element.is

pub returns : goal.returns
returns c = element_number c.args.nodes.now c.args.link c.args.at c.args.body.now c.index-nodes-link.result c.requires.table c.requires.link.0 c.requires.link.1 c.requires.bounds c.requires.room c.index-nodes-link.is c.in-Element.width c.in-Element.is c.number_in.result c.number_in.ensures.below c.number_in.ensures.number
