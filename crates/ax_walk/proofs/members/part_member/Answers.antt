use Rattle.ax_walk.proofs.MemberSteps.{part_links, part_bounds, part_room, part_found, part_none, no_part}
use Rattle.ax_walk.proofs.members.part_member.Goals as goal

pub find_member-requires-clause-links : goal.find_member-requires-clause-links
find_member-requires-clause-links c = part_links c.args.nodes.now c.args.link c.index-nodes-link.result c.requires.table c.requires.link.0 c.requires.link.1 c.index-nodes-link.is c.in-Part.width c.in-Part.members c.as_slice.result.now c.in-Part.is c.as_slice.ensures.members

pub find_member-requires-clause-bounds : goal.find_member-requires-clause-bounds
find_member-requires-clause-bounds c = part_bounds c.args.nodes.now c.args.link c.index-nodes-link.result c.requires.table c.requires.link.0 c.requires.link.1 c.index-nodes-link.is c.in-Part.width c.in-Part.members c.as_slice.result.now c.in-Part.is c.as_slice.ensures.members c.requires.bounds

pub find_member-requires-clause-room : goal.find_member-requires-clause-room
find_member-requires-clause-room c = part_room c.args.nodes.now c.args.link c.index-nodes-link.result c.requires.table c.requires.link.0 c.requires.link.1 c.index-nodes-link.is c.in-Part.width c.in-Part.members c.as_slice.result.now c.in-Part.is c.as_slice.ensures.members c.args.at 524256 c.requires.room

pub returns-in-Part-clause-found : goal.returns-in-Part-clause-found
returns-in-Part-clause-found c = part_found c.args.nodes.now c.args.link c.index-nodes-link.result c.requires.table c.requires.link.0 c.requires.link.1 c.index-nodes-link.is c.in-Part.width c.in-Part.members c.as_slice.result.now c.in-Part.is c.as_slice.ensures.members c.args.at c.args.index c.find_member.result c.find_member.ensures.found

pub returns-in-Part-clause-none : goal.returns-in-Part-clause-none
returns-in-Part-clause-none c = part_none c.args.nodes.now c.args.link c.index-nodes-link.result c.requires.table c.requires.link.0 c.requires.link.1 c.index-nodes-link.is c.in-Part.width c.in-Part.members c.as_slice.result.now c.in-Part.is c.as_slice.ensures.members c.args.at c.args.index c.find_member.result c.find_member.ensures.none

pub returns-in_default : goal.returns-in_default
returns-in_default c = record { found = tt; none = no_part c.args.nodes.now c.args.link c.index-nodes-link.result c.requires.table c.requires.link.0 c.requires.link.1 c.index-nodes-link.is c.args.at c.args.index c.in_default.not-Part }
