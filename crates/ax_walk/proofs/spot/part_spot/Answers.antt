use Rattle.ax_codec.specs.Meaning.{meanings, linked_parts}
use Rattle.ax_walk.proofs.MemberSteps.{none_left}
use Rattle.ax_walk.proofs.PartSteps.{no_part_step, no_member_step, not_present, no_such_member, member_fits, in_part, not_in_part}
use Rattle.ax_walk.proofs.spot.part_spot.Goals as goal

pub returns-in_default : goal.returns-in_default
returns-in_default c = no_part_step c.args.last (linked_parts (meanings c.args.nodes.now) c.args.parts.now) c.args.octets.now c.requires.one c.args.steps.now (none_left c.args.steps.now c.in_default.ensures.cases)

pub returns-in_default-split_first : goal.returns-in_default-split_first
returns-in_default-split_first c = no_member_step c.args.last (linked_parts (meanings c.args.nodes.now) c.args.parts.now) c.args.octets.now c.requires.one c.args.steps.now c.in-Some.inside.now c.in-Some.part.now c.in-Some.ensures.cases.0 (none_left c.in-Some.inside.now c.in_default-split_first.ensures.cases)

pub returns-in_default-find_part : goal.returns-in_default-find_part
returns-in_default-find_part c = not_present c.args.last (linked_parts (meanings c.args.nodes.now) c.args.parts.now) c.args.octets.now c.requires.one c.args.steps.now c.in-Some.inside.now c.in-Some-split_first.later.now c.in-Some.part.now c.in-Some-split_first.index.now c.in-Some.ensures.cases.0 c.in-Some-split_first.ensures.cases.0 c.in_default-find_part.ensures.none

pub returns-in_default-part_member : goal.returns-in_default-part_member
returns-in_default-part_member c = no_such_member c.args.last (linked_parts (meanings c.args.nodes.now) c.args.parts.now) c.args.octets.now c.requires.one c.args.steps.now c.in-Some.inside.now c.in-Some-split_first.later.now c.in-Some.part.now c.in-Some-split_first.index.now c.in-Some.ensures.cases.0 c.in-Some-split_first.ensures.cases.0 c.args.nodes.now c.in-Some-find_part.link c.in-Some-find_part.bit c.in-Some-find_part.ensures.found c.in_default-part_member.ensures.none

pub find_fixed-requires-clause-room : goal.find_fixed-requires-clause-room
find_fixed-requires-clause-room c = member_fits c.args.last (linked_parts (meanings c.args.nodes.now) c.args.parts.now) c.args.octets.now c.requires.one c.args.steps.now c.in-Some.inside.now c.in-Some-split_first.later.now c.in-Some.part.now c.in-Some-split_first.index.now c.in-Some.ensures.cases.0 c.in-Some-split_first.ensures.cases.0 c.args.nodes.now c.in-Some-find_part.link c.in-Some-find_part.bit c.in-Some-find_part.ensures.found c.in-Some-part_member.member c.in-Some-part_member.at c.in-Some-part_member.ensures.found

pub returns-in-Some-find_fixed : goal.returns-in-Some-find_fixed
returns-in-Some-find_fixed c = in_part c.args.last (linked_parts (meanings c.args.nodes.now) c.args.parts.now) c.args.octets.now c.requires.one c.args.steps.now c.in-Some.inside.now c.in-Some-split_first.later.now c.in-Some.part.now c.in-Some-split_first.index.now c.in-Some.ensures.cases.0 c.in-Some-split_first.ensures.cases.0 c.args.nodes.now c.in-Some-find_part.link c.in-Some-find_part.bit c.in-Some-find_part.ensures.found c.in-Some-part_member.member c.in-Some-part_member.at c.in-Some-part_member.ensures.found c.in-Some-find_fixed.link c.in-Some-find_fixed.bit c.in-Some-find_fixed.ensures.found

pub returns-in-None : goal.returns-in-None
returns-in-None c = not_in_part c.args.last (linked_parts (meanings c.args.nodes.now) c.args.parts.now) c.args.octets.now c.requires.one c.args.steps.now c.in-Some.inside.now c.in-Some-split_first.later.now c.in-Some.part.now c.in-Some-split_first.index.now c.in-Some.ensures.cases.0 c.in-Some-split_first.ensures.cases.0 c.args.nodes.now c.in-Some-find_part.link c.in-Some-find_part.bit c.in-Some-find_part.ensures.found c.in-Some-part_member.member c.in-Some-part_member.at c.in-Some-part_member.ensures.found c.in-None.ensures.none
