use Rattle.std.proofs.Common.{arith}
use Rattle.ax_codec.specs.Meaning.{meanings, linked, fixed_of}
use Rattle.ax_walk.proofs.MemberSteps.{down_first, down_last, group_links, group_bounds, group_room, down_next, down_none, down_no_group, none_left}
use Rattle.ax_walk.proofs.spot.find_fixed.Goals as goal

pub loop-step-init : goal.loop-step-init
loop-step-init c = record { down = down_first c.args.nodes.now c.args.first c.args.at c.args.steps.now c.requires.link c.requires.bounds }

pub returns-in_default-nodes-clause-none : goal.returns-in_default-nodes-clause-none
returns-in_default-nodes-clause-none c = down_no_group c.args.nodes.now (fixed_of (linked (meanings c.args.nodes.now) c.args.first)) c.loop-step.link c.args.at c.loop-step.here c.args.steps.now c.loop-step.left.now c.index-nodes-link.result c.requires.table c.loop-step.invariant.down c.index-nodes-link.is c.in-Some.step.now c.in-Some.later.now c.in-Some.ensures.cases.0 c.in_default-nodes.not-Group

pub find_member-requires-clause-links : goal.find_member-requires-clause-links
find_member-requires-clause-links c = group_links c.args.nodes.now (fixed_of (linked (meanings c.args.nodes.now) c.args.first)) c.loop-step.link c.args.at c.loop-step.here c.args.steps.now c.loop-step.left.now c.index-nodes-link.result c.requires.table c.loop-step.invariant.down c.index-nodes-link.is c.in-Group.width c.in-Group.members c.as_slice.result.now c.in-Group.is c.as_slice.ensures.members

pub find_member-requires-clause-bounds : goal.find_member-requires-clause-bounds
find_member-requires-clause-bounds c = group_bounds c.args.nodes.now (fixed_of (linked (meanings c.args.nodes.now) c.args.first)) c.loop-step.link c.args.at c.loop-step.here c.args.steps.now c.loop-step.left.now c.index-nodes-link.result c.requires.table c.loop-step.invariant.down c.index-nodes-link.is c.in-Group.width c.in-Group.members c.as_slice.result.now c.in-Group.is c.as_slice.ensures.members

pub find_member-requires-clause-room : goal.find_member-requires-clause-room
find_member-requires-clause-room c = let r = group_room c.args.nodes.now (fixed_of (linked (meanings c.args.nodes.now) c.args.first)) c.loop-step.link c.args.at c.loop-step.here c.args.steps.now c.loop-step.left.now c.index-nodes-link.result c.requires.table c.loop-step.invariant.down c.index-nodes-link.is c.in-Group.width c.in-Group.members c.as_slice.result.now c.in-Group.is c.as_slice.ensures.members in omega (arith, c.requires.room)

pub returns-in_default-find_member-clause-none : goal.returns-in_default-find_member-clause-none
returns-in_default-find_member-clause-none c = down_none c.args.nodes.now (fixed_of (linked (meanings c.args.nodes.now) c.args.first)) c.loop-step.link c.args.at c.loop-step.here c.args.steps.now c.loop-step.left.now c.index-nodes-link.result c.requires.table c.loop-step.invariant.down c.index-nodes-link.is c.in-Group.width c.in-Group.members c.as_slice.result.now c.in-Group.is c.as_slice.ensures.members c.in-Some.step.now c.in-Some.later.now c.in-Some.ensures.cases.0 c.in_default-find_member.ensures.none

pub loop-step-preserved : goal.loop-step-preserved
loop-step-preserved c = record { down = down_next c.args.nodes.now (fixed_of (linked (meanings c.args.nodes.now) c.args.first)) c.loop-step.link c.args.at c.loop-step.here c.args.steps.now c.loop-step.left.now c.index-nodes-link.result c.requires.table c.loop-step.invariant.down c.index-nodes-link.is c.in-Group.width c.in-Group.members c.as_slice.result.now c.in-Group.is c.as_slice.ensures.members c.in-Some.step.now c.in-Some-find_member.member c.in-Some-find_member.bit c.in-Some.later.now c.in-Some.ensures.cases.0 c.in-Some-find_member.ensures.found }

pub returns-clause-found : goal.returns-clause-found
returns-clause-found c = down_last c.args.nodes.now (fixed_of (linked (meanings c.args.nodes.now) c.args.first)) c.loop-step.link c.args.at c.loop-step.here c.args.steps.now c.loop-step.left.now c.loop-step.invariant.down (none_left c.loop-step.left.now c.in_default.ensures.cases)
