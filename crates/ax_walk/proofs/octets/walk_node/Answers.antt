use Rattle.std.proofs.Common.{◌%◌, ap, arith, refl, subst, sym, ◌∙◌}
use Rattle.ax_format.specs.InBounds.{InBounds}
use Rattle.ax_format.specs.Tree as Tree
use Rattle.ax_format.specs.declared.content.Content.TheVariants.{Raw}
use Rattle.ax_codec.specs.Meaning.{meanings, linked, fixed_of, linked_members, linked_parts}
use Rattle.ax_codec.specs.Table.{kind_at, record_kind_at}
use Rattle.ax_walk.proofs.NodeKinds.{end_as, fault_as, run_end, run_fault, is_element, is_group, group_width, is_part, is_extended, extended_links, is_counted, counted_link, is_by_fx, by_fx_link, is_explicit, is_compound, compound_links, compound_mask}
use Rattle.ax_walk.proofs.octets.walk_node.Goals as goal

pub run-requires : goal.run-requires
run-requires c =
    let b : InBounds (Tree.fixed (Tree.element c.in-Element.width Raw)) = subst InBounds (is_element c.args.nodes.now c.args.link c.index-nodes-link.result c.requires.table c.requires.link.0 c.requires.link.1 c.index-nodes-link.is c.in-Element.width c.in-Element.is) c.requires.bounds in (b.0, omega (arith, b.1))

pub run-requires-in-Group : goal.run-requires-in-Group
run-requires-in-Group c =
    let b : InBounds (Tree.fixed (Tree.group (linked_members (meanings c.args.nodes.now) c.in-Group.members))) = subst InBounds (is_group c.args.nodes.now c.args.link c.index-nodes-link.result c.requires.table c.requires.link.0 c.requires.link.1 c.index-nodes-link.is c.in-Group.width c.in-Group.members c.in-Group.is) c.requires.bounds in
    let w = group_width c.args.nodes.now c.args.link c.index-nodes-link.result c.requires.table c.requires.link.0 c.requires.link.1 c.index-nodes-link.is c.in-Group.width c.in-Group.members c.in-Group.is in (ap (λ w. w % 8) w ∙ b.0, omega (arith, b.1))

pub walk_extended-requires-clause-links : goal.walk_extended-requires-clause-links
walk_extended-requires-clause-links c =
    extended_links c.args.nodes.now c.args.link c.index-nodes-link.result c.requires.table c.requires.link.0 c.requires.link.1 c.index-nodes-link.is c.in-Extended.last c.in-Extended.parts c.as_slice.result.now c.in-Extended.is c.as_slice.ensures.members

pub walk_extended-requires-clause-bounds : goal.walk_extended-requires-clause-bounds
walk_extended-requires-clause-bounds c =
    let b : InBounds (Tree.extended c.in-Extended.last (linked_parts (meanings c.args.nodes.now) c.as_slice.result.now)) = subst InBounds (is_extended c.args.nodes.now c.args.link c.index-nodes-link.result c.requires.table c.requires.link.0 c.requires.link.1 c.index-nodes-link.is c.in-Extended.last c.in-Extended.parts c.as_slice.result.now c.in-Extended.is c.as_slice.ensures.members) c.requires.bounds in b

pub walk_run-requires-clause-link : goal.walk_run-requires-clause-link
walk_run-requires-clause-link c =
    by_fx_link c.args.nodes.now c.args.link c.index-nodes-link.result c.requires.table c.requires.link.0 c.requires.link.1 c.index-nodes-link.is c.in-ByFx.inner c.in-ByFx.is

pub walk_run-requires-clause-bounds : goal.walk_run-requires-clause-bounds
walk_run-requires-clause-bounds c =
    let b : InBounds (Tree.by_fx (fixed_of (linked (meanings c.args.nodes.now) c.in-ByFx.inner))) = subst InBounds (is_by_fx c.args.nodes.now c.args.link c.index-nodes-link.result c.requires.table c.requires.link.0 c.requires.link.1 c.index-nodes-link.is c.in-ByFx.inner c.in-ByFx.is) c.requires.bounds in b

pub returns-in-Element-clause-end : goal.returns-in-Element-clause-end
returns-in-Element-clause-end c =
    let b : InBounds (Tree.fixed (Tree.element c.in-Element.width Raw)) = subst InBounds (is_element c.args.nodes.now c.args.link c.index-nodes-link.result c.requires.table c.requires.link.0 c.requires.link.1 c.index-nodes-link.is c.in-Element.width c.in-Element.is) c.requires.bounds in
    end_as c.args.start.body.now c.args.start.at (kind_at c.args.nodes.now c.args.link) (Tree.fixed (Tree.element c.in-Element.width Raw)) (is_element c.args.nodes.now c.args.link c.index-nodes-link.result c.requires.table c.requires.link.0 c.requires.link.1 c.index-nodes-link.is c.in-Element.width c.in-Element.is) c.run.new.notes.least c.run.result
    (run_end (Tree.element c.in-Element.width Raw) c.args.start.body.now c.args.start.at c.in-Element.width refl c.run.new.notes.least c.run.result b c.run.ensures.end)

pub returns-in-Element-clause-fault : goal.returns-in-Element-clause-fault
returns-in-Element-clause-fault c =
    fault_as c.args.start.body.now c.args.start.at (kind_at c.args.nodes.now c.args.link) (Tree.fixed (Tree.element c.in-Element.width Raw)) (is_element c.args.nodes.now c.args.link c.index-nodes-link.result c.requires.table c.requires.link.0 c.requires.link.1 c.index-nodes-link.is c.in-Element.width c.in-Element.is) c.run.new.notes.fault c.run.result
    (run_fault (Tree.element c.in-Element.width Raw) c.args.start.body.now c.args.start.at c.in-Element.width refl c.run.new.notes.fault c.run.result c.run.ensures.short c.run.ensures.fault)

pub returns-in-Group-clause-end : goal.returns-in-Group-clause-end
returns-in-Group-clause-end c =
    let b : InBounds (Tree.fixed (Tree.group (linked_members (meanings c.args.nodes.now) c.in-Group.members))) = subst InBounds (is_group c.args.nodes.now c.args.link c.index-nodes-link.result c.requires.table c.requires.link.0 c.requires.link.1 c.index-nodes-link.is c.in-Group.width c.in-Group.members c.in-Group.is) c.requires.bounds in
    end_as c.args.start.body.now c.args.start.at (kind_at c.args.nodes.now c.args.link) (Tree.fixed (Tree.group (linked_members (meanings c.args.nodes.now) c.in-Group.members))) (is_group c.args.nodes.now c.args.link c.index-nodes-link.result c.requires.table c.requires.link.0 c.requires.link.1 c.index-nodes-link.is c.in-Group.width c.in-Group.members c.in-Group.is) c.run-in-Group.new.notes.least c.run-in-Group.result
    (run_end (Tree.group (linked_members (meanings c.args.nodes.now) c.in-Group.members)) c.args.start.body.now c.args.start.at c.in-Group.width (group_width c.args.nodes.now c.args.link c.index-nodes-link.result c.requires.table c.requires.link.0 c.requires.link.1 c.index-nodes-link.is c.in-Group.width c.in-Group.members c.in-Group.is) c.run-in-Group.new.notes.least c.run-in-Group.result b c.run-in-Group.ensures.end)

pub returns-in-Group-clause-fault : goal.returns-in-Group-clause-fault
returns-in-Group-clause-fault c =
    fault_as c.args.start.body.now c.args.start.at (kind_at c.args.nodes.now c.args.link) (Tree.fixed (Tree.group (linked_members (meanings c.args.nodes.now) c.in-Group.members))) (is_group c.args.nodes.now c.args.link c.index-nodes-link.result c.requires.table c.requires.link.0 c.requires.link.1 c.index-nodes-link.is c.in-Group.width c.in-Group.members c.in-Group.is) c.run-in-Group.new.notes.fault c.run-in-Group.result
    (run_fault (Tree.group (linked_members (meanings c.args.nodes.now) c.in-Group.members)) c.args.start.body.now c.args.start.at c.in-Group.width (group_width c.args.nodes.now c.args.link c.index-nodes-link.result c.requires.table c.requires.link.0 c.requires.link.1 c.index-nodes-link.is c.in-Group.width c.in-Group.members c.in-Group.is) c.run-in-Group.new.notes.fault c.run-in-Group.result c.run-in-Group.ensures.short c.run-in-Group.ensures.fault)

pub returns-in-Part-clause-fault : goal.returns-in-Part-clause-fault
returns-in-Part-clause-fault c =
    absurd (is_part c.args.nodes.now c.args.link c.index-nodes-link.result c.requires.table c.requires.link.0 c.requires.link.1 c.index-nodes-link.is c.in-Part.width c.in-Part.members c.in-Part.is c.requires.bounds)

pub returns-in-Extended-clause-end : goal.returns-in-Extended-clause-end
returns-in-Extended-clause-end c =
    end_as c.args.start.body.now c.args.start.at (kind_at c.args.nodes.now c.args.link) (Tree.extended c.in-Extended.last (linked_parts (meanings c.args.nodes.now) c.as_slice.result.now)) (is_extended c.args.nodes.now c.args.link c.index-nodes-link.result c.requires.table c.requires.link.0 c.requires.link.1 c.index-nodes-link.is c.in-Extended.last c.in-Extended.parts c.as_slice.result.now c.in-Extended.is c.as_slice.ensures.members) c.walk_extended.new.notes.least c.walk_extended.result c.walk_extended.ensures.end

pub returns-in-Extended-clause-fault : goal.returns-in-Extended-clause-fault
returns-in-Extended-clause-fault c =
    fault_as c.args.start.body.now c.args.start.at (kind_at c.args.nodes.now c.args.link) (Tree.extended c.in-Extended.last (linked_parts (meanings c.args.nodes.now) c.as_slice.result.now)) (is_extended c.args.nodes.now c.args.link c.index-nodes-link.result c.requires.table c.requires.link.0 c.requires.link.1 c.index-nodes-link.is c.in-Extended.last c.in-Extended.parts c.as_slice.result.now c.in-Extended.is c.as_slice.ensures.members) c.walk_extended.new.notes.fault c.walk_extended.result c.walk_extended.ensures.fault

pub returns-in-ByFx-clause-end : goal.returns-in-ByFx-clause-end
returns-in-ByFx-clause-end c =
    end_as c.args.start.body.now c.args.start.at (kind_at c.args.nodes.now c.args.link) (Tree.by_fx (fixed_of (linked (meanings c.args.nodes.now) c.in-ByFx.inner))) (is_by_fx c.args.nodes.now c.args.link c.index-nodes-link.result c.requires.table c.requires.link.0 c.requires.link.1 c.index-nodes-link.is c.in-ByFx.inner c.in-ByFx.is) c.walk_run.new.notes.least c.walk_run.result c.walk_run.ensures.end

pub returns-in-ByFx-clause-fault : goal.returns-in-ByFx-clause-fault
returns-in-ByFx-clause-fault c =
    fault_as c.args.start.body.now c.args.start.at (kind_at c.args.nodes.now c.args.link) (Tree.by_fx (fixed_of (linked (meanings c.args.nodes.now) c.in-ByFx.inner))) (is_by_fx c.args.nodes.now c.args.link c.index-nodes-link.result c.requires.table c.requires.link.0 c.requires.link.1 c.index-nodes-link.is c.in-ByFx.inner c.in-ByFx.is) c.walk_run.new.notes.fault c.walk_run.result c.walk_run.ensures.fault

pub returns-in-Explicit-clause-end : goal.returns-in-Explicit-clause-end
returns-in-Explicit-clause-end c =
    end_as c.args.start.body.now c.args.start.at (kind_at c.args.nodes.now c.args.link) Tree.explicit (is_explicit c.args.nodes.now c.args.link c.index-nodes-link.result c.requires.table c.requires.link.0 c.requires.link.1 c.index-nodes-link.is c.in-Explicit.is) c.walk_explicit.new.notes.least c.walk_explicit.result c.walk_explicit.ensures.end

pub returns-in-Explicit-clause-fault : goal.returns-in-Explicit-clause-fault
returns-in-Explicit-clause-fault c =
    fault_as c.args.start.body.now c.args.start.at (kind_at c.args.nodes.now c.args.link) Tree.explicit (is_explicit c.args.nodes.now c.args.link c.index-nodes-link.result c.requires.table c.requires.link.0 c.requires.link.1 c.index-nodes-link.is c.in-Explicit.is) c.walk_explicit.new.notes.fault c.walk_explicit.result c.walk_explicit.ensures.fault

pub returns-in-Counted-clause-end : goal.returns-in-Counted-clause-end
returns-in-Counted-clause-end c =
    end_as c.args.start.body.now c.args.start.at (kind_at c.args.nodes.now c.args.link) (Tree.counted c.in-Counted.counter (kind_at c.args.nodes.now c.in-Counted.inner)) (is_counted c.args.nodes.now c.args.link c.index-nodes-link.result c.requires.table c.requires.link.0 c.requires.link.1 c.index-nodes-link.is c.in-Counted.counter c.in-Counted.inner c.in-Counted.is) c.walk_counted.new.notes.least c.walk_counted.result c.walk_counted.ensures.end

pub returns-in-Counted-clause-fault : goal.returns-in-Counted-clause-fault
returns-in-Counted-clause-fault c =
    fault_as c.args.start.body.now c.args.start.at (kind_at c.args.nodes.now c.args.link) (Tree.counted c.in-Counted.counter (kind_at c.args.nodes.now c.in-Counted.inner)) (is_counted c.args.nodes.now c.args.link c.index-nodes-link.result c.requires.table c.requires.link.0 c.requires.link.1 c.index-nodes-link.is c.in-Counted.counter c.in-Counted.inner c.in-Counted.is) c.walk_counted.new.notes.fault c.walk_counted.result c.walk_counted.ensures.fault

pub returns-in-Compound-clause-end : goal.returns-in-Compound-clause-end
returns-in-Compound-clause-end c =
    end_as c.args.start.body.now c.args.start.at (kind_at c.args.nodes.now c.args.link) (record_kind_at c.args.nodes.now c.as_slice-in-Compound.result.now) (is_compound c.args.nodes.now c.args.link c.index-nodes-link.result c.requires.table c.requires.link.0 c.requires.link.1 c.index-nodes-link.is c.in-Compound.mask c.in-Compound.slots c.as_slice-in-Compound.result.now c.in-Compound.is c.as_slice-in-Compound.ensures.members) c.walk_compound.new.notes.least c.walk_compound.result c.walk_compound.ensures.end

pub returns-in-Compound-clause-fault : goal.returns-in-Compound-clause-fault
returns-in-Compound-clause-fault c =
    fault_as c.args.start.body.now c.args.start.at (kind_at c.args.nodes.now c.args.link) (record_kind_at c.args.nodes.now c.as_slice-in-Compound.result.now) (is_compound c.args.nodes.now c.args.link c.index-nodes-link.result c.requires.table c.requires.link.0 c.requires.link.1 c.index-nodes-link.is c.in-Compound.mask c.in-Compound.slots c.as_slice-in-Compound.result.now c.in-Compound.is c.as_slice-in-Compound.ensures.members) c.walk_compound.new.notes.fault c.walk_compound.result c.walk_compound.ensures.fault

pub walk_counted-requires-clause-link : goal.walk_counted-requires-clause-link
walk_counted-requires-clause-link c =
    let l = counted_link c.args.nodes.now c.args.link c.index-nodes-link.result c.requires.table c.requires.link.0 c.requires.link.1 c.index-nodes-link.is c.in-Counted.counter c.in-Counted.inner c.in-Counted.is in (l.0, omega (arith, l.1, c.requires.link.1))

pub walk_counted-requires-clause-bounds : goal.walk_counted-requires-clause-bounds
walk_counted-requires-clause-bounds c =
    let b : InBounds (Tree.counted c.in-Counted.counter (kind_at c.args.nodes.now c.in-Counted.inner)) = subst InBounds (is_counted c.args.nodes.now c.args.link c.index-nodes-link.result c.requires.table c.requires.link.0 c.requires.link.1 c.index-nodes-link.is c.in-Counted.counter c.in-Counted.inner c.in-Counted.is) c.requires.bounds in b

pub walk_compound-requires-clause-slots : goal.walk_compound-requires-clause-slots
walk_compound-requires-clause-slots c =
    record {
      within = compound_links c.args.nodes.now c.args.link c.index-nodes-link.result c.requires.table c.requires.link.0 c.requires.link.1 c.index-nodes-link.is c.in-Compound.mask c.in-Compound.slots c.as_slice-in-Compound.result.now c.in-Compound.is c.as_slice-in-Compound.ensures.members;
      mask = compound_mask c.args.nodes.now c.args.link c.index-nodes-link.result c.requires.table c.requires.link.0 c.requires.link.1 c.index-nodes-link.is c.in-Compound.mask c.in-Compound.slots c.as_slice-in-Compound.result.now c.in-Compound.is c.as_slice-in-Compound.ensures.members;
      bounds = subst InBounds (is_compound c.args.nodes.now c.args.link c.index-nodes-link.result c.requires.table c.requires.link.0 c.requires.link.1 c.index-nodes-link.is c.in-Compound.mask c.in-Compound.slots c.as_slice-in-Compound.result.now c.in-Compound.is c.as_slice-in-Compound.ensures.members) c.requires.bounds;
    }

pub returns-in-Element-clause-falls : goal.returns-in-Element-clause-falls
returns-in-Element-clause-falls c = λ h. sym c.run.ensures.least ∙ h

pub returns-in-Group-clause-falls : goal.returns-in-Group-clause-falls
returns-in-Group-clause-falls c = λ h. sym c.run-in-Group.ensures.least ∙ h

pub returns-in-Extended-clause-falls : goal.returns-in-Extended-clause-falls
returns-in-Extended-clause-falls c = λ h. sym c.walk_extended.ensures.least ∙ h

pub returns-in-ByFx-clause-falls : goal.returns-in-ByFx-clause-falls
returns-in-ByFx-clause-falls c = λ h. sym c.walk_run.ensures.least ∙ h

pub returns-in-Explicit-clause-falls : goal.returns-in-Explicit-clause-falls
returns-in-Explicit-clause-falls c = λ h. sym c.walk_explicit.ensures.least ∙ h
