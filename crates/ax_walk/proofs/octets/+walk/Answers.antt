use Rattle.std.proofs.Common.{◌-◌, ◌%◌, length, ap, arith, refl, subst, sym, ◌∙◌}
use Rattle.ax_format.specs.InBounds.{InBounds}
use Rattle.ax_format.specs.Tree as Tree
use Rattle.ax_format.specs.declared.content.Content.TheVariants.{Raw}
use Rattle.ax_codec.specs.Meaning.{meanings, linked, fixed_of, linked_members, linked_parts, linked_slots}
use Rattle.ax_codec.specs.Table.{kind_at, record_kind_at}
use Rattle.ax_fspec.proofs.Counting.{counted_none}
use Rattle.ax_walk.proofs.Leading.{if_none}
use Rattle.ax_walk.proofs.NodeKinds.{end_as, fault_as, run_end, run_fault, is_element, is_group, group_width, is_part, is_extended, extended_links, is_counted, counted_link, is_by_fx, by_fx_link, is_explicit, is_compound, compound_links, compound_mask, compound_falls}
use Rattle.ax_walk.proofs.CountedSteps.{count_first, count_next, count_last, count_failed}
use Rattle.ax_walk.proofs.Compounds.{marks_clear, slots_bounds, record_failed, compound_end, compound_fault}
use Rattle.ax_walk.proofs.MarkedSteps.{next_marked, marks_next, marks_last, marks_failed, greatest_at, within_at}
use Rattle.ax_fspec.proofs.Marking.{marks_bits}
use Rattle.ax_walk.proofs.octets.+walk.Goals as goal

pub walk-run-requires : goal.walk-run-requires
walk-run-requires t c =
    let b : InBounds (Tree.fixed (Tree.element c.in-Element.width Raw)) = subst InBounds (is_element c.args.nodes.now c.args.link c.index-nodes-link.result c.requires.table c.requires.link.0 c.requires.link.1 c.index-nodes-link.is c.in-Element.width c.in-Element.is) c.requires.bounds in (b.0, omega (arith, b.1))

pub walk-run-requires-in-Group : goal.walk-run-requires-in-Group
walk-run-requires-in-Group t c =
    let b : InBounds (Tree.fixed (Tree.group (linked_members (meanings c.args.nodes.now) c.in-Group.members))) = subst InBounds (is_group c.args.nodes.now c.args.link c.index-nodes-link.result c.requires.table c.requires.link.0 c.requires.link.1 c.index-nodes-link.is c.in-Group.width c.in-Group.members c.in-Group.is) c.requires.bounds in
    let w = group_width c.args.nodes.now c.args.link c.index-nodes-link.result c.requires.table c.requires.link.0 c.requires.link.1 c.index-nodes-link.is c.in-Group.width c.in-Group.members c.in-Group.is in (ap (λ w. w % 8) w ∙ b.0, omega (arith, b.1))

pub walk-walk_parts-requires-clause-links : goal.walk-walk_parts-requires-clause-links
walk-walk_parts-requires-clause-links t c =
    extended_links c.args.nodes.now c.args.link c.index-nodes-link.result c.requires.table c.requires.link.0 c.requires.link.1 c.index-nodes-link.is c.in-Extended.last c.in-Extended.parts c.as_slice.result.now c.in-Extended.is c.as_slice.ensures.members

pub walk-walk_parts-requires-clause-bounds : goal.walk-walk_parts-requires-clause-bounds
walk-walk_parts-requires-clause-bounds t c =
    let b : InBounds (Tree.extended c.in-Extended.last (linked_parts (meanings c.args.nodes.now) c.as_slice.result.now)) = subst InBounds (is_extended c.args.nodes.now c.args.link c.index-nodes-link.result c.requires.table c.requires.link.0 c.requires.link.1 c.index-nodes-link.is c.in-Extended.last c.in-Extended.parts c.as_slice.result.now c.in-Extended.is c.as_slice.ensures.members) c.requires.bounds in b

pub walk-walk_counted-requires : goal.walk-walk_counted-requires
walk-walk_counted-requires t c =
    let l = counted_link c.args.nodes.now c.args.link c.index-nodes-link.result c.requires.table c.requires.link.0 c.requires.link.1 c.index-nodes-link.is c.in-Counted.counter c.in-Counted.inner c.in-Counted.is in
    let b : InBounds (Tree.counted c.in-Counted.counter (kind_at c.args.nodes.now c.in-Counted.inner)) = subst InBounds (is_counted c.args.nodes.now c.args.link c.index-nodes-link.result c.requires.table c.requires.link.0 c.requires.link.1 c.index-nodes-link.is c.in-Counted.counter c.in-Counted.inner c.in-Counted.is) c.requires.bounds in
    (omega (arith, l.1, c.decreases), (c.requires.table, ((l.0, omega (arith, l.1, c.requires.link.1)), b)))

pub walk-walk_run-requires-clause-link : goal.walk-walk_run-requires-clause-link
walk-walk_run-requires-clause-link t c =
    by_fx_link c.args.nodes.now c.args.link c.index-nodes-link.result c.requires.table c.requires.link.0 c.requires.link.1 c.index-nodes-link.is c.in-ByFx.inner c.in-ByFx.is

pub walk-walk_run-requires-clause-bounds : goal.walk-walk_run-requires-clause-bounds
walk-walk_run-requires-clause-bounds t c =
    let b : InBounds (Tree.by_fx (fixed_of (linked (meanings c.args.nodes.now) c.in-ByFx.inner))) = subst InBounds (is_by_fx c.args.nodes.now c.args.link c.index-nodes-link.result c.requires.table c.requires.link.0 c.requires.link.1 c.index-nodes-link.is c.in-ByFx.inner c.in-ByFx.is) c.requires.bounds in b

pub walk-walk_compound-requires : goal.walk-walk_compound-requires
walk-walk_compound-requires t c =
    let b : InBounds (record_kind_at c.args.nodes.now c.as_slice-in-Compound.result.now) = subst InBounds (is_compound c.args.nodes.now c.args.link c.index-nodes-link.result c.requires.table c.requires.link.0 c.requires.link.1 c.index-nodes-link.is c.in-Compound.mask c.in-Compound.slots c.as_slice-in-Compound.result.now c.in-Compound.is c.as_slice-in-Compound.ensures.members) c.requires.bounds in
    let falls = compound_falls c.args.nodes.now c.args.link c.index-nodes-link.result c.requires.table c.requires.link.0 c.requires.link.1 c.index-nodes-link.is c.in-Compound.mask c.in-Compound.slots c.as_slice-in-Compound.result.now c.in-Compound.is c.as_slice-in-Compound.ensures.members in
    (omega (arith, falls, c.decreases), (c.requires.table, record { within = compound_links c.args.nodes.now c.args.link c.index-nodes-link.result c.requires.table c.requires.link.0 c.requires.link.1 c.index-nodes-link.is c.in-Compound.mask c.in-Compound.slots c.as_slice-in-Compound.result.now c.in-Compound.is c.as_slice-in-Compound.ensures.members; mask = compound_mask c.args.nodes.now c.args.link c.index-nodes-link.result c.requires.table c.requires.link.0 c.requires.link.1 c.index-nodes-link.is c.in-Compound.mask c.in-Compound.slots c.as_slice-in-Compound.result.now c.in-Compound.is c.as_slice-in-Compound.ensures.members; bounds = b }))

pub walk-returns-in-Element-clause-end : goal.walk-returns-in-Element-clause-end
walk-returns-in-Element-clause-end t c =
    let b : InBounds (Tree.fixed (Tree.element c.in-Element.width Raw)) = subst InBounds (is_element c.args.nodes.now c.args.link c.index-nodes-link.result c.requires.table c.requires.link.0 c.requires.link.1 c.index-nodes-link.is c.in-Element.width c.in-Element.is) c.requires.bounds in
    end_as c.args.body.now c.args.at (kind_at c.args.nodes.now c.args.link) (Tree.fixed (Tree.element c.in-Element.width Raw)) (is_element c.args.nodes.now c.args.link c.index-nodes-link.result c.requires.table c.requires.link.0 c.requires.link.1 c.index-nodes-link.is c.in-Element.width c.in-Element.is) c.run.new.notes.least c.run.result
    (run_end (Tree.element c.in-Element.width Raw) c.args.body.now c.args.at c.in-Element.width refl c.run.new.notes.least c.run.result b c.run.ensures.end)

pub walk-returns-in-Element-clause-fault : goal.walk-returns-in-Element-clause-fault
walk-returns-in-Element-clause-fault t c =
    fault_as c.args.body.now c.args.at (kind_at c.args.nodes.now c.args.link) (Tree.fixed (Tree.element c.in-Element.width Raw)) (is_element c.args.nodes.now c.args.link c.index-nodes-link.result c.requires.table c.requires.link.0 c.requires.link.1 c.index-nodes-link.is c.in-Element.width c.in-Element.is) c.run.new.notes.fault c.run.result
    (run_fault (Tree.element c.in-Element.width Raw) c.args.body.now c.args.at c.in-Element.width refl c.run.new.notes.fault c.run.result c.run.ensures.short c.run.ensures.fault)

pub walk-returns-in-Group-clause-end : goal.walk-returns-in-Group-clause-end
walk-returns-in-Group-clause-end t c =
    let b : InBounds (Tree.fixed (Tree.group (linked_members (meanings c.args.nodes.now) c.in-Group.members))) = subst InBounds (is_group c.args.nodes.now c.args.link c.index-nodes-link.result c.requires.table c.requires.link.0 c.requires.link.1 c.index-nodes-link.is c.in-Group.width c.in-Group.members c.in-Group.is) c.requires.bounds in
    end_as c.args.body.now c.args.at (kind_at c.args.nodes.now c.args.link) (Tree.fixed (Tree.group (linked_members (meanings c.args.nodes.now) c.in-Group.members))) (is_group c.args.nodes.now c.args.link c.index-nodes-link.result c.requires.table c.requires.link.0 c.requires.link.1 c.index-nodes-link.is c.in-Group.width c.in-Group.members c.in-Group.is) c.run-in-Group.new.notes.least c.run-in-Group.result
    (run_end (Tree.group (linked_members (meanings c.args.nodes.now) c.in-Group.members)) c.args.body.now c.args.at c.in-Group.width (group_width c.args.nodes.now c.args.link c.index-nodes-link.result c.requires.table c.requires.link.0 c.requires.link.1 c.index-nodes-link.is c.in-Group.width c.in-Group.members c.in-Group.is) c.run-in-Group.new.notes.least c.run-in-Group.result b c.run-in-Group.ensures.end)

pub walk-returns-in-Group-clause-fault : goal.walk-returns-in-Group-clause-fault
walk-returns-in-Group-clause-fault t c =
    fault_as c.args.body.now c.args.at (kind_at c.args.nodes.now c.args.link) (Tree.fixed (Tree.group (linked_members (meanings c.args.nodes.now) c.in-Group.members))) (is_group c.args.nodes.now c.args.link c.index-nodes-link.result c.requires.table c.requires.link.0 c.requires.link.1 c.index-nodes-link.is c.in-Group.width c.in-Group.members c.in-Group.is) c.run-in-Group.new.notes.fault c.run-in-Group.result
    (run_fault (Tree.group (linked_members (meanings c.args.nodes.now) c.in-Group.members)) c.args.body.now c.args.at c.in-Group.width (group_width c.args.nodes.now c.args.link c.index-nodes-link.result c.requires.table c.requires.link.0 c.requires.link.1 c.index-nodes-link.is c.in-Group.width c.in-Group.members c.in-Group.is) c.run-in-Group.new.notes.fault c.run-in-Group.result c.run-in-Group.ensures.short c.run-in-Group.ensures.fault)

pub walk-returns-in-Part-clause-fault : goal.walk-returns-in-Part-clause-fault
walk-returns-in-Part-clause-fault t c =
    absurd (is_part c.args.nodes.now c.args.link c.index-nodes-link.result c.requires.table c.requires.link.0 c.requires.link.1 c.index-nodes-link.is c.in-Part.width c.in-Part.members c.in-Part.is c.requires.bounds)

pub walk-returns-in-Extended-clause-end : goal.walk-returns-in-Extended-clause-end
walk-returns-in-Extended-clause-end t c =
    end_as c.args.body.now c.args.at (kind_at c.args.nodes.now c.args.link) (Tree.extended c.in-Extended.last (linked_parts (meanings c.args.nodes.now) c.as_slice.result.now)) (is_extended c.args.nodes.now c.args.link c.index-nodes-link.result c.requires.table c.requires.link.0 c.requires.link.1 c.index-nodes-link.is c.in-Extended.last c.in-Extended.parts c.as_slice.result.now c.in-Extended.is c.as_slice.ensures.members) c.walk_parts.new.notes.least c.walk_parts.result c.walk_parts.ensures.end

pub walk-returns-in-Extended-clause-fault : goal.walk-returns-in-Extended-clause-fault
walk-returns-in-Extended-clause-fault t c =
    fault_as c.args.body.now c.args.at (kind_at c.args.nodes.now c.args.link) (Tree.extended c.in-Extended.last (linked_parts (meanings c.args.nodes.now) c.as_slice.result.now)) (is_extended c.args.nodes.now c.args.link c.index-nodes-link.result c.requires.table c.requires.link.0 c.requires.link.1 c.index-nodes-link.is c.in-Extended.last c.in-Extended.parts c.as_slice.result.now c.in-Extended.is c.as_slice.ensures.members) c.walk_parts.new.notes.fault c.walk_parts.result c.walk_parts.ensures.fault

pub walk-returns-in-Counted-clause-end : goal.walk-returns-in-Counted-clause-end
walk-returns-in-Counted-clause-end t c =
    end_as c.args.body.now c.args.at (kind_at c.args.nodes.now c.args.link) (Tree.counted c.in-Counted.counter (kind_at c.args.nodes.now c.in-Counted.inner)) (is_counted c.args.nodes.now c.args.link c.index-nodes-link.result c.requires.table c.requires.link.0 c.requires.link.1 c.index-nodes-link.is c.in-Counted.counter c.in-Counted.inner c.in-Counted.is) c.walk_counted.new.notes.least c.walk_counted.result c.walk_counted.ensures.end

pub walk-returns-in-Counted-clause-fault : goal.walk-returns-in-Counted-clause-fault
walk-returns-in-Counted-clause-fault t c =
    fault_as c.args.body.now c.args.at (kind_at c.args.nodes.now c.args.link) (Tree.counted c.in-Counted.counter (kind_at c.args.nodes.now c.in-Counted.inner)) (is_counted c.args.nodes.now c.args.link c.index-nodes-link.result c.requires.table c.requires.link.0 c.requires.link.1 c.index-nodes-link.is c.in-Counted.counter c.in-Counted.inner c.in-Counted.is) c.walk_counted.new.notes.fault c.walk_counted.result c.walk_counted.ensures.fault

pub walk-returns-in-ByFx-clause-end : goal.walk-returns-in-ByFx-clause-end
walk-returns-in-ByFx-clause-end t c =
    end_as c.args.body.now c.args.at (kind_at c.args.nodes.now c.args.link) (Tree.by_fx (fixed_of (linked (meanings c.args.nodes.now) c.in-ByFx.inner))) (is_by_fx c.args.nodes.now c.args.link c.index-nodes-link.result c.requires.table c.requires.link.0 c.requires.link.1 c.index-nodes-link.is c.in-ByFx.inner c.in-ByFx.is) c.walk_run.new.notes.least c.walk_run.result c.walk_run.ensures.end

pub walk-returns-in-ByFx-clause-fault : goal.walk-returns-in-ByFx-clause-fault
walk-returns-in-ByFx-clause-fault t c =
    fault_as c.args.body.now c.args.at (kind_at c.args.nodes.now c.args.link) (Tree.by_fx (fixed_of (linked (meanings c.args.nodes.now) c.in-ByFx.inner))) (is_by_fx c.args.nodes.now c.args.link c.index-nodes-link.result c.requires.table c.requires.link.0 c.requires.link.1 c.index-nodes-link.is c.in-ByFx.inner c.in-ByFx.is) c.walk_run.new.notes.fault c.walk_run.result c.walk_run.ensures.fault

pub walk-returns-in-Explicit-clause-end : goal.walk-returns-in-Explicit-clause-end
walk-returns-in-Explicit-clause-end t c =
    end_as c.args.body.now c.args.at (kind_at c.args.nodes.now c.args.link) Tree.explicit (is_explicit c.args.nodes.now c.args.link c.index-nodes-link.result c.requires.table c.requires.link.0 c.requires.link.1 c.index-nodes-link.is c.in-Explicit.is) c.walk_explicit.new.notes.least c.walk_explicit.result c.walk_explicit.ensures.end

pub walk-returns-in-Explicit-clause-fault : goal.walk-returns-in-Explicit-clause-fault
walk-returns-in-Explicit-clause-fault t c =
    fault_as c.args.body.now c.args.at (kind_at c.args.nodes.now c.args.link) Tree.explicit (is_explicit c.args.nodes.now c.args.link c.index-nodes-link.result c.requires.table c.requires.link.0 c.requires.link.1 c.index-nodes-link.is c.in-Explicit.is) c.walk_explicit.new.notes.fault c.walk_explicit.result c.walk_explicit.ensures.fault

pub walk-returns-in-Compound-clause-end : goal.walk-returns-in-Compound-clause-end
walk-returns-in-Compound-clause-end t c =
    end_as c.args.body.now c.args.at (kind_at c.args.nodes.now c.args.link) (record_kind_at c.args.nodes.now c.as_slice-in-Compound.result.now) (is_compound c.args.nodes.now c.args.link c.index-nodes-link.result c.requires.table c.requires.link.0 c.requires.link.1 c.index-nodes-link.is c.in-Compound.mask c.in-Compound.slots c.as_slice-in-Compound.result.now c.in-Compound.is c.as_slice-in-Compound.ensures.members) c.walk_compound.new.notes.least c.walk_compound.result c.walk_compound.ensures.end

pub walk-returns-in-Compound-clause-fault : goal.walk-returns-in-Compound-clause-fault
walk-returns-in-Compound-clause-fault t c =
    fault_as c.args.body.now c.args.at (kind_at c.args.nodes.now c.args.link) (record_kind_at c.args.nodes.now c.as_slice-in-Compound.result.now) (is_compound c.args.nodes.now c.args.link c.index-nodes-link.result c.requires.table c.requires.link.0 c.requires.link.1 c.index-nodes-link.is c.in-Compound.mask c.in-Compound.slots c.as_slice-in-Compound.result.now c.in-Compound.is c.as_slice-in-Compound.ensures.members) c.walk_compound.new.notes.fault c.walk_compound.result c.walk_compound.ensures.fault

pub walk_compound-walk_marked-requires : goal.walk_compound-walk_marked-requires
walk_compound-walk_marked-requires t c =
    (omega (arith, c.decreases), (c.requires.table, (record { within = c.requires.slots.within; bounds = slots_bounds c.args.nodes.now c.args.slots.now c.requires.slots.bounds }, (marks_bits c.args.mask.now c.args.start.body.now c.read_presence.new.into c.args.start.at c.in-Ok.here c.in-Ok.ensures.ok, marks_clear (linked_slots (meanings c.args.nodes.now) c.args.slots.now) c.args.mask.now c.args.start.body.now c.read_presence.new.into c.args.start.at c.in-Ok.here c.requires.slots.mask c.in-Ok.ensures.ok))))

pub walk_compound-returns-in-Ok-clause-end : goal.walk_compound-returns-in-Ok-clause-end
walk_compound-returns-in-Ok-clause-end t c =
    compound_end c.args.nodes.now c.args.slots.now c.args.mask.now c.args.start.body.now c.read_presence.new.into c.args.start.at c.in-Ok.here c.are_octets.ensures c.requires.slots.bounds c.requires.slots.mask c.in-Ok.ensures.ok c.note_field.new.notes.least c.walk_marked.new.notes.least c.walk_marked.result c.note_field.ensures.needed c.walk_marked.ensures.falls c.walk_marked.ensures.end

pub walk_compound-returns-in-Ok-clause-fault : goal.walk_compound-returns-in-Ok-clause-fault
walk_compound-returns-in-Ok-clause-fault t c =
    compound_fault c.args.nodes.now c.args.slots.now c.args.mask.now c.args.start.body.now c.read_presence.new.into c.args.start.at c.in-Ok.here c.are_octets.ensures c.requires.slots.bounds c.requires.slots.mask c.in-Ok.ensures.ok c.note_field.new.notes.least c.walk_marked.new.notes.fault c.walk_marked.result c.note_field.ensures.needed c.walk_marked.ensures.fault

pub walk_compound-returns-in-Err-clause-fault : goal.walk_compound-returns-in-Err-clause-fault
walk_compound-returns-in-Err-clause-fault t c =
    record_failed c.args.nodes.now c.args.slots.now c.args.mask.now c.args.start.body.now c.args.start.at c.in-Err.fault c.requires.slots.mask c.in-Err.ensures.err

pub walk_counted-returns-in_default-clause-fault : goal.walk_counted-returns-in_default-clause-fault
walk_counted-returns-in_default-clause-fault t c =
    counted_none c.args.size (kind_at c.args.nodes.now c.args.inner) c.args.start.body.now c.args.start.at c.fail.new.notes.fault c.in_default.ensures.short (ap (λ f. f.cause) c.fail.ensures.fault) (ap (λ f. f.bit) c.fail.ensures.fault)

pub walk_counted-loop-init : goal.walk_counted-loop-init
walk_counted-loop-init t c =
    record { counted = count_first c.args.size (kind_at c.args.nodes.now c.args.inner) c.args.start.body.now c.in-Some.count c.args.start.at c.octets.result c.args.notes.now.least c.in-Some.ensures.count c.octets.ensures; falls = λ t. t }

pub walk_counted-returns-in_err-here-clause-fault : goal.walk_counted-returns-in_err-here-clause-fault
walk_counted-returns-in_err-here-clause-fault t c =
    if_none c.from_residual.result (count_failed c.args.size (kind_at c.args.nodes.now c.args.inner) c.args.start.body.now c.in-Some.count c.loop.counter c.args.start.at c.loop.here c.loop.notes.least c.walk.new.notes.fault c.loop.invariant.counted c.loop-test.true c.in_err-here.ensures.fault)

pub walk_counted-loop-preserved : goal.walk_counted-loop-preserved
walk_counted-loop-preserved t c =
    record {
      counted = count_next c.args.size (kind_at c.args.nodes.now c.args.inner) c.args.start.body.now c.in-Some.count c.loop.counter c.args.start.at c.loop.here c.in_ok-here.here c.loop.notes.least c.walk.new.notes.least c.loop.invariant.counted c.loop-test.true c.walk.ensures.falls c.in_ok-here.ensures.end;
      falls = λ t. c.loop.invariant.falls (c.walk.ensures.falls t);
    }

pub walk_counted-loop-preserved-in-Some-fixed_end : goal.walk_counted-loop-preserved-in-Some-fixed_end
walk_counted-loop-preserved-in-Some-fixed_end t c =
    record {
      counted = count_next c.args.size (kind_at c.args.nodes.now c.args.inner) c.args.start.body.now c.in-Some.count c.loop.counter c.args.start.at c.loop.here c.in-Some-fixed_end.end c.loop.notes.least c.loop.notes.least c.loop.invariant.counted c.loop-test.true (λ t. t) (c.in-Some-fixed_end.ensures c.loop.notes.least);
      falls = c.loop.invariant.falls;
    }

pub walk_counted-returns-clause-end : goal.walk_counted-returns-clause-end
walk_counted-returns-clause-end t c =
    count_last c.args.size (kind_at c.args.nodes.now c.args.inner) c.args.start.body.now c.in-Some.count c.loop.counter c.args.start.at c.loop.here c.loop.notes.least c.loop.invariant.counted c.loop-test.false

pub walk_marked-bounds-slots-slot : goal.walk_marked-bounds-slots-slot
walk_marked-bounds-slots-slot t c =
    (next_marked c.args.nodes.now c.args.slots.now c.loop-slot.left c.take_first.new.self _ c.in-Some.slot c.requires.slots.bounds c.loop-slot.invariant.marked.clear c.loop-slot.invariant.marked.are_bits c.in-Some.ensures.some c.in-Some.ensures.marks).within

pub walk_marked-walk-requires : goal.walk_marked-walk-requires
walk_marked-walk-requires t c =
    let n = next_marked c.args.nodes.now c.args.slots.now c.loop-slot.left c.take_first.new.self _ c.in-Some.slot c.requires.slots.bounds c.loop-slot.invariant.marked.clear c.loop-slot.invariant.marked.are_bits c.in-Some.ensures.some c.in-Some.ensures.marks in
    (omega (arith, greatest_at c.args.slots.now (c.in-Some.slot - 1) 0 n.within, c.decreases), (c.requires.table, ((n.some, within_at (length c.args.nodes.now) c.args.slots.now (c.in-Some.slot - 1) 0 c.requires.slots.within n.within), (n.bounds, (c.args.start.few, c.loop-slot.invariant.marked.within)))))

pub walk_marked-returns-in_err-here-clause-fault : goal.walk_marked-returns-in_err-here-clause-fault
walk_marked-returns-in_err-here-clause-fault t c =
    if_none c.from_residual.result (marks_failed c.args.nodes.now c.args.slots.now c.args.marked c.loop-slot.left c.take_first.new.self c.args.start.body.now c.in-Some.slot c.args.start.at c.loop-slot.here c.loop-slot.notes.least c.loop-slot.invariant.marked (next_marked c.args.nodes.now c.args.slots.now c.loop-slot.left c.take_first.new.self _ c.in-Some.slot c.requires.slots.bounds c.loop-slot.invariant.marked.clear c.loop-slot.invariant.marked.are_bits c.in-Some.ensures.some c.in-Some.ensures.marks) c.walk.new.notes.fault c.in_err-here.ensures.fault)

pub walk_marked-loop-slot-preserved : goal.walk_marked-loop-slot-preserved
walk_marked-loop-slot-preserved t c =
    record {
      marked = marks_next c.args.nodes.now c.args.slots.now c.args.marked c.loop-slot.left c.take_first.new.self c.args.start.body.now c.in-Some.slot c.args.start.at c.loop-slot.here c.loop-slot.notes.least c.loop-slot.invariant.marked (next_marked c.args.nodes.now c.args.slots.now c.loop-slot.left c.take_first.new.self _ c.in-Some.slot c.requires.slots.bounds c.loop-slot.invariant.marked.clear c.loop-slot.invariant.marked.are_bits c.in-Some.ensures.some c.in-Some.ensures.marks) c.in_ok-here.here c.walk.new.notes.least c.walk.ensures.falls c.in_ok-here.ensures.end;
      falls = λ t. c.loop-slot.invariant.falls (c.walk.ensures.falls t);
    }

pub walk_marked-fixed_end-requires-clause-link : goal.walk_marked-fixed_end-requires-clause-link
walk_marked-fixed_end-requires-clause-link t c =
    let n = next_marked c.args.nodes.now c.args.slots.now c.loop-slot.left c.take_first.new.self _ c.in-Some.slot c.requires.slots.bounds c.loop-slot.invariant.marked.clear c.loop-slot.invariant.marked.are_bits c.in-Some.ensures.some c.in-Some.ensures.marks in
    (n.some, within_at (length c.args.nodes.now) c.args.slots.now (c.in-Some.slot - 1) 0 c.requires.slots.within n.within)

pub walk_marked-fixed_end-requires-clause-bounds : goal.walk_marked-fixed_end-requires-clause-bounds
walk_marked-fixed_end-requires-clause-bounds t c =
    let n = next_marked c.args.nodes.now c.args.slots.now c.loop-slot.left c.take_first.new.self _ c.in-Some.slot c.requires.slots.bounds c.loop-slot.invariant.marked.clear c.loop-slot.invariant.marked.are_bits c.in-Some.ensures.some c.in-Some.ensures.marks in n.bounds

pub walk_marked-loop-slot-preserved-in-Some-fixed_end : goal.walk_marked-loop-slot-preserved-in-Some-fixed_end
walk_marked-loop-slot-preserved-in-Some-fixed_end t c =
    record {
      marked = marks_next c.args.nodes.now c.args.slots.now c.args.marked c.loop-slot.left c.take_first.new.self c.args.start.body.now c.in-Some.slot c.args.start.at c.loop-slot.here c.loop-slot.notes.least c.loop-slot.invariant.marked (next_marked c.args.nodes.now c.args.slots.now c.loop-slot.left c.take_first.new.self _ c.in-Some.slot c.requires.slots.bounds c.loop-slot.invariant.marked.clear c.loop-slot.invariant.marked.are_bits c.in-Some.ensures.some c.in-Some.ensures.marks) c.in-Some-fixed_end.end c.loop-slot.notes.least (λ t. t) (c.in-Some-fixed_end.ensures c.loop-slot.notes.least);
      falls = c.loop-slot.invariant.falls;
    }

pub walk_marked-returns-clause-end : goal.walk_marked-returns-clause-end
walk_marked-returns-clause-end t c =
    marks_last (linked_slots (meanings c.args.nodes.now) c.args.slots.now) c.args.marked c.loop-slot.left c.args.start.body.now c.args.start.at c.loop-slot.here c.loop-slot.notes.least c.loop-slot.invariant.marked c.in_default.ensures.none

pub walk-returns-in-Element-clause-falls : goal.walk-returns-in-Element-clause-falls
walk-returns-in-Element-clause-falls t c = λ h. sym c.run.ensures.least ∙ h

pub walk-returns-in-Group-clause-falls : goal.walk-returns-in-Group-clause-falls
walk-returns-in-Group-clause-falls t c = λ h. sym c.run-in-Group.ensures.least ∙ h

pub walk-returns-in-Extended-clause-falls : goal.walk-returns-in-Extended-clause-falls
walk-returns-in-Extended-clause-falls t c = λ h. sym c.walk_parts.ensures.least ∙ h

pub walk-returns-in-ByFx-clause-falls : goal.walk-returns-in-ByFx-clause-falls
walk-returns-in-ByFx-clause-falls t c = λ h. sym c.walk_run.ensures.least ∙ h

pub walk-returns-in-Explicit-clause-falls : goal.walk-returns-in-Explicit-clause-falls
walk-returns-in-Explicit-clause-falls t c = λ h. sym c.walk_explicit.ensures.least ∙ h
