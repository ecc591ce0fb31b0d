use Rattle.std.proofs.Common.{◌-◌, length, arith, refl, sym, subst}
use Rattle.ax_bits.proofs.Pieces.{AreOctets-items}
use Rattle.ax_canon.proofs.Fronting.{count_next, count_last, marks_next, marks_last}
use Rattle.ax_canon.proofs.Pieces.{not_copied, as_kind, no_count, count_first, field_room, room_following, compound_written}
use Rattle.ax_format.specs.Canonical.{canon}
use Rattle.ax_format.specs.InBounds.{InBounds}
use Rattle.ax_format.specs.Tree as Tree
use Rattle.ax_codec.specs.Meaning.{meanings, linked_slots}
use Rattle.ax_codec.specs.Table.{kind_at, record_kind_at}
use Rattle.ax_fspec.proofs.Marking.{marks_bits}
use Rattle.ax_fspec.specs.Reading.{kind_read}
use Rattle.ax_walk.proofs.Compounds.{marks_clear, slots_bounds, record_failed}
use Rattle.ax_walk.proofs.MarkedSteps.{next_marked, greatest_at, within_at}
use Rattle.ax_walk.proofs.NodeKinds.{is_element, is_group, is_part, is_extended, is_counted, counted_link, is_by_fx, is_explicit, is_compound, compound_links, compound_mask, compound_falls}
use Rattle.ax_walk.specs.Plain.{IsPlain}
use Rattle.ax_canon.proofs.rewrite.+rewrite.Goals as goal

pub rewrite-rewrite_counted-requires : goal.rewrite-rewrite_counted-requires
rewrite-rewrite_counted-requires t c =
    let l = counted_link c.args.nodes.now c.args.link c.index-nodes-link.result c.requires.table c.requires.link.0 c.requires.link.1 c.index-nodes-link.is c.in-Counted.counter c.in-Counted.inner c.in-Counted.is in
    let b : InBounds (Tree.counted c.in-Counted.counter (kind_at c.args.nodes.now c.in-Counted.inner)) = subst InBounds (is_counted c.args.nodes.now c.args.link c.index-nodes-link.result c.requires.table c.requires.link.0 c.requires.link.1 c.index-nodes-link.is c.in-Counted.counter c.in-Counted.inner c.in-Counted.is) c.requires.bounds in
    (omega (arith, l.1, c.decreases), (c.requires.table, ((l.0, omega (arith, l.1, c.requires.link.1)), (b, (c.requires.body, (c.requires.at, c.requires.room))))))

pub rewrite-rewrite_compound-requires : goal.rewrite-rewrite_compound-requires
rewrite-rewrite_compound-requires t c =
    let b : InBounds (record_kind_at c.args.nodes.now c.as_slice-links.result.now) = subst InBounds (is_compound c.args.nodes.now c.args.link c.index-nodes-link.result c.requires.table c.requires.link.0 c.requires.link.1 c.index-nodes-link.is c.in-Compound.mask c.in-Compound.slots c.as_slice-links.result.now c.in-Compound.is c.as_slice-links.ensures.members) c.requires.bounds in
    let falls = compound_falls c.args.nodes.now c.args.link c.index-nodes-link.result c.requires.table c.requires.link.0 c.requires.link.1 c.index-nodes-link.is c.in-Compound.mask c.in-Compound.slots c.as_slice-links.result.now c.in-Compound.is c.as_slice-links.ensures.members in
    (omega (arith, falls, c.decreases), (c.requires.table, (compound_links c.args.nodes.now c.args.link c.index-nodes-link.result c.requires.table c.requires.link.0 c.requires.link.1 c.index-nodes-link.is c.in-Compound.mask c.in-Compound.slots c.as_slice-links.result.now c.in-Compound.is c.as_slice-links.ensures.members, (compound_mask c.args.nodes.now c.args.link c.index-nodes-link.result c.requires.table c.requires.link.0 c.requires.link.1 c.index-nodes-link.is c.in-Compound.mask c.in-Compound.slots c.as_slice-links.result.now c.in-Compound.is c.as_slice-links.ensures.members, (b, (c.requires.body, (c.requires.at, c.requires.room)))))))

pub rewrite-copy-requires-clause-plain : goal.rewrite-copy-requires-clause-plain
rewrite-copy-requires-clause-plain t c =
    subst IsPlain (sym (is_element c.args.nodes.now c.args.link c.index-nodes-link.result c.requires.table c.requires.link.0 c.requires.link.1 c.index-nodes-link.is c.in-Element.width c.in-Element.is)) tt

pub rewrite-copy-requires-in-Group-clause-plain : goal.rewrite-copy-requires-in-Group-clause-plain
rewrite-copy-requires-in-Group-clause-plain t c =
    subst IsPlain (sym (is_group c.args.nodes.now c.args.link c.index-nodes-link.result c.requires.table c.requires.link.0 c.requires.link.1 c.index-nodes-link.is c.in-Group.width c.in-Group.members c.in-Group.is)) tt

pub rewrite-copy-requires-in-Extended-clause-plain : goal.rewrite-copy-requires-in-Extended-clause-plain
rewrite-copy-requires-in-Extended-clause-plain t c =
    subst IsPlain (sym (is_extended c.args.nodes.now c.args.link c.index-nodes-link.result c.requires.table c.requires.link.0 c.requires.link.1 c.index-nodes-link.is c.in-Extended.last c.in-Extended.parts c.in-Extended.parts c.in-Extended.is refl)) tt

pub rewrite-copy-requires-in-ByFx-clause-plain : goal.rewrite-copy-requires-in-ByFx-clause-plain
rewrite-copy-requires-in-ByFx-clause-plain t c =
    subst IsPlain (sym (is_by_fx c.args.nodes.now c.args.link c.index-nodes-link.result c.requires.table c.requires.link.0 c.requires.link.1 c.index-nodes-link.is c.in-ByFx.inner c.in-ByFx.is)) tt

pub rewrite-copy-requires-in-Explicit-clause-plain : goal.rewrite-copy-requires-in-Explicit-clause-plain
rewrite-copy-requires-in-Explicit-clause-plain t c =
    subst IsPlain (sym (is_explicit c.args.nodes.now c.args.link c.index-nodes-link.result c.requires.table c.requires.link.0 c.requires.link.1 c.index-nodes-link.is c.in-Explicit.is)) tt

pub rewrite-returns-in-Counted : goal.rewrite-returns-in-Counted
rewrite-returns-in-Counted t c =
    as_kind (kind_at c.args.nodes.now c.args.link) (Tree.counted c.in-Counted.counter (kind_at c.args.nodes.now c.in-Counted.inner)) c.args.body.now c.args.at c.rewrite_counted.result c.args.out.now c.rewrite_counted.new.out (is_counted c.args.nodes.now c.args.link c.index-nodes-link.result c.requires.table c.requires.link.0 c.requires.link.1 c.index-nodes-link.is c.in-Counted.counter c.in-Counted.inner c.in-Counted.is) c.rewrite_counted.ensures

pub rewrite-returns-in-Compound : goal.rewrite-returns-in-Compound
rewrite-returns-in-Compound t c =
    as_kind (kind_at c.args.nodes.now c.args.link) (record_kind_at c.args.nodes.now c.as_slice-links.result.now) c.args.body.now c.args.at c.rewrite_compound.result c.args.out.now c.rewrite_compound.new.out (is_compound c.args.nodes.now c.args.link c.index-nodes-link.result c.requires.table c.requires.link.0 c.requires.link.1 c.index-nodes-link.is c.in-Compound.mask c.in-Compound.slots c.as_slice-links.result.now c.in-Compound.is c.as_slice-links.ensures.members) c.rewrite_compound.ensures

pub rewrite-returns-in-Part : goal.rewrite-returns-in-Part
rewrite-returns-in-Part t c =
    absurd (is_part c.args.nodes.now c.args.link c.index-nodes-link.result c.requires.table c.requires.link.0 c.requires.link.1 c.index-nodes-link.is c.in-Part.width c.in-Part.members c.in-Part.is c.requires.bounds)

pub rewrite_compound-write_presence-requires : goal.rewrite_compound-write_presence-requires
rewrite_compound-write_presence-requires t c =
    field_room c.args.nodes.now c.args.slots.links.now c.args.slots.mask.now c.args.body.now c.read_presence.new.into c.args.at c.in-Ok.begin (AreOctets-items c.args.body.now (λ i. (let fits = c.type_inv.body i in omega arith))) c.requires.bounds c.requires.mask c.in-Ok.ensures.ok _ c.requires.room

pub rewrite_compound-rewrite_marked-requires : goal.rewrite_compound-rewrite_marked-requires
rewrite_compound-rewrite_marked-requires t c =
    (omega (arith, c.decreases), (c.requires.table, (c.requires.links, (slots_bounds c.args.nodes.now c.args.slots.links.now c.requires.bounds, (marks_bits c.args.slots.mask.now c.args.body.now c.read_presence.new.into c.args.at c.in-Ok.begin c.in-Ok.ensures.ok, (marks_clear (linked_slots (meanings c.args.nodes.now) c.args.slots.links.now) c.args.slots.mask.now c.args.body.now c.read_presence.new.into c.args.at c.in-Ok.begin c.requires.mask c.in-Ok.ensures.ok, (c.requires.body, (c.in-Ok.ensures.ok.within, room_following c.args.nodes.now c.args.slots.links.now c.args.slots.mask.now c.args.body.now c.read_presence.new.into c.args.at c.in-Ok.begin (AreOctets-items c.args.body.now (λ i. (let fits = c.type_inv.body i in omega arith))) c.requires.bounds c.requires.mask c.in-Ok.ensures.ok c.args.out.now c.write_presence.new.out c.requires.room c.write_presence.ensures))))))))

pub rewrite_compound-returns-in-Err : goal.rewrite_compound-returns-in-Err
rewrite_compound-returns-in-Err t c =
    not_copied (canon (record_kind_at c.args.nodes.now c.args.slots.links.now)) (kind_read (record_kind_at c.args.nodes.now c.args.slots.links.now) c.args.body.now c.args.at) c.args.body.now c.args.at c.args.out.now c.in-Err.field-0 c.requires.at c.requires.room (record_failed c.args.nodes.now c.args.slots.links.now c.args.slots.mask.now c.args.body.now c.args.at c.in-Err.field-0 c.requires.mask c.in-Err.ensures.err)

pub rewrite_compound-returns-in-Ok : goal.rewrite_compound-returns-in-Ok
rewrite_compound-returns-in-Ok t c =
    compound_written c.args.nodes.now c.args.slots.links.now c.args.slots.mask.now c.args.body.now c.read_presence.new.into c.args.at c.in-Ok.begin (AreOctets-items c.args.body.now (λ i. (let fits = c.type_inv.body i in omega arith))) c.requires.bounds c.requires.mask c.in-Ok.ensures.ok c.rewrite_marked.result c.args.out.now c.write_presence.new.out c.rewrite_marked.new.out c.write_presence.ensures c.rewrite_marked.ensures

pub rewrite_counted-returns-in_default : goal.rewrite_counted-returns-in_default
rewrite_counted-returns-in_default t c =
    no_count c.args.kind.counter (kind_at c.args.nodes.now c.args.kind.inner) c.args.body.now c.args.at c.args.out.now c.in_default.ensures.short c.requires.at c.requires.room

pub rewrite_counted-loop-init : goal.rewrite_counted-loop-init
rewrite_counted-loop-init t c =
    count_first c.args.kind.counter (kind_at c.args.nodes.now c.args.kind.inner) c.args.body.now c.in-Some.count c.args.at c.args.out.now c.push_octets.new.self c.in-Some.ensures.count c.requires.room c.octets.result c.octets.ensures c.push_octets.ensures

pub rewrite_counted-rewrite-here-requires : goal.rewrite_counted-rewrite-here-requires
rewrite_counted-rewrite-here-requires t c =
    (omega (arith, c.decreases), (c.requires.table, (c.requires.link, (c.requires.bounds, (c.requires.body, (c.loop.invariant.writes.within, c.loop.invariant.writes.room))))))

pub rewrite_counted-loop-preserved : goal.rewrite_counted-loop-preserved
rewrite_counted-loop-preserved t c =
    count_next c.args.kind.counter (kind_at c.args.nodes.now c.args.kind.inner) c.args.body.now c.in-Some.count c.loop.counter c.args.at c.loop.here c.rewrite-here.result c.args.out.now c.loop.out c.rewrite-here.new.out c.loop.invariant c.loop-test.true c.rewrite-here.ensures

pub rewrite_counted-returns : goal.rewrite_counted-returns
rewrite_counted-returns t c =
    count_last c.args.kind.counter (kind_at c.args.nodes.now c.args.kind.inner) c.args.body.now c.in-Some.count c.loop.counter c.args.at c.loop.here c.args.out.now c.loop.out c.loop.invariant c.loop-test.false

pub rewrite_marked-bounds-slots-slot : goal.rewrite_marked-bounds-slots-slot
rewrite_marked-bounds-slots-slot t c =
    (next_marked c.args.nodes.now c.args.slots.now c.loop-slot.left c.take_first.new.self _ c.in-Some.slot c.requires.bounds c.loop-slot.invariant.clear c.loop-slot.invariant.are_bits c.in-Some.ensures.some c.in-Some.ensures.marks).within

pub rewrite_marked-rewrite-here-requires : goal.rewrite_marked-rewrite-here-requires
rewrite_marked-rewrite-here-requires t c =
    let n = next_marked c.args.nodes.now c.args.slots.now c.loop-slot.left c.take_first.new.self _ c.in-Some.slot c.requires.bounds c.loop-slot.invariant.clear c.loop-slot.invariant.are_bits c.in-Some.ensures.some c.in-Some.ensures.marks in
    (omega (arith, greatest_at c.args.slots.now (c.in-Some.slot - 1) 0 n.within, c.decreases), (c.requires.table, ((n.some, within_at (length c.args.nodes.now) c.args.slots.now (c.in-Some.slot - 1) 0 c.requires.links n.within), (n.bounds, (c.requires.body, (c.loop-slot.invariant.writes.within, c.loop-slot.invariant.writes.room))))))

pub rewrite_marked-loop-slot-preserved : goal.rewrite_marked-loop-slot-preserved
rewrite_marked-loop-slot-preserved t c =
    marks_next c.args.nodes.now c.args.slots.now c.args.items.marked c.loop-slot.left c.take_first.new.self c.args.body.now c.in-Some.slot c.args.items.begin c.loop-slot.here c.rewrite-here.result c.args.out.now c.loop-slot.out c.rewrite-here.new.out (next_marked c.args.nodes.now c.args.slots.now c.loop-slot.left c.take_first.new.self _ c.in-Some.slot c.requires.bounds c.loop-slot.invariant.clear c.loop-slot.invariant.are_bits c.in-Some.ensures.some c.in-Some.ensures.marks) c.rewrite-here.ensures c.loop-slot.invariant

pub rewrite_marked-returns : goal.rewrite_marked-returns
rewrite_marked-returns t c =
    marks_last (linked_slots (meanings c.args.nodes.now) c.args.slots.now) c.args.items.marked c.loop-slot.left c.args.body.now c.args.items.begin c.loop-slot.here c.args.out.now c.loop-slot.out c.loop-slot.invariant c.in_default.ensures.none
