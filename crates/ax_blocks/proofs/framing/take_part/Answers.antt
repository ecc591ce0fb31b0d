use Rattle.std.proofs.Common.{◌-◌, arith}
use Rattle.ax_blocks.proofs.Parts.{IsWanted, wants_past, wants_all, part_octets, part_taken, part_cut, part_past}
use Rattle.ax_blocks.proofs.framing.take_part.Goals as goal
use Rattle.ax_blocks.proofs.framing.take_part.Goals.{then-room-needed, else-room-needed}

pub returns-clause-means : goal.returns-clause-means
returns-clause-means g c =
    let w : IsWanted c.args.needed c.args.room c.if-room-needed.wanted
    = elim c.if-room-needed.branch [ then-room-needed w ↦ wants_past c.args.needed c.args.room _ w.if-room-needed.true w.wanted-is | else-room-needed w ↦ wants_all c.args.needed c.args.room _ w.if-room-needed.false w.wanted-is ] in
    let are = part_octets c.args.buffer.now c.fill.new.buffer c.args.buffered (c.if-room-needed.wanted - c.args.buffered) (λ i. let fits = c.type_inv.buffer i in omega (arith, fits)) in
    part_taken _ _ _ _ c.args.buffer.now c.fill.new.buffer c.args.buffered c.args.needed c.args.room c.if-room-needed.wanted c.in-Ok.count are (omega arith) w (omega (arith, c.fill.auto.buffer)) c.in-Ok.ensures.room c.in-Ok.ensures.gives c.in-Ok.ensures.number (omega arith) c.requires.buffered c.requires.in_room c.in-Ok.ensures.end

pub returns-in_default-clause-means : goal.returns-in_default-clause-means
returns-in_default-clause-means g c =
    let w : IsWanted c.args.needed c.args.room c.if-room-needed.wanted
    = elim c.if-room-needed.branch [ then-room-needed w ↦ wants_past c.args.needed c.args.room _ w.if-room-needed.true w.wanted-is | else-room-needed w ↦ wants_all c.args.needed c.args.room _ w.if-room-needed.false w.wanted-is ] in
    let are = part_octets c.args.buffer.now c.fill.new.buffer c.args.buffered (c.if-room-needed.wanted - c.args.buffered) (λ i. let fits = c.type_inv.buffer i in omega (arith, fits)) in
    let front = c.in_default.ensures.front in
    part_cut _ _ _ _ c.fill.new.buffer c.args.buffered c.args.needed c.args.room c.if-room-needed.wanted front.0 are w (omega (arith, c.fill.auto.buffer)) c.requires.buffered c.requires.in_room front.1 front.2 front.3

pub returns-then-buffered-room-clause-means : goal.returns-then-buffered-room-clause-means
returns-then-buffered-room-clause-means g c =
    let w : IsWanted c.args.needed c.args.room c.if-room-needed.wanted
    = elim c.if-room-needed.branch [ then-room-needed w ↦ wants_past c.args.needed c.args.room _ w.if-room-needed.true w.wanted-is | else-room-needed w ↦ wants_all c.args.needed c.args.room _ w.if-room-needed.false w.wanted-is ] in
    let are = part_octets c.args.buffer.now c.fill.new.buffer c.args.buffered (c.if-room-needed.wanted - c.args.buffered) (λ i. let fits = c.type_inv.buffer i in omega (arith, fits)) in
    part_past _ _ _ _ c.fill.new.buffer c.args.buffered c.args.needed c.args.room c.if-room-needed.wanted c.in-Ok.count are w (omega (arith, c.fill.auto.buffer)) c.requires.buffered c.requires.in_room c.in-Ok.ensures.room c.if-buffered-room.true c.in-Ok.ensures.gives c.in-Ok.ensures.number
