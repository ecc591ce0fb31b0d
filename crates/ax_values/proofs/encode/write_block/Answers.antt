use Rattle.std.proofs.Common.{arith, ap, length, subst}
use Rattle.ax_bits.specs.Bits.{bits, AreOctets}
use Rattle.ax_bits.specs.Out.{Appends, room}
use Rattle.ax_format.specs.CanonicalOctets.{framed}
use Rattle.ax_values.proofs.WrittenBlocks.{body_room, front_room, read_written, read_are_octets, opaque_few, opaque_room, of_opaque, octets_of_opaque}
use Rattle.ax_values.proofs.encode.write_block.Goals as goal

pub write_front-requires : goal.write_front-requires
write_front-requires c = omega (arith, c.requires.room, front_room c.args.items.now.spec.now c.args.block.now)

pub write_body-requires-clause-room : goal.write_body-requires-clause-room
write_body-requires-clause-room c =
    body_room c.args.items.now.spec.now c.args.block.now c.in-Read.category c.in-Read.records c.requires.no_flaw c.requires.block_fits c.in-Read.is c.args.out.now c.write_front.new.out c.args.length c.requires.length c.requires.room c.write_front.ensures.written

pub returns-in-Read-clause-written : goal.returns-in-Read-clause-written
returns-in-Read-clause-written c =
    read_written c.args.items.now.spec.now c.args.block.now c.in-Read.category c.in-Read.records c.requires.no_flaw c.requires.block_fits c.in-Read.is c.args.out.now c.write_front.new.out c.write_body.new.out c.args.length c.requires.length c.write_front.ensures.written c.write_body.ensures

pub returns-in-Read-clause-octets : goal.returns-in-Read-clause-octets
returns-in-Read-clause-octets c =
    read_are_octets c.args.items.now.spec.now c.args.block.now c.in-Read.category c.in-Read.records c.requires.no_flaw c.requires.block_fits c.in-Read.is c.write_front.ensures.octet

pub write_opaque-requires-clause-few : goal.write_opaque-requires-clause-few
write_opaque-requires-clause-few c =
    omega (arith, ap length c.as_slice.ensures.members, opaque_few c.args.items.now.spec.now c.args.block.now c.in-Opaque.category c.in-Opaque.octets c.in-Opaque.is c.args.length c.requires.length (omega (arith, c.ranges.length.fits)))

pub write_opaque-requires-clause-room : goal.write_opaque-requires-clause-room
write_opaque-requires-clause-room c =
    omega (arith, ap length c.as_slice.ensures.members, opaque_room c.args.items.now.spec.now c.args.block.now c.in-Opaque.category c.in-Opaque.octets c.in-Opaque.is (room c.args.out.now) c.requires.room)

pub returns-in-Opaque-clause-written : goal.returns-in-Opaque-clause-written
returns-in-Opaque-clause-written c =
    of_opaque c.args.items.now.spec.now c.args.block.now c.in-Opaque.category c.in-Opaque.octets c.in-Opaque.is c.args.out.now c.write_opaque.new.out
    (subst (λ xs. Appends c.args.out.now c.write_opaque.new.out (bits (framed c.in-Opaque.category xs))) c.as_slice.ensures.members c.write_opaque.ensures.written)

pub returns-in-Opaque-clause-octets : goal.returns-in-Opaque-clause-octets
returns-in-Opaque-clause-octets c =
    octets_of_opaque c.args.items.now.spec.now c.args.block.now c.in-Opaque.category c.in-Opaque.octets c.in-Opaque.is (subst (λ xs. AreOctets (framed c.in-Opaque.category xs)) c.as_slice.ensures.members c.write_opaque.ensures.octets)
