use Rattle.std.proofs.Common.{◌≡◌, ◌-◌, ◌/◌, ◌%◌, length, arith, rules}
use Rattle.ax_bits.specs.Out.{loan, room}
use Rattle.ax_fspec.specs.Fields.{least_field}
use Rattle.ax_moves.proofs.LaidBits.{field_octets, field_fits, begins}
use Rattle.ax_moves.specs.Laying.{Begins}
use Rattle.ax_moves.proofs.laying.spell_field.Goals as goal

pub write_presence-requires : goal.write_presence-requires
write_presence-requires c = field_fits c.args.marked.now (room c.over-out.result) (length c.args.output.now) c.over-out.ensures.room c.requires.room.0

pub returns-clause-begins : goal.returns-clause-begins
returns-clause-begins c =
    let f = field_octets c.args.marked.now in
    let whole : length (least_field c.args.marked.now) % 8 ≡ 0 = omega (arith, f.1) in
    let count : (c.room-before.result - c.room.result) / 8 ≡ (room c.over-out.result - room c.write_presence.new.out) / 8 = λ i. (c.room-before.ensures i - c.room.ensures i) / 8 in
    let h : Begins (least_field c.args.marked.now) ((c.room-before.result - c.room.result) / 8) c.write_presence.new.out.buffer.now =
    begins c.over-out.result c.write_presence.new.out (least_field c.args.marked.now) ((c.room-before.result - c.room.result) / 8) c.over-out.ensures.written whole c.write_presence.ensures count in
    let l : loan c.write_presence.new.out ≡ loan c.over-out.result = c.write_presence.ensures.loan in search rules
