use Rattle.std.proofs.Common.{arith}
use Rattle.ax_bits.proofs.Pieces.{AreOctets-items}
use Rattle.ax_canon.proofs.Pieces.{compound_written, field_room, not_copied, room_following}
use Rattle.ax_format.specs.Canonical.{canon}
use Rattle.ax_fspec.specs.Reading.{kind_read}
use Rattle.ax_codec.specs.Table.{record_kind_at}
use Rattle.ax_walk.proofs.Compounds.{record_failed}
use Rattle.ax_canon.proofs.rewrite.rewrite_field.Goals as goal

pub write_presence-requires : goal.write_presence-requires
write_presence-requires c =
    let codec = c.args.codec.now in
    field_room codec.nodes codec.slots codec.mask c.args.body.now c.read_presence.new.into c.args.at c.in-Ok.here (AreOctets-items c.args.body.now (λ i. (let fits = c.type_inv.body i in omega arith))) codec.records.bounds codec.records.mask c.in-Ok.ensures.ok _ c.requires.room

pub rewrite_items-requires-clause-room : goal.rewrite_items-requires-clause-room
rewrite_items-requires-clause-room c =
    let codec = c.args.codec.now in
    room_following codec.nodes codec.slots codec.mask c.args.body.now c.read_presence.new.into c.args.at c.in-Ok.here (AreOctets-items c.args.body.now (λ i. (let fits = c.type_inv.body i in omega arith))) codec.records.bounds codec.records.mask c.in-Ok.ensures.ok c.args.out.now c.write_presence.new.out c.requires.room c.write_presence.ensures

pub returns-in-Err : goal.returns-in-Err
returns-in-Err c =
    let codec = c.args.codec.now in
    not_copied (canon (record_kind_at codec.nodes codec.slots)) (kind_read (record_kind_at codec.nodes codec.slots) c.args.body.now c.args.at) c.args.body.now c.args.at c.args.out.now c.in-Err.field-0 c.requires.at c.requires.room (record_failed codec.nodes codec.slots codec.mask c.args.body.now c.args.at c.in-Err.field-0 codec.records.mask c.in-Err.ensures.err)

pub returns-in-Ok : goal.returns-in-Ok
returns-in-Ok c =
    let codec = c.args.codec.now in
    compound_written codec.nodes codec.slots codec.mask c.args.body.now c.read_presence.new.into c.args.at c.in-Ok.here (AreOctets-items c.args.body.now (λ i. (let fits = c.type_inv.body i in omega arith))) codec.records.bounds codec.records.mask c.in-Ok.ensures.ok c.rewrite_items.result c.args.out.now c.write_presence.new.out c.rewrite_items.new.out c.write_presence.ensures c.rewrite_items.ensures
