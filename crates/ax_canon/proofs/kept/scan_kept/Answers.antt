use Rattle.std.proofs.Common.{◌≡◌, ◌-◌, ◌/◌, rules}
use Rattle.ax_bits.specs.Out.{room}
use Rattle.ax_canon.proofs.KeptRecords.{some_kept}
use Rattle.ax_canon.proofs.kept.scan_kept.Goals as goal

pub returns-clause-kept : goal.returns-clause-kept
returns-clause-kept g c =
    let count : (c.room-before.result - c.room.result) / 8 ≡ (room c.args.out.now - room c.write_kept.new.out) / 8 = λ i. (c.room-before.ensures i - c.room.ensures i) / 8 in
    some_kept (g.K.Keep.says c.args.keep.now) c.args.records.now.codec.now c.args.body.now c.args.out.now c.write_kept.new.out c.set_length.new.out ((c.room-before.result - c.room.result) / 8) c.requires.empty count c.set_length.ensures c.in_ok-some.some (search rules) c.in_ok-some.ensures.kept
