use Rattle.std.proofs.Common.{◌≡◌, ◌-◌, ◌/◌, rules}
use Rattle.ax_bits.specs.Out.{loan, room}
use Rattle.ax_moves.proofs.LaidBits.{item_octets, begins}
use Rattle.ax_moves.specs.Laying.{Begins}
use Rattle.ax_format.specs.Canonical.{canon}
use Rattle.ax_walk.specs.Shown.{item_kind, item_value}
use Rattle.ax_moves.proofs.laying.spell_item.Goals as goal

pub returns-clause-begins : goal.returns-clause-begins
returns-clause-begins c =
    let b = canon (item_kind c.args.item.now) (item_value c.args.item.now) in
    let count : (c.room-before.result - c.room.result) / 8 ≡ (room c.over-out.result - room c.canonical_item.new.out) / 8 = λ i. (c.room-before.ensures i - c.room.ensures i) / 8 in
    let h : Begins b ((c.room-before.result - c.room.result) / 8) c.canonical_item.new.out.buffer.now =
    begins c.over-out.result c.canonical_item.new.out b ((c.room-before.result - c.room.result) / 8) c.over-out.ensures.written (item_octets c.args.item.now c.requires.whole) c.canonical_item.ensures count in
    let l : loan c.canonical_item.new.out ≡ loan c.over-out.result = c.canonical_item.ensures.loan in search rules
