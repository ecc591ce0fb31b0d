use Rattle.std.proofs.Common.{◌≤◌, length, subst, sym}
use Rattle.ax_bits.specs.Out.{Appends, room}
use Rattle.ax_format.specs.Plain.{value_tree}
use Rattle.ax_values.proofs.WrittenRecords.{item_bounds, item_shape, item_canon, no_item}
use Rattle.ax_values.proofs.write_records.write_item.Goals as goal

pub write_value-requires-clause-bounds : goal.write_value-requires-clause-bounds
write_value-requires-clause-bounds c = item_bounds c.args.items.now.spec.now c.args.entry.now.slot c.in-Some.item.now (value_tree c.args.entry.now.value) c.in-Some.ensures c.requires.shape

pub write_value-requires-clause-shape : goal.write_value-requires-clause-shape
write_value-requires-clause-shape c = item_shape c.args.items.now.spec.now c.args.entry.now.slot c.in-Some.item.now (value_tree c.args.entry.now.value) c.in-Some.ensures c.requires.shape

pub write_value-requires-clause-room : goal.write_value-requires-clause-room
write_value-requires-clause-room c =
    subst (λ b. length b ≤ room c.args.out.now) (item_canon c.args.items.now.spec.now c.args.entry.now.slot c.in-Some.item.now (value_tree c.args.entry.now.value) c.in-Some.ensures) c.requires.room

pub returns-in-Some : goal.returns-in-Some
returns-in-Some c =
    subst (λ b. Appends c.args.out.now c.write_value.new.out b) (sym (item_canon c.args.items.now.spec.now c.args.entry.now.slot c.in-Some.item.now (value_tree c.args.entry.now.value) c.in-Some.ensures)) c.write_value.ensures

pub returns-in_default : goal.returns-in_default
returns-in_default c = absurd (no_item c.args.items.now.spec.now c.args.entry.now.slot (value_tree c.args.entry.now.value) c.in_default.ensures c.requires.shape)
