use Rattle.std.proofs.Common.{◌<◌, ◌∙◌, ap, arith, get_or, length, sym}
use Rattle.ax_moves.proofs.BareItems.{only_loses, some_there}
use Rattle.ax_moves.proofs.telling.loses_nothing.Goals as goal

pub returns-in-Some-subitem_slots : goal.returns-in-Some-subitem_slots
returns-in-Some-subitem_slots c sure n =
    let k = c.index-keys-0.result in
    let r = c.in-Some.run'.now in
    let within : c.args.depth < length k.runs.items = omega (arith, c.in-Some.ensures.lookup.3.0, ap length c.deref.ensures.value) in
    let some : 0 < length c.args.keys.now = some_there c.args.keys.now (sym c.is_empty.ensures ∙ c.if-is_empty.false) in
    only_loses c.args.item.now c.args.depth c.args.keys.now k r c.in-Some-subitem_slots.marked c.in-Some-subitem_slots.ensures c.requires.runs some c.index-keys-0.is within
    (c.in-Some.ensures.lookup.1 ∙ ap (λ rs. get_or rs c.args.depth r) c.deref.ensures.value) (c.is_passed.ensures sure) n
