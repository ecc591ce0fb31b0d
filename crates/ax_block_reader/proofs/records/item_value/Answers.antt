use Rattle.std.proofs.Common.{inr, map}
use Rattle.std.proofs.lemmas.Result.{err_from_is_err_and}
use Rattle.ax_format.specs.Plain.{item_tree, value_tree}
use Rattle.ax_format.specs.Specification.{uap_slot}
use Rattle.ax_block_reader.proofs.RecordWays.{item_way, item_is_read}
use Rattle.ax_block_reader.proofs.records.item_value.Goals as goal

pub returns-in_err-value-clause-gives : goal.returns-in_err-value-clause-gives
returns-in_err-value-clause-gives c =
    let p = err_from_is_err_and c.from_residual-in_err-value.result c.from_residual-in_err-value.ensures.1 in
    let found = rw c.in-Some.is at c.in_ok-item.ensures.found in
    rw (p.1, p.2) (inr (item_way (uap_slot (map item_tree c.args.items.now.spec.now.items) c.args.slot.now) c.in-Some.item.now _ _ _ _ found.0 found.1 c.in_err-value.ensures.gives))

pub returns-clause-gives : goal.returns-clause-gives
returns-clause-gives c =
    let found = rw c.in-Some.is at c.in_ok-item.ensures.found in
    item_is_read (uap_slot (map item_tree c.args.items.now.spec.now.items) c.args.slot.now) c.in-Some.item.now (value_tree c.in_ok-value.value) _ _ _ found.0 found.1 c.in_ok-value.ensures.gives
