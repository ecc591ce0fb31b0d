use Rattle.std.proofs.Common.{rules, ◌≡◌, Some}
use Rattle.std.proofs.lemmas.Result.{err_from_is_err_and}
use Rattle.ax_format.specs.Lookup.{item_of_frn}
use Rattle.ax_fspec.specs.Reading.{slot_of_frn}
use Rattle.ax_values.proofs.KindWays.{item_is, bounds_there, slot_failed, slot_wants, slot_read}
use Rattle.ax_values.proofs.records.decode_item.Goals as goal

pub decode_value-requires-clause-bounds : goal.decode_value-requires-clause-bounds
decode_value-requires-clause-bounds c =
    let found : item_of_frn c.args.frn c.args.spec.now.uap c.args.spec.now.items ≡ Some c.in-Some.item.now = search rules in
    bounds_there _ _ _ (item_is c.args.spec.now c.args.frn c.in-Some.item.now found) c.requires.bounds

pub returns-in_err-value-clause-err : goal.returns-in_err-value-clause-err
returns-in_err-value-clause-err c =
    let p = err_from_is_err_and c.from_residual.result c.from_residual.ensures.1 in
    let found : item_of_frn c.args.frn c.args.spec.now.uap c.args.spec.now.items ≡ Some c.in-Some.item.now = search rules in
    rw (p.1, p.2) (slot_failed (slot_of_frn c.args.frn c.args.spec.now) _ _ c.args.from.body.now c.args.from.at _ (item_is c.args.spec.now c.args.frn c.in-Some.item.now found) c.in_err-value.ensures.err)

pub returns-in_err-push-clause-err : goal.returns-in_err-push-clause-err
returns-in_err-push-clause-err c =
    let p = err_from_is_err_and c.from_residual-in_err-push.result c.from_residual-in_err-push.ensures.1 in
    let found : item_of_frn c.args.frn c.args.spec.now.uap c.args.spec.now.items ≡ Some c.in-Some.item.now = search rules in
    rw p.1 (slot_wants (slot_of_frn c.args.frn c.args.spec.now) _ _ c.args.from.body.now c.args.from.at _ (item_is c.args.spec.now c.args.frn c.in-Some.item.now found) p.2)

pub returns-clause-ok : goal.returns-clause-ok
returns-clause-ok c =
    let found : item_of_frn c.args.frn c.args.spec.now.uap c.args.spec.now.items ≡ Some c.in-Some.item.now = search rules in
    slot_read (slot_of_frn c.args.frn c.args.spec.now) _ _ c.args.frn c.in_ok-value.value c.args.from.body.now c.args.from.at _ _ _ (item_is c.args.spec.now c.args.frn c.in-Some.item.now found) c.in_ok-value.ensures.ok c.in_ok-push.ensures.ok
