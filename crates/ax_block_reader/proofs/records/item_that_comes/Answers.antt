use Rattle.std.proofs.Common.{rules, ◌≡◌, Some, refl}
use Rattle.ax_format.specs.Lookup.{item_of_slot}
use Rattle.ax_block_reader.proofs.RecordWays.{other_comes}
use Rattle.ax_text_form.proofs.SlotTrees.{item_there, name_there}
use Rattle.ax_block_reader.proofs.records.item_that_comes.Goals as goal

pub returns-then-ne-clause-found : goal.returns-then-ne-clause-found
returns-then-ne-clause-found c =
    let other : c.in_ok-token.token.now.text.now ≡ c.octets-wanted.result.now → ⊥ = search rules in
    (refl, other_comes c.args.items.now.spec.now.items c.args.slot.now c.in-Item.name c.octets-wanted.result.now c.in_ok-token.token.now.text.now c.args.reader.now c.in-Item.is c.octets-wanted.ensures.octets c.in_ok-token.ensures.next other)

pub returns-clause-found : goal.returns-clause-found
returns-clause-found c =
    let same : c.in_ok-token.token.now.text.now ≡ c.octets-wanted.result.now = search rules in
    let found : item_of_slot (Some c.args.slot.now) c.args.items.now.spec.now.items ≡ Some c.in-Some.item.now = search rules in
    (item_there c.args.items.now.spec.now.items c.args.slot.now c.in-Some.item.now found, name_there c.args.items.now.spec.now.items c.args.slot.now c.in-Some.item.now c.in-Item.name c.octets-wanted.result.now c.in_ok-token.token.now.text.now c.args.reader.now c.skip.new.self c.in-Item.is c.octets-wanted.ensures.octets found c.in_ok-token.ensures.next same c.skip.ensures)
