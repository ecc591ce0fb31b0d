use Rattle.std.proofs.Common.{◌≡◌, ◌∙◌, ◌-◌, ◌<◌, length, Some, sym, ap, arith}
use Rattle.std.specs.List.{slice_get}
use Rattle.std.proofs.lemmas.Option.{slice_get-get_or}
use Rattle.ax_uap.proofs.Found.{item_at}
use Rattle.ax_uap.proofs.items.UapItems.item.Goals as goal

-- src/items.rt:74:5
pub returns : goal.returns
returns c =
    let one = c.args.self.now in
    let some : 0 < c.args.frn = omega (arith, c.if-frn-eq0.false) in
    let within : c.args.frn - 1 < length one.places.items = omega (arith, some, c.if-frn-len.false, c.len.ensures, one.places.ok) in
    let place : slice_get one.places.items (c.args.frn - 1) ≡ Some c.index.result.now
    = slice_get-get_or one.places.items (c.args.frn - 1) c.index.result.now within ∙ ap Some (sym c.index.ensures) in
    c.get.ensures.value ∙ item_at c.args.frn c.index.result.now one.spec.now.uap one.spec.now.items some (ap (λ xs. slice_get xs (c.args.frn - 1)) (sym one.found) ∙ place)
