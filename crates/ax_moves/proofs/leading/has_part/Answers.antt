use Rattle.std.proofs.Common.{◌∙◌, ap, arith, length, sym}
use Rattle.ax_moves.proofs.ItemParts.{few_octets, parts_first}
use Rattle.ax_format.specs.Placed.{has_part}
use Rattle.ax_walk.specs.Left.{parts_left}
use Rattle.ax_walk.specs.Shown.{item_value}
use Rattle.ax_moves.proofs.leading.has_part.Goals as goal

pub loop-later-init : goal.loop-later-init
loop-later-init c = parts_first c.args.item.now c.in-Some.number (parts_left c.parts-later.result) c.parts-later.ensures

pub returns-then-octets-number : goal.returns-then-octets-number
returns-then-octets-number c = sym (ap (λ o. has_part o (item_value c.args.item.now)) c.in-Some.is ∙ few_octets c.args.item.now c.in-Some.number (omega (arith, ap length c.octets.ensures.body, c.if-octets-number.true)))
