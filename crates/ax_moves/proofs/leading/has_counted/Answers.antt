use Rattle.std.proofs.Common.{◌∙◌, ap, arith, length, sym}
use Rattle.ax_moves.proofs.ItemParts.{few_octets}
use Rattle.ax_format.specs.Placed.{has_part}
use Rattle.ax_walk.specs.Shown.{item_value}
use Rattle.ax_moves.proofs.leading.has_counted.Goals as goal

pub returns-then-octets-number-clause-has : goal.returns-then-octets-number-clause-has
returns-then-octets-number-clause-has c = sym (ap (λ o. has_part o (item_value c.args.item.now)) c.in-Some.is ∙ few_octets c.args.item.now c.in-Some.number (omega (arith, ap length c.octets.ensures.body, c.if-octets-number.true)))
