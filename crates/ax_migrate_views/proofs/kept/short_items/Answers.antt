use Rattle.std.proofs.Common.{arith}
use Rattle.ax_relation.specs.PlainMoves.{moves_tree}
use Rattle.ax_migrate_views.proofs.KeptItems.{short_less, short_next}
use Rattle.ax_migrate_views.proofs.kept.short_items.Goals as goal

pub loop-slot-preserved : goal.loop-slot-preserved
loop-slot-preserved c =
    short_next c.args.nodes.now c.args.links.now (moves_tree c.args.moves.now) c.args.lost.now c.loop-slot.slot c.loop-slot.short.items c.push.new.self.items c.lossless_octets.result c.loop-slot.invariant c.in_ok-push.ensures.items
    (λ some. (let own = c.moving_octets-most.ensures (omega (arith, some, c.lossless_octets.ensures.least)) in (c.are_ordered-ordered.ensures own.0, short_less c.args.nodes.now c.args.links.now (moves_tree c.args.moves.now) c.loop-slot.slot c.moving_octets-most.result c.lossless_octets.result c.lossless_octets.ensures.least own.1, c.lossless_octets.ensures.past)))
