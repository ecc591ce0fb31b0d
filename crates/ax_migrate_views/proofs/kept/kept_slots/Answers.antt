use Rattle.ax_migrate_views.proofs.KeptRecords.{keeps_by}
use Rattle.ax_migrate_views.proofs.kept.kept_slots.Goals as goal

pub returns : goal.returns
returns c =
    keeps_by c.args.codec.now c.args.moves.now c.args.lost.now _ c.as_slice-nodes.result.now c.as_slice-links.result.now c.as_slice-moves.result.now c.as_slice-nodes.ensures.members c.as_slice-links.ensures.members c.as_slice-moves.ensures.members c.leaving_items-leaving.ensures c.in_ok-short.ensures
