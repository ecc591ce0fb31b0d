use Rattle.std.proofs.Common.{sym, ◌∙◌, ap, subst, refl, ◌++◌}
use Rattle.ax_relation.specs.PlainMoves.{moves_tree}
use Rattle.ax_moves.proofs.Entries.{record_canon}
use Rattle.ax_moves.proofs.Slots.{placed_by}
use Rattle.ax_moves.specs.Laying.{Lays}
use Rattle.ax_moves.specs.Octets.{field_by, entries_canon_by}
use Rattle.ax_moves.specs.Wholes.{slots_in}
use Rattle.ax_codec.specs.Table.{record_kind_at}
use Rattle.ax_walk.specs.Placing.{entries_there}
use Rattle.ax_migrate_views.proofs.bodies.lay_record.Goals as goal

pub lay_moved-requires-clause-placed : goal.lay_moved-requires-clause-placed
lay_moved-requires-clause-placed c =
    placed_by _ c.args.whole.now.codec.now c.args.whole.now.codec.now.slots c.args.whole.now.body.now c.args.whole.now.at c.args.whole.now.places.now c.requires.placed.end refl (sym c.requires.placed.slots) refl refl refl c.args.whole.now.codec.now.records.within c.requires.placed.placed

pub returns-clause-laid : goal.returns-clause-laid
returns-clause-laid c =
    let ms = moves_tree c.args.moves.now in
    let ns = c.args.whole.now.codec.now.nodes in
    let same = ap (λ links. field_by ms (entries_there ns links c.args.whole.now.body.now c.args.whole.now.at) ++ entries_canon_by ms (slots_in (record_kind_at ns links)) (entries_there ns links c.args.whole.now.body.now c.args.whole.now.at)) c.requires.placed.slots in
    subst (λ b. Lays b c.args.at c.lay_moved.result c.args.output.now c.lay_moved.new.output) (same ∙ record_canon ms ns c.args.whole.now.codec.now.slots (entries_there ns c.args.whole.now.codec.now.slots c.args.whole.now.body.now c.args.whole.now.at)) c.lay_moved.ensures.laid
