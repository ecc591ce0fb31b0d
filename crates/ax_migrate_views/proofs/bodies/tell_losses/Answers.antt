use Rattle.std.proofs.Common.{sym, subst, refl}
use Rattle.ax_migration.specs.Finding.{record_losses}
use Rattle.ax_migration.specs.Losing.{lost_lines}
use Rattle.ax_moves.proofs.Slots.{placed_by}
use Rattle.ax_moves.specs.Laying.{Gathers}
use Rattle.ax_moves.specs.Lost.{key_paths}
use Rattle.ax_walk.specs.Placing.{entries_there}
use Rattle.ax_migrate_views.proofs.bodies.tell_losses.Goals as goal

pub tell_record-requires-clause-placed : goal.tell_record-requires-clause-placed
tell_record-requires-clause-placed c =
    placed_by _ c.args.whole.now.codec.now c.args.whole.now.codec.now.slots c.args.whole.now.body.now c.args.whole.now.at c.args.whole.now.places.now c.requires.placed.end refl (sym c.requires.placed.slots) refl refl refl c.args.whole.now.codec.now.records.within c.requires.placed.placed

pub returns-clause-told : goal.returns-clause-told
returns-clause-told c =
    let ns = c.args.whole.now.codec.now.nodes in
    subst (λ links. Gathers (lost_lines c.args.name.block (record_losses c.args.name.number (entries_there ns links c.args.whole.now.body.now c.args.whole.now.at) (key_paths c.args.keys.now))) c.args.at c.tell_record.result c.args.lines.now c.tell_record.new.lines) c.requires.placed.slots c.tell_record.ensures.told
