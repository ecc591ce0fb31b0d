use Rattle.ax_moves.proofs.MovedCanon.{record_canon_moved}
use Rattle.ax_laws.proofs.migrate_views.moves_spell_the_migrated_record.Goals as goal

pub returns : goal.returns
returns c = record_canon_moved
