use Rattle.ax_vectors.proofs.RecordDraws.{record_slots_bounds}
use Rattle.ax_vectors.proofs.blocks.make_record.Goals as goal

pub make_items-requires : goal.make_items-requires
make_items-requires c = record_slots_bounds c.args.spec.now c.requires
