use Rattle.ax_bits.specs.Out.{room}
use Rattle.ax_format.specs.Plain.{value_tree}
use Rattle.ax_values.proofs.Written.{number_room}
use Rattle.ax_values.proofs.write_units.write_number.Goals as goal

pub push_bits-requires-clause-room : goal.push_bits-requires-clause-room
push_bits-requires-clause-room c = number_room c.args.width (value_tree c.args.value.now) (room c.args.out.now) c.requires.shape c.requires.room
