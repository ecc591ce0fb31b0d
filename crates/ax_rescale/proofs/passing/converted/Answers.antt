use Rattle.ax_format.specs.Plain.{kind_tree, value_tree}
use Rattle.ax_rescale.proofs.ValueFunction.{result_is}
use Rattle.ax_rescale.proofs.passing.converted.Goals as goal

pub returns : goal.returns
returns c = result_is (kind_tree c.args.pair.old.now) (kind_tree c.args.pair.new.now) (value_tree c.args.value.now) c.convert_value.result c.requires.old_scaled c.requires.new_scaled c.convert_value.ensures.some c.convert_value.ensures.none
