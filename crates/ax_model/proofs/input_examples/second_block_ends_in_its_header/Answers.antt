use Rattle.ax_model.proofs.InputExamples.{in_second_header}
use Rattle.ax_model.proofs.input_examples.second_block_ends_in_its_header.Goals as goal

pub returns-clause-ends : goal.returns-clause-ends
returns-clause-ends c = in_second_header
