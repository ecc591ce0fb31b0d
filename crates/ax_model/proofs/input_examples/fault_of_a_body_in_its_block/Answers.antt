use Rattle.ax_model.proofs.InputExamples.{past_the_header}
use Rattle.ax_model.proofs.input_examples.fault_of_a_body_in_its_block.Goals as goal

pub returns-clause-ends : goal.returns-clause-ends
returns-clause-ends c = past_the_header
