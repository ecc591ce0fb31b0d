use Rattle.ax_block_reader.proofs.Once.{one_block, one_fault, no_fault}
use Rattle.ax_laws.proofs.block_reader.one_answer.Goals as goal

pub returns : goal.returns
returns c = record { block = one_block; fault = one_fault; none = no_fault }
