use Rattle.ax_convert_work.proofs.DataBlocks.{Encoded}
use Rattle.ax_convert_work.proofs.blocks.data_blocks.Given as goal

abbrev pub invariant-loop-piece : goal.invariant-loop-piece
invariant-loop-piece l = Encoded l.items.spec.now l.pieces l.made l.piece-index
