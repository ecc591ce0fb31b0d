use Rattle.std.proofs.Common.{◌-◌, arith, refl}
use Rattle.ax_printed_lines.proofs.Room.{moved_first, moved_next, moved_whole}
use Rattle.ax_printed_lines.proofs.moving.moved_up.Goals as goal

pub loop-laid-init : goal.loop-laid-init
loop-laid-init c = moved_first c.args.buffer.now c.args.from c.args.to (omega arith) (omega arith)

pub loop-laid-preserved : goal.loop-laid-preserved
loop-laid-preserved c =
    moved_next c.args.buffer.now c.loop-laid.buffer c.piece_copied-count.new.buffer c.args.from c.args.to c.loop-laid.read c.loop-laid.laid c.piece_copied-count.result (omega arith) (omega arith) c.loop-laid.invariant c.piece_copied-count.ensures.size c.piece_copied-count.ensures.copied c.piece_copied-count.ensures.rest

pub returns-clause-moved : goal.returns-clause-moved
returns-clause-moved c = moved_whole c.args.buffer.now c.loop-laid.buffer c.args.from c.args.to c.loop-laid.read c.loop-laid.laid _ (c.args.stop - c.args.from) (omega arith) c.loop-laid.invariant refl (omega arith)
