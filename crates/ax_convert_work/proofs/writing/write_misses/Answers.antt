use Rattle.ax_convert_work.proofs.WrittenLists.{one_failed, one_written}
use Rattle.ax_rescale.specs.Missed.{missed_line}
use Rattle.ax_convert_work.proofs.writing.write_misses.Goals as goal

pub returns-in_err-miss_line : goal.returns-in_err-miss_line
returns-in_err-miss_line g c =
    one_failed (missed_line c.args.number) c.args.misses.now _ _ _ _ _ _ c.loop-one.one-index c.as_slice-one-items.result.now c.as_slice-one-items.ensures.members c.one-item.result c.loop-one-test.true c.one-item.is c.loop-one.invariant _ _ c.from_residual.ensures.0 c.in_err-miss_line.ensures

pub loop-one-preserved : goal.loop-one-preserved
loop-one-preserved g c =
    one_written (missed_line c.args.number) c.args.misses.now _ _ _ _ _ _ c.loop-one.one-index c.as_slice-one-items.result.now c.as_slice-one-items.ensures.members c.one-item.result c.loop-one-test.true c.one-item.is c.loop-one.invariant _ c.in_ok-miss_line.ensures
